-- Comparisons that agree on the states of a task make the same runs. Assumes nothing.
use Rattle.std.proofs.Common.{◌≡◌, ℕ, zero, suc, ◌<◌, Bool, ◌&&◌, List, Option, sym, refl, ◌∙◌, ap₂, arith}
use Rattle.task.specs.Task.{FactoredTask, Lawful, State}
use Rattle.ranking.specs.Ranking.{Ranking, every, under}
use Rattle.ranking.proofs.Dominating.{moves_state}
use Rattle.ranking.proofs.Once.{Agree}
use Rattle.estimators.specs.Estimates.{Consistent}
use Rattle.astar.specs.Boards.{Board, Entry, entry, Dominated, Treats, known, improved, hopeless, dominated, new, NoRoom, Tries, begin, blocked, steps, Goes, expands, EndsNone, nobody, EndsPlan, reaches, EndsFull, fills as overfills, Searching, more}
use Rattle.astar.specs.Takes.{Word, Works, enough, goes, finds, exhausts, fills}
use Rattle.astar.proofs.Invariant.{Sound, Expanding}
use Rattle.astar.proofs.Treating.{tries}
use Rattle.astar.proofs.Single.{opened}

every_same : (p q : ℕ → Bool) (n : ℕ) → ((k : ℕ) → k < n → p k ≡ q k) → every p n ≡ every q n
every_same p q zero same = refl
every_same p q (suc n) same = ap₂ ◌&&◌ (every_same p q n (λ k low. same k (omega arith))) (same n (omega arith))

-- rankings that say the same of the facts of a task compare its states alike
pub under_same : (t : FactoredTask) (r q : Ranking) → Agree t r q → (s u : List ℕ) → State t s → State t u → under t r s u ≡ under t q s u
under_same t r q agree s u S U = every_same _ _ t.factors (λ j low. agree j _ _ low (S.known j low) (U.known j low))

module _ (t : FactoredTask) (h : List ℕ → Option ℕ) (lawful : Lawful t) (consistent : Consistent t h) (below below' : List ℕ → List ℕ → Bool) (same : (s u : List ℕ) → State t s → State t u → below s u ≡ below' s u) where
  module _ {b : Board} {f : ℕ} (sound : Sound t h b f) {s : List ℕ} (S : State t s) where
    dominated_too : {g : ℕ} → Dominated t below h b s g → Dominated t below' h b s g
    dominated_too (i, inside, cheap, better) = (i, inside, cheap, sym (same s _ S (sound.states i inside)) ∙ better)

    undominated_too : {g : ℕ} → (Dominated t below h b s g → ⊥) → Dominated t below' h b s g → ⊥
    undominated_too not (i, inside, cheap, better) = not (i, inside, cheap, same s _ S (sound.states i inside) ∙ better)

  treats_too : {b b' : Board} {f : ℕ} {e : Entry} → Sound t h b f → State t e.state → Treats t below h b e b' → Treats t below' h b e b'
  treats_too sound S (known i held cheap) = known i held cheap
  treats_too sound S (improved i estimate held less is) = improved i estimate held less is
  treats_too sound S (hopeless unheld is) = hopeless unheld is
  treats_too sound S (dominated estimate unheld is better) = dominated estimate unheld is (dominated_too sound S better)
  treats_too sound S (new estimate unheld is not room) = new estimate unheld is (undominated_too sound S not) room

  noroom_too : {b : Board} {f : ℕ} {e : Entry} → Sound t h b f → State t e.state → NoRoom t below h b e → NoRoom t below' h b e
  noroom_too sound S tight = record { unheld = tight.unheld; hopeful = tight.hopeful; undominated = undominated_too sound S tight.undominated; full = tight.full }

  module _ {i : ℕ} {b : Board} {d : ℕ} (c : Expanding t below h i (entry b i) d b 0) where
    tries_too : {l n : ℕ} {b' : Board} → Tries t below h i b l b' n → Tries t below' h i b l b' n
    tries_too begin = begin
    tries_too (blocked tried never) = blocked (tries_too tried) never
    tries_too (steps tried s step treat) =
        steps (tries_too tried) s step (treats_too (tries t below h lawful consistent c tried).sound (moves_state lawful (c.sound.states i c.inside) step.moves) treat)

  module _ {b : Board} {n : ℕ} (searching : Searching t below h b n) where
    goes_too : {b' : Board} → Goes t below h b b' → Goes t below' h b b'
    goes_too (expands i n least end tried) = expands i n least end (tries_too (opened t below h lawful consistent searching least end).1 tried)

    full_too : {b' : Board} → EndsFull t below h b b' → EndsFull t below' h b b'
    full_too (overfills i l n s least end tried low step tight) =
        let c = (opened t below h lawful consistent searching least end).1 in
        overfills i l n s least end (tries_too c tried) low step (noroom_too (tries t below h lawful consistent c tried).sound (moves_state lawful (c.sound.states i c.inside) step.moves) tight)

  plan_too : {b : Board} {i : ℕ} {b' : Board} → EndsPlan t below h b i b' → EndsPlan t below' h b i b'
  plan_too (reaches i least goal) = reaches i least goal

  none_too : {b b' : Board} → EndsNone t below h b b' → EndsNone t below' h b b'
  none_too (nobody idle) = nobody idle

  pub works_too : {k n : ℕ} {b b' : Board} {w : Option Word} → Searching t below h b n → Works t below h k b b' w → Works t below' h k b b' w
  works_too searching enough = enough
  works_too searching (goes take rest) = goes (goes_too searching take) (works_too (more searching take) rest)
  works_too searching (finds take) = finds (plan_too take)
  works_too searching (exhausts take) = exhausts (none_too take)
  works_too searching (fills take) = fills (full_too searching take)
