-- A take, and a row of takes, has an outcome, and only one. Assumes nothing.
use Rattle.std.proofs.Common.{◌≡◌, ℕ, zero, suc, ◌<◌, ◌≤◌, Bool, true, ◌⊎◌, List, length, Some, None, Option, sym, refl, ap, ◌∙◌, subst₂, inl, inr, ⊎_elim, arith}
use mathlib.Core.List.{List-discrete}
use native.Mathlib.Decide.{ℕ_discrete}
use Rattle.std.proofs.lemmas.Bool.{both_ways, cases_Bool, cases_lt}
use Rattle.task.specs.Task.{FactoredTask, Lawful, Step, Goal}
use Rattle.estimators.specs.Estimates.{Consistent}
use Rattle.lists.specs.declared.keys.SearchKey.{SearchKey}
use Rattle.astar.specs.Limits.{entry_limit}
use Rattle.astar.specs.Boards.{Board, Entry, entry, Held, Unheld, Next, took, counted, child, Dominated, Treats, known, improved, hopeless, dominated, new, NoRoom, Tries, begin, blocked, steps, expands, nobody, reaches, fills as overfills, Searching, more}
use Rattle.astar.specs.Takes.{Word, plan, none, full, Takes, Works, enough, goes, finds, exhausts, fills, TakesOneWay}
use Rattle.astar.proofs.Options.{not_both}
use Rattle.astar.proofs.Invariant.{Sound, Standing, waits, gone, Between, Expanding}
use Rattle.astar.proofs.Treating.{tries}
use Rattle.astar.proofs.Taking.{searching as searches}
use Rattle.astar.proofs.Deciding.{look, option_cases, goal_cases, step_cases, Best, best}
use Rattle.astar.proofs.Single.{Jam, opened, takes_one}

same_cases : (s u : List ℕ) → (s ≡ u → ⊥) ⊎ (s ≡ u)
same_cases s u = go (List-discrete ℕ_discrete s u)
  where
    go : Dec (s ≡ u) → (s ≡ u → ⊥) ⊎ (s ≡ u)
    go (yes same) = inr same
    go (no apart) = inl apart

held_cases : (b : Board) (s : List ℕ) → Unheld b s ⊎ ((i : ℕ) × Held b s i)
held_cases b s = ⊎_elim (λ all. inl (λ i held. all i held.0 held.1)) (λ (i, low, is). inr (i, (low, is))) (look (λ i. same_cases (entry b i).state s) (length b.entries))

standing_hopes : {t : FactoredTask} {h : List ℕ → Option ℕ} {f i : ℕ} {e : Entry} {o : Option SearchKey} → Standing t h f i e o → (d : ℕ) × (h e.state ≡ Some d)
standing_hopes (waits d hopes high) = (d, hopes)
standing_hopes (gone d hopes low end) = (d, hopes)

module _ (t : FactoredTask) (below : List ℕ → List ℕ → Bool) (h : List ℕ → Option ℕ) where
  dominated_cases : (b : Board) (s : List ℕ) (g : ℕ) → (Dominated t below h b s g → ⊥) ⊎ Dominated t below h b s g
  dominated_cases b s g = ⊎_elim (λ all. inl (λ (i, low, cheap, better). all i low (cheap, better))) (λ (i, low, at). inr (i, low, at.0, at.1)) (look each (length b.entries))
    where
      each : (i : ℕ) → (((entry b i).cost ≤ g) × (below s (entry b i).state ≡ true) → ⊥) ⊎ (((entry b i).cost ≤ g) × (below s (entry b i).state ≡ true))
      each i =
          ⊎_elim
          (λ dear. inl (λ at. omega (arith, at.0)))
          (λ cheap. ⊎_elim (λ better. inr (cheap, better)) (λ not. inl (λ at. both_ways _ not at.1)) (cases_Bool (below s (entry b i).state)))
          (cases_lt g (entry b i).cost)

  -- one of the rules treats the state of e, or there is no room for it
  module _ {b : Board} {f : ℕ} (sound : Sound t h b f) (e : Entry) where
    treated_held : (i : ℕ) → Held b e.state i → (b' : Board) × Treats t below h b e b'
    treated_held i held =
        let (d, hopes) = standing_hopes (sound.stands i held.0) in
        ⊎_elim (λ less. (_, improved i d held less (ap h (sym held.1) ∙ hopes))) (λ cheap. (_, known i held cheap)) (cases_lt e.cost (entry b i).cost)

    treated_unheld : Unheld b e.state → ((b' : Board) × Treats t below h b e b') ⊎ NoRoom t below h b e
    treated_unheld unheld =
        ⊎_elim
        (λ (d, is). hopeful d is (dominated_cases b e.state e.cost) (cases_lt (length b.entries) entry_limit))
        (λ is. inl (b, hopeless unheld is))
        (option_cases (h e.state))
      where
        hopeful : (d : ℕ) → h e.state ≡ Some d → (Dominated t below h b e.state e.cost → ⊥) ⊎ Dominated t below h b e.state e.cost
            → (length b.entries < entry_limit) ⊎ (entry_limit ≤ length b.entries) → ((b' : Board) × Treats t below h b e b') ⊎ NoRoom t below h b e
        hopeful d is (inr better) room = inl (b, dominated d unheld is better)
        hopeful d is (inl not) (inl room) = inl (_, new d unheld is not room)
        hopeful d is (inl not) (inr all) = inr (record { unheld = unheld; hopeful = (d, is); undominated = not; full = omega (arith, sound.room) })

    treated : ((b' : Board) × Treats t below h b e b') ⊎ NoRoom t below h b e
    treated = ⊎_elim treated_unheld (λ (i, held). inl (treated_held i held)) (held_cases b e.state)

  module _ (lawful : Lawful t) (consistent : Consistent t h) where
    -- the labels 1 to l are tried on entry i, unless there is no room for the state that one of them leads to
    module _ {i : ℕ} {b : Board} {d : ℕ} (c : Expanding t below h i (entry b i) d b 0) where
      Tried : ℕ → Type 0
      Tried l = ((b' : Board) × (n : ℕ) × Tries t below h i b l b' n) ⊎ ((k : ℕ) × (b' : Board) × (k < l) × Jam t below h i b k b')

      tried_more : (l : ℕ) → l < t.labels → Tried l → Tried (suc l)
      unfolding Tried
      tried_more l low (inr (k, b', less, jam)) = inr (k, b', omega arith, jam)
      tried_more l low (inl (b', n, before)) = ⊎_elim stepped (λ never. inl (b', n, blocked before never)) (step_cases t (entry b i).state l (c.sound.states i c.inside).each low)
        where
          stepped : (s : List ℕ) × Step t (entry b i).state (suc l) s → Tried (suc l)
          stepped (s, step) =
              ⊎_elim
              (λ (b'', treat). inl (b'', suc n, steps before s step treat))
              (λ tight. inr (l, b', omega arith, record { count = n; tried = before; state = s; step = step; tight = tight }))
              (treated (tries t below h lawful consistent c before).sound (child t below h b i (suc l) s))

      tried : (l : ℕ) → l ≤ t.labels → Tried l
      unfolding Tried
      tried zero low = inl (b, 0, begin)
      tried (suc l) low = tried_more l low (tried l (omega arith))

    module _ {b : Board} {n : ℕ} (searching : Searching t below h b n) where
      c : Between t below h b n
      c = searches t below h lawful consistent searching

      expanded : (i : ℕ) → Next b i → (Goal t (entry b i).state → ⊥) → (b' : Board) × (w : Option Word) × Takes t below h b b' w
      unfolding Tried
      expanded i least end =
          ⊎_elim
          (λ (b', m, all). (counted b' m, None, expands i m least end all))
          (λ (l, b', low, jam). (b', Some full, overfills i l jam.count jam.state least end jam.tried low jam.step jam.tight))
          (tried (opened t below h lawful consistent searching least end).1 t.labels (omega arith))

      -- the least of all keys
      next_of : (k : Best b.waiting (length b.entries)) → Next b k.place
      next_of k = (k.key, record { held = k.here; least = λ j key is. within j is (λ low. k.least j key low is); lowest = λ j is. ⊎_elim (λ low. absurd (k.lowest j low is)) (λ high. high) (cases_lt j k.place) })
        where
          -- only entries wait
          within : {A : Type 0} (j : ℕ) {key : SearchKey} → b.waiting j ≡ Some key → (j < length b.entries → A) → A
          within j is low = ⊎_elim low (λ far. not_both is (c.sound.past j far)) (cases_lt j (length b.entries))

      takes_some : (b' : Board) × (w : Option Word) × Takes t below h b b' w
      takes_some =
          ⊎_elim
          (λ idle. (b, Some none, nobody (λ i. ⊎_elim (idle i) (c.sound.past i) (cases_lt i (length b.entries)))))
          (λ k. ⊎_elim (λ goal. (took b k.place, Some (plan k.place), reaches k.place (next_of k) goal)) (expanded k.place (next_of k)) (goal_cases t (entry b k.place).state))
          (best b.waiting (length b.entries))

    works_some : (k : ℕ) (b : Board) (n : ℕ) → Searching t below h b n → (b' : Board) × (w : Option Word) × Works t below h k b b' w
    works_some zero b n searching = (b, None, enough)
    works_some (suc k) b n searching = go (works_some k) (takes_some searching)
      where
        go : ((b : Board) (n : ℕ) → Searching t below h b n → (b' : Board) × (w : Option Word) × Works t below h k b b' w) → (b' : Board) × (w : Option Word) × Takes t below h b b' w → (b' : Board) × (w : Option Word) × Works t below h (suc k) b b' w
        go rest (b', None, take) = let (b'', w, others) = rest b' (suc n) (more searching take) in (b'', w, goes take others)
        go rest (b', Some (plan i), take) = (b', Some (plan i), finds take)
        go rest (b', Some none, take) = (b', Some none, exhausts take)
        go rest (b', Some full, take) = (b', Some full, fills take)

    -- what is left of some takes after the first of them
    Rest : ℕ → Board → Board → Option Word → Option Word → Type 0
    Rest k b b' w None = Works t below h k b b' w
    Rest k b b' w (Some v) = (b ≡ b') × (Some v ≡ w)

    first_take : {k : ℕ} {b b' : Board} {w : Option Word} → Works t below h (suc k) b b' w → (b₁ : Board) × (v : Option Word) × Takes t below h b b₁ v × Rest k b₁ b' w v
    unfolding Rest
    first_take (goes take rest) = (_, None, take, rest)
    first_take (finds take) = (_, Some (plan _), take, (refl, refl))
    first_take (exhausts take) = (_, Some none, take, (refl, refl))
    first_take (fills take) = (_, Some full, take, (refl, refl))

    works_one : (k : ℕ) {b' b'' : Board} {w v : Option Word} (b : Board) (n : ℕ) → Searching t below h b n → Works t below h k b b' w → Works t below h k b b'' v → (b' ≡ b'') × (w ≡ v)
    unfolding Rest
    works_one zero b n searching enough enough = (refl, refl)
    works_one (suc k) {b'} {b''} {w} {v} b n searching p q =
        let (b₁, x, take, rest) = first_take p in
        let (b₂, y, other, rest') = first_take q in
        let (same, alike) = takes_one t below h lawful consistent searching x y take other in
        go b₁ (works_one k) x take rest (subst₂ (λ d z. Rest k d b'' v z) (sym same) (sym alike) rest')
      where
        go : (b₁ : Board) → ((b : Board) (n : ℕ) → Searching t below h b n → Works t below h k b b' w → Works t below h k b b'' v → (b' ≡ b'') × (w ≡ v))
            → (x : Option Word) → Takes t below h b b₁ x → Rest k b₁ b' w x → Rest k b₁ b'' v x → (b' ≡ b'') × (w ≡ v)
        go b₁ later None take rest rest' = later b₁ (suc n) (more searching take) rest rest'
        go b₁ later (Some x) take rest rest' = (sym rest.0 ∙ rest'.0, sym rest.1 ∙ rest'.1)

pub takes_one_way : TakesOneWay
takes_one_way t below h lawful consistent = record {
  take_some = λ b n searching. takes_some t below h lawful consistent searching;
  take_one = λ b b' b'' n w v searching. takes_one t below h lawful consistent searching w v;
  work_some = works_some t below h lawful consistent;
  work_one = λ k b b' b'' n w v searching. works_one t below h lawful consistent k b n searching;
}
