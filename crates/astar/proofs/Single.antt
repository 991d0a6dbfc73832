-- A take has one outcome at most. Assumes nothing.
use Rattle.std.proofs.Common.{◌≡◌, ℕ, suc, ◌<◌, Bool, ◌⊎◌, List, Some, None, Option, sym, refl, ap, subst, ap₂, subst₂, inl, inr, ⊎_elim, arith}
use Rattle.std.proofs.lemmas.Bool.{cases_eq, cases_order}
use Rattle.task.specs.Task.{FactoredTask, Lawful, Step, Goal}
use Rattle.estimators.specs.Estimates.{Consistent}
use Rattle.lists.specs.Sooner.{sum_sooner}
use Rattle.lists.specs.Orders.{sum_ties}
use Rattle.lists.proofs.Deciding.{least_same}
use Rattle.astar.specs.Boards.{Board, entry, Next, took, counted, child, Treats, NoRoom, Tries, begin, blocked, steps, expands, nobody, reaches, fills, Searching}
use Rattle.astar.specs.Takes.{Word, plan, none, full, Takes}
use Rattle.astar.proofs.Options.{not_both}
use Rattle.astar.proofs.Runs.{step_one}
use Rattle.astar.proofs.Invariant.{Between, Expanding}
use Rattle.astar.proofs.Treating.{tries}
use Rattle.astar.proofs.Taking.{lowest, taking, searching as searches}
use Rattle.astar.proofs.Rules.{treats_one, untreated}

-- one entry waits under the least key
next_one : (b : Board) {i j : ℕ} → Next b i → Next b j → j ≡ i
next_one b {i} {j} l m = least_same sum_sooner sum_ties b.waiting i j l.0 m.0 l.1 m.1

module _ (t : FactoredTask) (below : List ℕ → List ℕ → Bool) (h : List ℕ → Option ℕ) where
  -- the labels 1 to l are tried on entry i, and there is no room for the state that the next one leads to
  pub record Jam (i : ℕ) (b : Board) (l : ℕ) (b' : Board) : Type 0 where
    pub count : ℕ
    pub tried : Tries t below h i b l b' count
    pub state : List ℕ
    pub step : Step t (entry b i).state (suc l) state
    pub tight : NoRoom t below h b' (child t below h b i (suc l) state)

  -- the state that label suc l leads to is treated on the way
  record Passes (i : ℕ) (b : Board) (l : ℕ) (s : List ℕ) : Type 0 where
    count : ℕ
    before : Board
    after : Board
    tried : Tries t below h i b l before count
    treat : Treats t below h before (child t below h b i (suc l) s) after

  passed : {i : ℕ} {b b' : Board} {k n : ℕ} (l : ℕ) (s : List ℕ) → l < k → Step t (entry b i).state (suc l) s → Tries t below h i b k b' n → Passes i b l s
  passed l s low step begin = absurd (omega arith)
  passed {i} {b} l s low step (blocked {l = k} tried never) =
      ⊎_elim
      (λ at. absurd (never s (subst (λ x. Step t (entry b i).state (suc x) s) at step)))
      (λ apart. passed l s (omega arith) step tried)
      (cases_eq l k)
  passed {i} {b} l s low step (steps {l = k} tried s' step' treat) =
      ⊎_elim
      (λ at. subst₂ (Passes i b) (sym at) (step_one step' (subst (λ x. Step t (entry b i).state (suc x) s) at step)) (record { count = _; before = _; after = _; tried = tried; treat = treat }))
      (λ apart. passed l s (omega arith) step tried)
      (cases_eq l k)

  module _ (lawful : Lawful t) (consistent : Consistent t h) where
    module _ {i : ℕ} {b : Board} {d : ℕ} (c : Expanding t below h i (entry b i) d b 0) where
      tries_one : {l n m : ℕ} {b' b'' : Board} → Tries t below h i b l b' n → Tries t below h i b l b'' m → (b' ≡ b'') × (n ≡ m)
      tries_one begin begin = (refl, refl)
      tries_one (blocked p never) (blocked q never') = tries_one p q
      tries_one (blocked p never) (steps q s step treat) = absurd (never s step)
      tries_one (steps p s step treat) (blocked q never) = absurd (never s step)
      tries_one {b'' = b''} (steps {l = l} p s step treat) (steps q s' step' treat') =
          let (same, count) = tries_one p q in
          (treats_one t below h (tries t below h lawful consistent c p).sound treat (subst₂ (λ x y. Treats t below h x (child t below h b i (suc l) y) b'') (sym same) (step_one step' step) treat'), ap suc count)

      -- after a label for whose state there is no room, no other is tried
      jam_last : {l k m : ℕ} {b' b'' : Board} → Jam i b l b' → l < k → Tries t below h i b k b'' m → ⊥
      jam_last {l} j low q =
          let p = passed l j.state low j.step q in
          untreated t below h j.tight (subst (λ x. Treats t below h x (child t below h b i (suc l) j.state) p.after) (tries_one p.tried j.tried).0 p.treat)

      jam_one : {l k : ℕ} {b' b'' : Board} → Jam i b l b' → Jam i b k b'' → b' ≡ b''
      jam_one {l} {k} {b'} {b''} p q = go (cases_order l k)
        where
          go : (l ≡ k) ⊎ ((l < k) ⊎ (k < l)) → b' ≡ b''
          go (inl same) = (tries_one (subst (λ x. Tries t below h i b x b' p.count) same p.tried) q.tried).0
          go (inr (inl less)) = absurd (jam_last p less q.tried)
          go (inr (inr more)) = absurd (jam_last q more p.tried)

    -- a take from a board that a search has come to
    module _ {b : Board} {n : ℕ} (searching : Searching t below h b n) where
      c : Between t below h b n
      c = searches t below h lawful consistent searching

      pub opened : {i : ℕ} → Next b i → (Goal t (entry b i).state → ⊥) → (d : ℕ) × Expanding t below h i (entry b i) d (took b i) 0
      opened {i} least end =
          let low = lowest t h b c.floor i c.sound least in
          (low.estimate, taking t below h c low end)

      idle_never : {A : Type 0} {i : ℕ} → Next b i → ((i : ℕ) → b.waiting i ≡ None) → A
      idle_never {i = i} least idle = not_both least.1.held (idle i)

      goal_never : {A : Type 0} {i j : ℕ} → Next b i → (Goal t (entry b i).state → ⊥) → Next b j → Goal t (entry b j).state → A
      goal_never least end least' goal = absurd (end (subst (λ x. Goal t (entry b x).state) (next_one b least least') goal))

      full_never : {A : Type 0} {i j l m : ℕ} {b' b'' : Board} → Next b i → (Goal t (entry b i).state → ⊥) → Jam i (took b i) l b' → l < t.labels → Next b j → Tries t below h j (took b j) t.labels b'' m → A
      full_never {m = m} {b'' = b''} least end jam low least' tried = absurd (jam_last (opened least end).1 jam low (subst (λ x. Tries t below h x (took b x) t.labels b'' m) (next_one b least least') tried))

      pub takes_one : (w v : Option Word) {b' b'' : Board} → Takes t below h b b' w → Takes t below h b b'' v → (b' ≡ b'') × (w ≡ v)
      takes_one None None (expands i n least end tried) (expands {b' = b''} j m least' end' tried') =
          let same = tries_one (opened least end).1 tried (subst (λ x. Tries t below h x (took b x) t.labels b'' m) (next_one b least least') tried') in
          (ap₂ counted same.0 same.1, refl)
      takes_one None (Some (plan _)) (expands i n least end tried) (reaches j least' goal) = goal_never least end least' goal
      takes_one None (Some none) (expands i n least end tried) (nobody idle) = idle_never least idle
      takes_one None (Some full) (expands i n least end tried) (fills j l m s least' end' tried' low step tight) = full_never least' end' (record { count = m; tried = tried'; state = s; step = step; tight = tight }) low least tried
      takes_one (Some (plan _)) None (reaches i least goal) (expands j m least' end tried) = goal_never least' end least goal
      takes_one (Some (plan _)) (Some (plan _)) (reaches i least goal) (reaches j least' goal') = let same = next_one b least' least in (ap (took b) same, ap (λ x. Some (plan x)) same)
      takes_one (Some (plan _)) (Some none) (reaches i least goal) (nobody idle) = idle_never least idle
      takes_one (Some (plan _)) (Some full) (reaches i least goal) (fills j l m s least' end tried low step tight) = goal_never least' end least goal
      takes_one (Some none) None (nobody idle) (expands j m least end tried) = idle_never least idle
      takes_one (Some none) (Some (plan _)) (nobody idle) (reaches j least goal) = idle_never least idle
      takes_one (Some none) (Some none) (nobody idle) (nobody idle') = (refl, refl)
      takes_one (Some none) (Some full) (nobody idle) (fills j l m s least end tried low step tight) = idle_never least idle
      takes_one (Some full) None (fills i l n s least end tried low step tight) (expands j m least' end' tried') = full_never least end (record { count = n; tried = tried; state = s; step = step; tight = tight }) low least' tried'
      takes_one (Some full) (Some (plan _)) (fills i l n s least end tried low step tight) (reaches j least' goal) = goal_never least end least' goal
      takes_one (Some full) (Some none) (fills i l n s least end tried low step tight) (nobody idle) = idle_never least idle
      takes_one (Some full) (Some full) (fills i l n s least end tried low step tight) (fills {b' = b''} j k m u least' end' tried' low' step' tight') =
          let there : Jam j (took b j) k b'' = record { count = m; tried = tried'; state = u; step = step'; tight = tight' } in
          (jam_one (opened least end).1 (record { count = n; tried = tried; state = s; step = step; tight = tight }) (subst (λ x. Jam x (took b x) k b'') (next_one b least least') there), refl)
