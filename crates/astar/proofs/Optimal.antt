-- Every plan leaves an entry that waits and whose sum is no more than the plan costs, so the search ends with a cheapest
-- plan, and without one only where there is none. Assumes nothing.
use Rattle.std.proofs.Common.{◌≡◌, ℕ, zero, suc, ◌+◌, ◌<◌, ◌≤◌, Bool, List, length, Some, None, Option, sym, refl, ◌∙◌, subst, inl, inr, arith}
use Rattle.task.specs.Task.{FactoredTask, Lawful, State, Step, Runs, done, goes, Plan, PlanFrom, Goal, price, total}
use Rattle.estimators.specs.Estimates.{Consistent}
use Rattle.ranking.specs.Comparison.{Comparison}
use Rattle.lists.specs.declared.keys.SearchKey.{SearchKey}
use Rattle.astar.specs.Boards.{Board, entry, key_of}
use Rattle.ranking.proofs.Dominating.{moves_state, plan_answered}
use Rattle.astar.proofs.Options.{some_same, not_both}
use Rattle.astar.proofs.Runs.{estimated}
use Rattle.astar.proofs.Invariant.{Standing, waits, gone, Met, Between}

-- an entry waits whose sum is g at most
pub record Waiting (b : Board) (g : ℕ) : Type 0 where
  pub place : ℕ
  pub key : SearchKey
  pub here : b.waiting place ≡ Some key
  pub low : key.sum ≤ g

waiting_up : {b : Board} {g k : ℕ} → g ≤ k → Waiting b g → Waiting b k
waiting_up up w = record { place = w.place; key = w.key; here = w.here; low = omega (arith, w.low) }

-- an entry waits for each plan, shorter than n, that goes on from an entry
abbrev Follows : FactoredTask → Board → ℕ → Type 0
Follows t b n = (j : ℕ) (ls : List ℕ) → length ls < n → j < length b.entries → PlanFrom t (entry b j).state ls → Waiting b ((entry b j).cost + total t ls)

module _ (t : FactoredTask) (below : List ℕ → List ℕ → Bool) (h : List ℕ → Option ℕ) (lawful : Lawful t) (compares : Comparison t below) (consistent : Consistent t h) (b : Board) (n : ℕ) (c : Between t below h b n) where
  -- where a state is met, a plan goes on from the entry that meets it
  follows_met : (m : ℕ) → Follows t b m → (s ls : List ℕ) (g : ℕ) → State t s → length ls < m → PlanFrom t s ls → Met below h b s g → Waiting b (g + total t ls)
  follows_met m follows s ls g S short plan (inl none) = not_both (estimated t h lawful consistent s ls S plan).1 none
  follows_met m follows s ls g S short plan (inr (j, inside, cheap, inl same)) =
      waiting_up (omega arith) (follows j ls short inside (subst (λ x. PlanFrom t x ls) (sym same) plan))
  follows_met m follows s ls g S short plan (inr (j, inside, cheap, inr better)) =
      let q = plan_answered t below lawful compares s _ ls plan.last S (c.sound.states j inside) better plan.runs plan.goal in
      waiting_up (omega (arith, q.cheap)) (follows j q.labels (omega (arith, q.short)) inside q.plan)

  -- the first step of a plan that goes on from a taken entry
  follows_step : (m : ℕ) → Follows t b m → (j : ℕ) (s ls last : List ℕ) → length ls < suc m → j < length b.entries → b.waiting j ≡ None → (Goal t s → ⊥) → (entry b j).state ≡ s → Runs t s ls last → Goal t last → Waiting b ((entry b j).cost + total t ls)
  follows_step m follows j s ls last short inside none end at done goal = absurd (end goal)
  follows_step m follows j s ls last short inside none end at (goes {s' = s'} {l = l} {ls = rest} step runs) goal =
      let step' = subst (λ x. Step t x l s') (sym at) step in
      waiting_up
      (omega arith)
      (follows_met m follows s' rest ((entry b j).cost + price t l) (moves_state lawful (c.sound.states j inside) step'.moves) (omega arith) (record { last = last; runs = runs; goal = goal }) (c.closed j inside none l s' step'))

  -- an entry that waits serves itself
  follows_here : (j : ℕ) (ls : List ℕ) → j < length b.entries → PlanFrom t (entry b j).state ls → (b.waiting j ≡ None → (Goal t (entry b j).state → ⊥) → Waiting b ((entry b j).cost + total t ls)) → Waiting b ((entry b j).cost + total t ls)
  follows_here j ls inside plan taken = go (b.waiting j) refl (c.sound.stands j inside)
    where
      go : (o : Option SearchKey) → b.waiting j ≡ o → Standing t h c.floor j (entry b j) o → Waiting b ((entry b j).cost + total t ls)
      go o eq (waits g hopes high) =
          let e = estimated t h lawful consistent (entry b j).state ls (c.sound.states j inside) plan in
          let same : g ≡ e.0 = some_same (sym hopes ∙ e.1) in
          record { place = j; key = key_of (entry b j).cost g j; here = eq; low = omega (arith, e.2) }
      go o eq (gone g hopes low end) = taken eq end

  follows : (m : ℕ) → Follows t b m
  follows zero j ls short inside plan = absurd (omega arith)
  follows (suc m) j ls short inside plan =
      follows_here j ls inside plan (λ none end. follows_step m (follows m) j (entry b j).state ls plan.last short inside none end refl plan.runs plan.goal)

  -- an entry waits for each plan of the task
  pub waits_for : (ls : List ℕ) → Plan t ls → Waiting b (total t ls)
  waits_for ls plan = waiting_up (omega (arith, c.sound.free)) (follows (suc (length ls)) 0 ls (omega arith) c.sound.some (subst (λ x. PlanFrom t x ls) (sym c.sound.start) plan))
