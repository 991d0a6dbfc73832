-- Which labels reply to a move, and which do not.
use Rattle.std.proofs.Common.{◌≡◌, ℕ, ◌+◌, ◌<◌, ◌≤◌, true, false, ◌≢◌, Some, None, Decides, Option, sym, refl, ap, subst, arith}
use borrow.Author.Tests.{clash, both_ways}
use Rattle.task.specs.Task.{FactoredTask, move, price}
use Rattle.ranking.specs.Ranking.{Ranking, Serves}
use Rattle.ranking.specs.Finding.{Replied, Found, IsReply, ServesBeside}
use Rattle.ranking.specs.declared.wanted.Wanted.{Wanted}
use Rattle.ranking.proofs.Serving.{none_some, at_same}

module _ (t : FactoredTask) (r : Ranking) (w : Wanted) where
  -- the label m is that of no reply; no reply has a label below m
  abbrev pub Not : ℕ → Type 0
  Not m = (q : Replied t r w) → q.label ≡ m → ⊥

  abbrev pub AtLeast : ℕ → Type 0
  AtLeast m = (q : Replied t r w) → m ≤ q.label

  module _ (m : ℕ) where
    pub passed : AtLeast m → Not m → AtLeast (m + 1)
    passed least not q = let l = least q in let n : q.label ≢ m = not q in omega arith

    pub too_dear : price t w.label < price t m → Not m
    too_dear h q e = let p = q.cheap in let s : price t q.label ≡ price t m = ap (price t) e in omega arith

    at_label : (q : Replied t r w) → q.label ≡ m → move t w.factor m w.from ≡ Some q.into
    at_label q e = subst (λ (l : ℕ). move t w.factor l w.from ≡ Some q.into) e q.moves

    pub moves_none : move t w.factor m w.from ≡ None → Not m
    moves_none h q e = none_some h (at_label q e)

    pub too_low : (z : ℕ) → move t w.factor m w.from ≡ Some z → r w.factor w.to z ≡ false → Not m
    too_low z h low q e = both_ways _ low (at_same (r w.factor w.to) h (at_label q e) q.better)

    pub serves_none : (j : ℕ) → j < t.factors → (j ≡ w.factor → ⊥) → Decides false (Serves t r j w.label m) → Not m
    serves_none j h n d q e = clash (d.1 (subst (λ (l : ℕ). Serves t r j w.label l) e (q.serves j h n)))

  pub found_none : (o : Option (ℕ × ℕ)) → o ≡ None → (Replied t r w → ⊥) → Found t r w o
  found_none o e none = subst (λ (o : Option (ℕ × ℕ)). Found t r w o) (sym e) none

  -- a reply by its parts
  pub reply_by : (p : ℕ × ℕ) → p.0 ≤ t.labels → price t p.0 ≤ price t w.label → move t w.factor p.0 w.from ≡ Some p.1 → r w.factor w.to p.1 ≡ true
      → ServesBeside t r w.factor w.label p.0 → IsReply t r w p
  reply_by p known cheap moves better serves =
      (record { label = p.0; into = p.1; known = known; cheap = cheap; moves = moves; better = better; serves = serves }, refl, refl)

  pub beside_from : (p : ℕ × ℕ) → IsReply t r w p → ServesBeside t r w.factor w.label p.0
  beside_from p q j h n = subst (λ (l : ℕ). Serves t r j w.label l) q.1 (q.0.serves j h n)
