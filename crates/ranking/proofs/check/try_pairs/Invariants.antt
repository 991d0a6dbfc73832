use Rattle.std.proofs.Common.{ℕ, ◌<◌, Ok}
use Rattle.task.specs.Meaning.{meaning}
use Rattle.ranking.specs.First.{Inside}
use Rattle.ranking.proofs.check.try_pairs.Given as goal

abbrev pub invariant-loop-b : goal.invariant-loop-b
invariant-loop-b g l = (b : ℕ) → b < l.b → Inside (meaning l.task) l.factor l.a b → goal.F-post g l.check_at l.factor l.a b (Ok tt)

abbrev pub invariant-loop-a : goal.invariant-loop-a
invariant-loop-a g l = (a : ℕ) → a < l.a → (b : ℕ) → Inside (meaning l.task) l.factor a b → goal.F-post g l.check_at l.factor a b (Ok tt)

abbrev pub invariant-loop-factor : goal.invariant-loop-factor
invariant-loop-factor g l = (i : ℕ) → i < l.factor → (a b : ℕ) → Inside (meaning l.task) i a b → goal.F-post g l.check_at i a b (Ok tt)
