use Rattle.std.proofs.Common.{◌≡◌, ℕ, ◌&&◌, eqb, ltb}
use Rattle.ranking.specs.Tables.{order}
use Rattle.ranking.proofs.order.Order.identity.Given as goal

abbrev pub invariant-loop-fact : goal.invariant-loop-fact
invariant-loop-fact l = (a b : ℕ) → order l.order a b ≡ (eqb a b && ltb a l.fact)
