use Rattle.std.proofs.Common.{◌≡◌, ℕ, ◌<◌, true}
use Rattle.ranking.specs.Meaning.{relation}
use Rattle.ranking.proofs.check.Check.is_chained.Given as goal

abbrev pub invariant-loop-mid : goal.invariant-loop-mid
invariant-loop-mid l = (c : ℕ) → c < l.mid → relation l.self.ranking.now l.factor l.a c ≡ true → relation l.self.ranking.now l.factor c l.b ≡ true → ⊥
