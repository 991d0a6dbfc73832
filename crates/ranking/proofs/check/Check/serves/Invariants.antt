use Rattle.std.proofs.Common.{ℕ, ◌<◌}
use Rattle.task.specs.Meaning.{meaning}
use Rattle.ranking.specs.Meaning.{relation}
use Rattle.ranking.proofs.Serving.{At}
use Rattle.ranking.proofs.check.Check.serves.Given as goal

abbrev pub invariant-loop-x : goal.invariant-loop-x
invariant-loop-x l = (x : ℕ) → x < l.x → At (meaning l.self.task.now) (relation l.self.ranking.now) l.factor l.label l.other x
