use Rattle.std.proofs.Common.{ℕ, ◌<◌}
use Rattle.ranking.specs.Rules.{ReplyHolds}
use Rattle.task.specs.Meaning.{meaning}
use Rattle.ranking.specs.Meaning.{relation}
use Rattle.ranking.proofs.check.Check.check_reply.Given as goal

abbrev pub invariant-loop-label : goal.invariant-loop-label
invariant-loop-label l = (k : ℕ) → k < l.label → ReplyHolds (meaning l.self.task.now) (relation l.self.ranking.now) l.factor l.a l.b k
