use Rattle.std.proofs.Common.{◌≡◌, ℕ, ◌<◌, ◌≤◌, None}
use Rattle.task.specs.Meaning.{meaning}
use Rattle.ranking.specs.Finding.{Replied}
use Rattle.ranking.specs.Ranking.{Serves}
use Rattle.ranking.specs.Meaning.{relation}
use Rattle.ranking.proofs.Serving.{At}
use Rattle.ranking.proofs.check.Check.find_reply.Given as goal

-- the facts passed are served
abbrev pub invariant-loop-x : goal.invariant-loop-x
invariant-loop-x l = (x : ℕ) → x < l.x → At (meaning l.self.task.now) (relation l.self.ranking.now) l.j l.label l.other x

-- the other factors passed are served
abbrev pub invariant-loop-j : goal.invariant-loop-j
invariant-loop-j l = (j : ℕ) → j < l.j → (j ≡ l.factor → ⊥) → Serves (meaning l.self.task.now) (relation l.self.ranking.now) j l.label l.other

-- no label passed replies
abbrev pub invariant-labels : goal.invariant-labels
invariant-labels l = (l.found ≡ None) × ((q : Replied (meaning l.self.task.now) (relation l.self.ranking.now) l.fn.wanted) → l.other ≤ q.label)
