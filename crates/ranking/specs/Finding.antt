-- What the finder of replies answers. Assumes nothing.
use Rattle.std.specs.Prelude.{◌≡◌, ℕ, ◌<◌, ◌≤◌, Some, None, Option, ◌≢◌}
use Rattle.task.specs.Task.{FactoredTask}
use Rattle.ranking.specs.Ranking.{Ranking, Serves, Reply}
use Rattle.ranking.specs.declared.wanted.Wanted.{Wanted}

-- there is a reply that is wanted
abbrev pub Replied : FactoredTask → Ranking → Wanted → Type 0
Replied t r w = Reply t r w.factor w.label w.to w.from

-- a label and a fact are those of a reply
abbrev pub IsReply : FactoredTask → Ranking → Wanted → ℕ × ℕ → Type 0
IsReply t r w p = (q : Replied t r w) × (q.label ≡ p.0) × (q.into ≡ p.1)

-- The reply of the lowest label, by its label and what it leads to; or none, where there is no reply.
abbrev pub Found : FactoredTask → Ranking → Wanted → Option (ℕ × ℕ) → Type 0
Found t r w None = Replied t r w → ⊥
Found t r w (Some p) = IsReply t r w p × ((q : Replied t r w) → p.0 ≤ q.label)

-- in every factor but i, label m serves for label k
abbrev pub ServesBeside : FactoredTask → Ranking → ℕ → ℕ → ℕ → Type 0
ServesBeside t r i k m = (j : ℕ) → j < t.factors → (j ≢ i) → Serves t r j k m
