-- Where a ranking keeps each rule of a label-dominance simulation, and where it breaks it. Assumes nothing.
use Rattle.std.specs.Prelude.{◌≡◌, ℕ, ◌<◌, ◌≤◌, true, false, Some, ◌≢◌}
use Rattle.task.specs.Task.{FactoredTask, move}
use Rattle.ranking.specs.Ranking.{Ranking, Reply}

-- a chain of two links leads from a to another fact b
abbrev pub Chained : FactoredTask → Ranking → ℕ → ℕ → ℕ → Type 0
Chained t r i a b = (a ≢ b) × ((c : ℕ) × (c < t.facts i) × (r i a c ≡ true) × (r i c b ≡ true))

-- the chain rule at the ends a and b of a chain
abbrev pub ChainHolds : FactoredTask → Ranking → ℕ → ℕ → ℕ → Type 0
ChainHolds t r i a b = i < t.factors → a < t.facts i → b < t.facts i → Chained t r i a b → r i a b ≡ true

pub record ChainFault (t : FactoredTask) (r : Ranking) (i a b : ℕ) : Type 0 where
  pub factor : i < t.factors
  pub from : a < t.facts i
  pub to : b < t.facts i
  pub chain : Chained t r i a b
  pub unranked : r i a b ≡ false

-- the goal rule at a fact a and a fact b that it may stand under
abbrev pub GoalHolds : FactoredTask → Ranking → ℕ → ℕ → ℕ → Type 0
GoalHolds t r i a b = i < t.factors → a < t.facts i → b < t.facts i → r i a b ≡ true → t.goal i a ≡ true → t.goal i b ≡ true

pub record GoalFault (t : FactoredTask) (r : Ranking) (i a b : ℕ) : Type 0 where
  pub factor : i < t.factors
  pub from : a < t.facts i
  pub to : b < t.facts i
  pub ranked : r i a b ≡ true
  pub goal : t.goal i a ≡ true
  pub miss : t.goal i b ≡ false

-- the reply rule at a fact a, a fact b that it may stand under, and a label k
abbrev pub ReplyHolds : FactoredTask → Ranking → ℕ → ℕ → ℕ → ℕ → Type 0
ReplyHolds t r i a b k =
    i < t.factors → a < t.facts i → b < t.facts i → k ≤ t.labels → r i a b ≡ true → (a' : ℕ) → move t i k a ≡ Some a' → Reply t r i k a' b

pub record ReplyFault (t : FactoredTask) (r : Ranking) (i a b k : ℕ) : Type 0 where
  pub factor : i < t.factors
  pub from : a < t.facts i
  pub to : b < t.facts i
  pub known : k ≤ t.labels
  pub ranked : r i a b ≡ true
  pub into : ℕ
  pub moves : move t i k a ≡ Some into
  pub unanswered : Reply t r i k into b → ⊥
