-- What the check of a ranking answers. Assumes nothing.
use Rattle.std.specs.Prelude.{◌≡◌, ℕ, ◌<◌, ◌⊎◌, List, [], ◌∷◌, Ok, Err, Result}
use Rattle.task.specs.Task.{FactoredTask}
use Rattle.site.specs.declared.refusal.Refusal.{Refusal}
use Rattle.site.specs.declared.refusal.Refusal.TheVariants.{File, Chain, Goal, Reply}
use Rattle.ranking.specs.Ranking.{Ranking, Simulation, Dominates}
use Rattle.ranking.specs.Rules.{ChainFault, GoalFault, ReplyFault}

-- the ranking breaks a rule where the refusal says
abbrev pub Broken : FactoredTask → Ranking → Refusal → Type 0
Broken t r (File fault at) = ⊥
Broken t r (Chain i a b) = ChainFault t r i a b
Broken t r (Goal i a b) = GoalFault t r i a b
Broken t r (Reply i a b k) = ReplyFault t r i a b k

-- The order of the refusals: by rule, factor, a, b and label.
abbrev pub turn : Refusal → List ℕ
turn (File fault at) = []
turn (Chain i a b) = 0 ∷ i ∷ a ∷ b ∷ []
turn (Goal i a b) = 1 ∷ i ∷ a ∷ b ∷ []
turn (Reply i a b k) = 2 ∷ i ∷ a ∷ b ∷ k ∷ []

-- at the first place where two lists differ, the number of the first is the smaller
abbrev pub Below : List ℕ → List ℕ → Type 0
Below [] [] = ⊥
Below [] (y ∷ ys) = ⊥
Below (x ∷ xs) [] = ⊥
Below (x ∷ xs) (y ∷ ys) = (x < y) ⊎ ((x ≡ y) × Below xs ys)

-- the first place at which a ranking breaks a rule
pub record FirstBroken (t : FactoredTask) (r : Ranking) (e : Refusal) : Type 0 where
  pub broken : Broken t r e
  pub first : (f : Refusal) → Below (turn f) (turn e) → Broken t r f → ⊥

-- The ranking is a simulation, and may be relied on; or it is none, and this is the first place at which it breaks a rule.
abbrev pub Checked : FactoredTask → Ranking → Result Unit Refusal → Type 0
Checked t r (Ok _) = Simulation t r × Dominates t r
Checked t r (Err e) = (Simulation t r → ⊥) × FirstBroken t r e
