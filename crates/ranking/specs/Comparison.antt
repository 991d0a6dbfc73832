-- What it is to compare states. Assumes nothing.
use Rattle.std.specs.Prelude.{◌≡◌, ℕ, ◌≤◌, Bool, true, ◌⊎◌, List}
use Rattle.task.specs.Task.{FactoredTask, State, Step, Goal, price}

-- A comparison of states. Where s is below u, u is a goal state if s is, and answers each step from s by a step that
-- costs no more, or by standing still, and the states that are then come to compare alike.
pub record Comparison (t : FactoredTask) (below : List ℕ → List ℕ → Bool) : Type 0 where
  pub goal : (s u : List ℕ) → State t s → State t u → below s u ≡ true → Goal t s → Goal t u
  pub step : (s u s' : List ℕ) (l : ℕ) → State t s → State t u → below s u ≡ true → Step t s l s'
      → (below s' u ≡ true) ⊎ ((m : ℕ) × (u' : List ℕ) × Step t u m u' × (price t m ≤ price t l) × (below s' u' ≡ true))
