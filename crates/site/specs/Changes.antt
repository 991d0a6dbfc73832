-- A function from numbers, changed at one number. Assumes nothing.
use Rattle.std.specs.Prelude.{ℕ, cond, ◌==◌}

-- v at i, and as f elsewhere
abbrev pub put : {A : Type 0} → ℕ → A → (ℕ → A) → ℕ → A
put i v f k = cond (k == i) v (f k)
