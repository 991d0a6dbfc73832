-- The costs of the facts of each factor, as the code has them. Assumes nothing.
use Rattle.std.specs.Prelude.{◌≡◌, ℕ, ◌≤◌, List, [], get_or, Some, None, Option, slice_index_or}
use Rattle.estimators.specs.Limits.{estimate_limit}

abbrev pub Columns : Type 0
Columns = List (List (Option ℕ))

-- by factor and fact: nothing past the end
abbrev pub cell : Columns → ℕ → ℕ → Option ℕ
cell columns j x = slice_index_or (get_or columns j []) x None

-- no cost is too high for an estimate
abbrev pub LowColumns : Columns → Type 0
LowColumns columns = (j x d : ℕ) → cell columns j x ≡ Some d → d ≤ estimate_limit

abbrev pub LowTable : List (Option ℕ) → Type 0
LowTable table = (x d : ℕ) → slice_index_or table x None ≡ Some d → d ≤ estimate_limit
