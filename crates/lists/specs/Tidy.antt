-- How the arrays of a heap agree. Assumes nothing.
use Rattle.std.specs.Prelude.{◌≡◌, ℕ, ◌<◌, List, is_some, None, Option, nat_lt, slice_index, slice_index_or}
use Rattle.lists.specs.Capacity.{capacity_limit}

-- at each place there is a number that a heap has room for, and the other list has its place
pub record Listed (order places : List ℕ) : Type 0 where
  pub inside : (i : ℕ) → i < capacity_limit → slice_index order i < capacity_limit
  pub back : (i : ℕ) → i < capacity_limit → slice_index places (slice_index order i) ≡ i

-- the numbers that hold a key are those that stand below count
abbrev pub Fronted : {K : Type 0} → List (Option K) → List ℕ → ℕ → Type 0
Fronted keys places count = (n : ℕ) → n < capacity_limit → is_some (slice_index_or keys n None) ≡ nat_lt (slice_index places n) count
