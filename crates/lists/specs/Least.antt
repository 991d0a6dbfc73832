-- What is taken from a waiting list. Assumes nothing.
use Rattle.std.specs.Prelude.{◌≡◌, ℕ, ◌≤◌, Bool, false, Some, None, Option, MatchOption, nat_eq}
use Rattle.std.specs.Map.{update}
use Rattle.lists.specs.Capacity.{capacity_limit}

-- n holds k, no key of the table comes before k, and n is the lowest number that holds k
pub record Least {K : Type 0} (sooner : K → K → Bool) (table : ℕ → Option K) (n : ℕ) (k : K) : Type 0 where
  pub held : table n ≡ Some k
  pub least : (m : ℕ) (j : K) → table m ≡ Some j → sooner j k ≡ false
  pub lowest : (m : ℕ) → table m ≡ Some k → n ≤ m

-- `None` where no number holds a key; else the number of the least key
abbrev pub Chosen : {K : Type 0} → (K → K → Bool) → (ℕ → Option K) → Option ℕ → Type 0
Chosen {K} sooner table r = MatchOption r ((n : ℕ) → table n ≡ None) (λ n. (k : K) × Least sooner table n k)

-- the table after the number is taken out
abbrev pub Without : {K : Type 0} → (ℕ → Option K) → (ℕ → Option K) → Option ℕ → Type 0
Without before after r = MatchOption r ((n : ℕ) → after n ≡ before n) (λ n. (m : ℕ) → after m ≡ update nat_eq before n None m)

-- the capacity is at least the limit, and no number from the capacity on holds a key
pub record Bounded {S K : Type 0} (holds : S → ℕ → Option K) (capacity : S → ℕ) : Type 0 where
  pub roomy : (s : S) → capacity_limit ≤ capacity s
  pub beyond : (s : S) (n : ℕ) → capacity s ≤ n → holds s n ≡ None
