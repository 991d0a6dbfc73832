-- The laws of an order of keys, and the orders of the two sorts of key. Assumes nothing.
use Rattle.std.specs.Prelude.{◌≡◌, Bool, true, false, cond, nat_lt}
use Rattle.lists.specs.declared.keys.SearchKey.{SearchKey}
use Rattle.lists.specs.declared.keys.DistanceKey.{DistanceKey}

-- any two keys compare, only equal keys tie, and the order is transitive
pub record KeyOrder {K : Type 0} (sooner : K → K → Bool) : Type 0 where
  pub irreflexive : (x : K) → sooner x x ≡ false
  pub transitive : (x y z : K) → sooner x y ≡ true → sooner y z ≡ true → sooner x z ≡ true
  pub ties : (x y : K) → sooner x y ≡ false → sooner y x ≡ false → x ≡ y

-- by the sum, then the estimate, then the entry
abbrev pub sum_sooner : SearchKey → SearchKey → Bool
sum_sooner x y =
    cond (nat_lt x.sum y.sum) true (cond (nat_lt y.sum x.sum) false
    (cond (nat_lt x.estimate y.estimate) true (cond (nat_lt y.estimate x.estimate) false
    (nat_lt x.entry y.entry))))

-- by the distance, then the fact
abbrev pub distance_sooner : DistanceKey → DistanceKey → Bool
distance_sooner x y = cond (nat_lt x.distance y.distance) true (cond (nat_lt y.distance x.distance) false (nat_lt x.fact y.fact))
