-- The laws of the orders of the two sorts of key. Assumes nothing.
use Rattle.std.specs.Prelude.{◌≡◌, ℕ, Bool, true, false, cond, nat_lt}
use Rattle.std.proofs.Common.{arith}
use Rattle.std.proofs.lemmas.Bool.Decides.{nat_tests}
use Rattle.lists.specs.declared.keys.DistanceKey.{DistanceKey}
use Rattle.lists.specs.declared.keys.SearchKey.{SearchKey}
use Rattle.lists.specs.Sooner.{KeyOrder, sum_sooner, distance_sooner}

-- one part compared, and then the rest
then : (a b c : ℕ) (r s t : Bool) → (r ≡ true → s ≡ true → t ≡ true) → cond (nat_lt a b) true (cond (nat_lt b a) false r) ≡ true → cond (nat_lt b c) true (cond (nat_lt c b) false s) ≡ true → cond (nat_lt a c) true (cond (nat_lt c a) false t) ≡ true
then a b c r s t rest p q = grind (arith, nat_tests)

last : (a b c : ℕ) → nat_lt a b ≡ true → nat_lt b c ≡ true → nat_lt a c ≡ true
last a b c p q = grind (arith, nat_tests)

pub sum_transitive : (x y z : SearchKey) → sum_sooner x y ≡ true → sum_sooner y z ≡ true → sum_sooner x z ≡ true
sum_transitive x y z =
    then x.sum y.sum z.sum _ _ _ (then x.estimate y.estimate z.estimate _ _ _ (last x.entry y.entry z.entry))

pub distance_transitive : (x y z : DistanceKey) → distance_sooner x y ≡ true → distance_sooner y z ≡ true → distance_sooner x z ≡ true
distance_transitive x y z = then x.distance y.distance z.distance _ _ _ (last x.fact y.fact z.fact)

pub sum_irreflexive : (x : SearchKey) → sum_sooner x x ≡ false
sum_irreflexive x = grind (arith, nat_tests)

pub distance_irreflexive : (x : DistanceKey) → distance_sooner x x ≡ false
distance_irreflexive x = grind (arith, nat_tests)

-- where neither comes first, this part is the same, and of the rest neither comes first
tied : (a b : ℕ) (r s : Bool) → cond (nat_lt a b) true (cond (nat_lt b a) false r) ≡ false → cond (nat_lt b a) true (cond (nat_lt a b) false s) ≡ false → (a ≡ b) × (r ≡ false) × (s ≡ false)
tied a b r s p q = (grind (arith, nat_tests), grind (arith, nat_tests), grind (arith, nat_tests))

tied_last : (a b : ℕ) → nat_lt a b ≡ false → nat_lt b a ≡ false → a ≡ b
tied_last a b p q = grind (arith, nat_tests)

pub sum_ties : (x y : SearchKey) → sum_sooner x y ≡ false → sum_sooner y x ≡ false → x ≡ y
sum_ties x y p q =
    let one = tied x.sum y.sum _ _ p q in
    let two = tied x.estimate y.estimate _ _ one.1 one.2 in
    let three = tied_last x.entry y.entry two.1 two.2 in
    λ i. record { sum = one.0 i; estimate = two.0 i; entry = three i }

pub distance_ties : (x y : DistanceKey) → distance_sooner x y ≡ false → distance_sooner y x ≡ false → x ≡ y
distance_ties x y p q =
    let one = tied x.distance y.distance _ _ p q in
    let two = tied_last x.fact y.fact one.1 one.2 in
    λ i. record { distance = one.0 i; fact = two i }

pub sum_laws : KeyOrder sum_sooner
sum_laws = record { irreflexive = sum_irreflexive; transitive = sum_transitive; ties = sum_ties }

pub distance_laws : KeyOrder distance_sooner
distance_laws = record { irreflexive = distance_irreflexive; transitive = distance_transitive; ties = distance_ties }
