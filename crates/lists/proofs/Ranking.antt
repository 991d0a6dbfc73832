-- The order of the numbers, by their keys and then themselves. Assumes nothing.
use Rattle.std.proofs.Common.{◌≡◌, ℕ, ◌≤◌, Bool, true, false, cond, ltb, Some, None, Option, sym, refl, subst, ⊎_elim, arith}
use Rattle.std.specs.Cmp.{IsStrictWeakOrder}
use Rattle.std.proofs.lemmas.Bool.{both_ways, cases_Bool, ltb-true, ltb-false, le-ltb}
use Rattle.lists.specs.Sooner.{KeyOrder}
use Rattle.lists.specs.Heaps.{ahead, earlier}

module _ {K : Type 0} {sooner : K → K → Bool} (laws : KeyOrder sooner) where
  asymmetric : (x y : K) → sooner x y ≡ true → sooner y x ≡ false
  asymmetric x y p = ⊎_elim (λ e. absurd (both_ways (sooner x x) (laws.irreflexive x) (laws.transitive x y x p e))) (λ e. e) (cases_Bool (sooner y x))

  -- y is not after x, and z not after y
  not_after : (x y z : K) → sooner x y ≡ false → sooner y z ≡ false → sooner x z ≡ false
  not_after x y z p q = ⊎_elim
      (λ e. ⊎_elim
      (λ f. absurd (both_ways (sooner y z) q (laws.transitive y x z f e)))
      (λ f. absurd (both_ways (sooner y z) q (subst (λ k. sooner k z ≡ true) (laws.ties x y p f) e)))
      (cases_Bool (sooner y x)))
      (λ e. e)
      (cases_Bool (sooner x z))

  -- what `ahead` says where it says no
  no_sooner : (a b : Bool) (last : Bool) → cond a true (cond b false last) ≡ false → a ≡ false
  no_sooner true b last e = absurd (both_ways true e refl)
  no_sooner false b last e = refl

  no_last : (a b : Bool) (last : Bool) → b ≡ false → cond a true (cond b false last) ≡ false → last ≡ false
  no_last true b last f e = absurd (both_ways true e refl)
  no_last false true last f e = absurd (both_ways true f refl)
  no_last false false last f e = e

  says_no : (a b : Bool) (last : Bool) → a ≡ false → (b ≡ false → last ≡ false) → cond a true (cond b false last) ≡ false
  says_no true b last e f = e
  says_no false true last e f = refl
  says_no false false last e f = f refl

  one_way_last : (x y : Bool) (s t : Bool) → (x ≡ true → y ≡ false) → (s ≡ true → t ≡ false) → cond x true (cond y false s) ≡ true → cond y true (cond x false t) ≡ false
  one_way_last true y s t f h e = says_no y true t (f refl) (λ g. absurd (both_ways true g refl))
  one_way_last false true s t f h e = absurd (both_ways false refl e)
  one_way_last false false s t f h e = h e

  ahead_one_way : (x y : Option K) (s t : Bool) → (s ≡ true → t ≡ false) → ahead sooner x y s ≡ true → ahead sooner y x t ≡ false
  ahead_one_way (Some x) (Some y) s t h e = one_way_last (sooner x y) (sooner y x) s t (asymmetric x y) h e
  ahead_one_way (Some x) None s t h e = refl
  ahead_one_way None (Some y) s t h e = absurd (both_ways false refl e)
  ahead_one_way None None s t h e = h e

  ahead_chain : (x y z : Option K) (r s t : Bool) → (r ≡ false → s ≡ false → t ≡ false) → ahead sooner x y r ≡ false → ahead sooner y z s ≡ false → ahead sooner x z t ≡ false
  ahead_chain (Some x) (Some y) (Some z) r s t h p q =
      let xy = no_sooner (sooner x y) (sooner y x) r p in
      let yz = no_sooner (sooner y z) (sooner z y) s q in
      let xz = not_after x y z xy yz in
      says_no (sooner x z) (sooner z x) t xz
      (λ zx.
      let e : x ≡ z = laws.ties x z xz zx in
      let yx : sooner y x ≡ false = subst (λ k. sooner y k ≡ false) (sym e) yz in
      let zy : sooner z y ≡ false = subst (λ k. sooner k y ≡ false) e xy in
      h (no_last (sooner x y) (sooner y x) r yx p) (no_last (sooner y z) (sooner z y) s zy q))
  ahead_chain (Some x) (Some y) None r s t h p q = absurd (both_ways true q refl)
  ahead_chain (Some x) None z r s t h p q = absurd (both_ways true p refl)
  ahead_chain None (Some y) (Some z) r s t h p q = refl
  ahead_chain None (Some y) None r s t h p q = absurd (both_ways true q refl)
  ahead_chain None None (Some z) r s t h p q = refl
  ahead_chain None None None r s t h p q = h p q

  pub earlier_ranks : (table : ℕ → Option K) → IsStrictWeakOrder (earlier sooner table)
  earlier_ranks table = record {
    one_way = λ a b e. ahead_one_way (table a) (table b) (ltb a b) (ltb b a)
        (λ l. le-ltb b a (let h = ltb-true a b l in omega arith)) e;
    chain = λ a b c p q. ahead_chain (table a) (table b) (table c) (ltb a b) (ltb b c) (ltb a c)
        (λ l m. le-ltb a c (let h = ltb-false a b l in let k = ltb-false b c m in omega arith)) p q;
  }

  -- what it says of two keys that come after each other's numbers
  pub key_not_sooner : (table : ℕ → Option K) (m n : ℕ) (j k : K) → table m ≡ Some j → table n ≡ Some k → earlier sooner table m n ≡ false → sooner j k ≡ false
  key_not_sooner table m n j k e f h =
      no_sooner (sooner j k) (sooner k j) (ltb m n)
      (subst (λ x. ahead sooner x (Some k) (ltb m n) ≡ false) e (subst (λ y. ahead sooner (table m) y (ltb m n) ≡ false) f h))

  pub number_not_lower : (table : ℕ → Option K) (m n : ℕ) (k : K) → table m ≡ Some k → table n ≡ Some k → earlier sooner table m n ≡ false → n ≤ m
  number_not_lower table m n k e f h =
      let both : ahead sooner (Some k) (Some k) (ltb m n) ≡ false = subst (λ x. ahead sooner x (Some k) (ltb m n) ≡ false) e (subst (λ y. ahead sooner (table m) y (ltb m n) ≡ false) f h) in
      ltb-false m n (no_last (sooner k k) (sooner k k) (ltb m n) (laws.irreflexive k) both)
