-- The best key so far, from one place to the next, and what is left of it at the end. Assumes nothing.
use Rattle.std.proofs.Common.{◌≡◌, ℕ, ◌+◌, ◌<◌, ◌≤◌, Bool, true, false, cond, List, length, get_or, Some, None, Option, MatchOption, refl, sym, subst, ⊎_elim, arith, below_more}
use Rattle.std.proofs.lemmas.List.{get_or_past}
use Rattle.std.proofs.lemmas.Bool.{both_ways, cases_lt, cases_Bool}
use Rattle.lists.specs.Least.{Least, Chosen}
use Rattle.lists.specs.Sooner.{KeyOrder}
use Rattle.lists.specs.Scan.{better_of, BestAt, BestBelow}

pub some_none : {K : Type 0} {P : Type 0} (o : Option K) (k : K) → o ≡ None → o ≡ Some k → P
some_none o k p q = let z : ◌≡◌ {A = ℕ} 0 1 = cc in absurd (omega arith)

some_same : {K : Type 0} (o : Option K) (j k : K) → o ≡ Some j → o ≡ Some k → j ≡ k
some_same o j k p q = cc

-- k comes before l, and j does not come before l: nor does j come before k
pub not_sooner : {K : Type 0} (sooner : K → K → Bool) → ((x : K) → sooner x x ≡ false) → ((x y z : K) → sooner x y ≡ true → sooner y z ≡ true → sooner x z ≡ true)
    → (j k l : K) → sooner k l ≡ true → sooner j l ≡ false → sooner j k ≡ false
not_sooner sooner irreflexive transitive j k l p q = ⊎_elim (λ e. absurd (both_ways (sooner j l) q (transitive j k l e p))) (λ e. e) (cases_Bool (sooner j k))

module _ {K : Type 0} {sooner : K → K → Bool} (laws : KeyOrder sooner) (keys : List (Option K)) where
  first : (k : K) (i : ℕ) → ((m : ℕ) → m < i → get_or keys m None ≡ None) → get_or keys i None ≡ Some k → BestAt sooner keys (i + 1) i k
  first k i none here = record {
    below = omega arith;
    held = here;
    least = λ m j h e. below_more (λ m. (j : K) → get_or keys m None ≡ Some j → sooner j k ≡ false) i
        (λ m h j e. some_none (get_or keys m None) j (none m h) e)
        (λ j e. subst (λ x. sooner x k ≡ false) (some_same (get_or keys i None) k j here e) (laws.irreflexive k)) m h j e;
    lowest = λ m h e. some_none (get_or keys m None) k (none m h) e;
  }

  takes : (i n : ℕ) (k l : K) → BestAt sooner keys i n l → get_or keys i None ≡ Some k → sooner k l ≡ true → BestAt sooner keys (i + 1) i k
  takes i n k l b here p = record {
    below = omega arith;
    held = here;
    least = λ m j h e. below_more (λ m. (j : K) → get_or keys m None ≡ Some j → sooner j k ≡ false) i
        (λ m h j e. not_sooner sooner laws.irreflexive laws.transitive j k l p (b.least m j h e))
        (λ j e. subst (λ x. sooner x k ≡ false) (some_same (get_or keys i None) k j here e) (laws.irreflexive k)) m h j e;
    lowest = λ m h e. both_ways (sooner k l) (b.least m k h e) p;
  }

  keeps : (i n : ℕ) (l : K) → BestAt sooner keys i n l → ((k : K) → get_or keys i None ≡ Some k → sooner k l ≡ false) → BestAt sooner keys (i + 1) n l
  keeps i n l b here = record {
    below = let h = b.below in omega arith;
    held = b.held;
    least = λ m j h e. below_more (λ m. (j : K) → get_or keys m None ≡ Some j → sooner j l ≡ false) i
        (λ m h j e. b.least m j h e) here m h j e;
    lowest = b.lowest;
  }

  weighed : (i : ℕ) (b : ℕ × K) (k : K) (t : Bool) → sooner k b.1 ≡ t → BestAt sooner keys i b.0 b.1 → get_or keys i None ≡ Some k → BestBelow sooner keys (i + 1) (cond t (Some (i, k)) (Some b))
  weighed i b k true p best here = takes i b.0 k b.1 best here p
  weighed i b k false p best here =
      keeps i b.0 b.1 best (λ j e. subst (λ x. sooner x b.1 ≡ false) (some_same (get_or keys i None) k j here e) p)

  pub best_more : (i : ℕ) (best : Option (ℕ × K)) (key : Option K) → BestBelow sooner keys i best → get_or keys i None ≡ key → BestBelow sooner keys (i + 1) (better_of sooner best i key)
  best_more i None None none here = below_more (λ m. get_or keys m None ≡ None) i none here
  best_more i (Some b) None best here =
      keeps i b.0 b.1 best (λ k e. some_none (get_or keys i None) k here e)
  best_more i None (Some k) none here = first k i none here
  best_more i (Some b) (Some k) best here = weighed i b k (sooner k b.1) refl best here

  -- past the end no key is held
  within : (P : ℕ → Type 0) (i m : ℕ) (j : K) → length keys ≤ i → (m < i → P m) → get_or keys m None ≡ Some j → P m
  within P i m j end f e =
      ⊎_elim f (λ l. some_none (get_or keys m None) j (get_or_past keys m None (omega arith)) e) (cases_lt m i)

  best_all : (i n : ℕ) (k : K) → length keys ≤ i → BestAt sooner keys i n k → Least sooner (λ m. get_or keys m None) n k
  best_all i n k end b = record {
    held = b.held;
    least = λ m j e. within (λ m. sooner j k ≡ false) i m j end (λ h. b.least m j h e) e;
    lowest = λ m e. ⊎_elim (λ l. absurd (b.lowest m l e)) (λ l. l) (cases_lt m n);
  }

  -- the number of the best, once all places are seen
  pub scanned : (i : ℕ) (best : Option (ℕ × K)) (r : Option ℕ) → length keys ≤ i → BestBelow sooner keys i best
      → MatchOption best (r ≡ None) (λ b. r ≡ Some b.0) → Chosen sooner (λ m. get_or keys m None) r
  scanned i None r end none e =
      subst (Chosen sooner (λ m. get_or keys m None)) (sym e) (λ m. ⊎_elim (none m) (λ l. get_or_past keys m None (omega arith)) (cases_lt m i))
  scanned i (Some b) r end best e = subst (Chosen sooner (λ m. get_or keys m None)) (sym e) (b.1, best_all i b.0 b.1 end best)
