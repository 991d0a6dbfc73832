-- What `all` and `any` answer over the numbers below n.
use Rattle.std.proofs.Common.{◌≡◌, ℕ, ◌<◌, Bool, true, false, List, length, get_or, Option, Decides, refl, ◌∙◌, subst, arith}
use borrow.Author.Tests.{both_ways}
use denote.Param.Members.{Mut}
use Rattle.std.specs.Bool.{MatchBool}
use Rattle.std.specs.Fn.{Called}
use Rattle.std.specs.Iterator.{YieldsThen}
use Rattle.std.specs.List.{range_with_len, FoldsTo, AllWithin, HoldsAt}
use Rattle.std.specs.Option.{MatchOption}
use Rattle.std.specs.declared.ops.Range.{Range}
use Rattle.std.proofs.iter.Yields.{nat_range_steps}
use Rattle.std.proofs.lemmas.Iterator.{cases_from_all, cases_from_any, YieldsList-from_range}
use Rattle.std.proofs.lemmas.List.FromFn.{get_or-range_with_len, length-range_with_len}

each_below : (P : ℕ → Type 0) (n : ℕ) → AllWithin P (range_with_len 0 n) 0 (length (range_with_len 0 n)) → (k : ℕ) → k < n → P k
each_below P n all k h =
    let low : k < length (range_with_len 0 n) = omega (arith, length-range_with_len 0 n) in
    let at : get_or (range_with_len 0 n) k 0 ≡ k = get_or-range_with_len 0 n k 0 h ∙ omega arith in
    subst P at (all k 0 (omega arith) low)

some_below : (P : ℕ → Type 0) (n : ℕ) → (k : ℕ) × (k < length (range_with_len 0 n)) × HoldsAt P (range_with_len 0 n) k → (k : ℕ) × (k < n) × P k
some_below P n w =
    let low : w.0 < n = let l = w.1 in omega (arith, length-range_with_len 0 n) in
    let at : get_or (range_with_len 0 n) w.0 0 ≡ w.0 = get_or-range_with_len 0 n w.0 0 low ∙ omega arith in
    (w.0, low, subst P at (w.2 0))

all_numbers : (Yes No : ℕ → Type 0) (n : ℕ) (b : Bool)
    → MatchBool b (AllWithin Yes (range_with_len 0 n) 0 (length (range_with_len 0 n))) ((k : ℕ) × (k < length (range_with_len 0 n)) × HoldsAt No (range_with_len 0 n) k)
    → MatchBool b ((k : ℕ) → k < n → Yes k) ((k : ℕ) × (k < n) × No k)
all_numbers Yes No n true w = each_below Yes n w
all_numbers Yes No n false w = some_below No n w

any_number : (P : ℕ → Type 0) (n : ℕ) (b : Bool)
    → MatchBool b ((k : ℕ) × (k < length (range_with_len 0 n)) × HoldsAt P (range_with_len 0 n) k) (AllWithin (λ k. P k → ⊥) (range_with_len 0 n) 0 (length (range_with_len 0 n)))
    → Decides b ((k : ℕ) × (k < n) × P k)
any_number P n true w = (λ _. some_below P n w, λ _. refl)
any_number P n false w = (λ e. absurd (both_ways false refl e), λ p. absurd (each_below (λ k. P k → ⊥) n w p.0 p.1 p.2))

module _ {F : Type 0} {g : Mut F (ℕ × Unit {0}) Bool} (n : ℕ) (u : Range ℕ) (f : F) (b : Bool) where
  pub all_below : (Yes No : ℕ → Type 0)
      → (xs : List ℕ) × (o : Option ℕ) × (j : F) × YieldsThen nat_range_steps (record { start = 0; end = n }) xs o u × FoldsTo (λ p x q. Called g p (x, tt) true q) f xs j × MatchOption o (b ≡ true) (λ x. (b ≡ false) × ((h : F) × Called g j (x, tt) false h))
      → ((x : ℕ) (q : F) → Called g f (x, tt) true q → (q ≡ f) × Yes x) → ((x : ℕ) (q : F) → Called g f (x, tt) false q → No x)
      → MatchBool b ((k : ℕ) → k < n → Yes k) ((k : ℕ) × (k < n) × No k)
  all_below Yes No ran yes' no' = all_numbers Yes No n b (cases_from_all u f b Yes No ran (YieldsList-from_range 0 n n refl (omega arith)) yes' no')

  pub any_below : (P : ℕ → Type 0)
      → (xs : List ℕ) × (o : Option ℕ) × (j : F) × YieldsThen nat_range_steps (record { start = 0; end = n }) xs o u × FoldsTo (λ p x q. Called g p (x, tt) false q) f xs j × MatchOption o (b ≡ false) (λ x. (b ≡ true) × ((h : F) × Called g j (x, tt) true h))
      → ((x : ℕ) (q : F) → Called g f (x, tt) true q → P x) → ((x : ℕ) (q : F) → Called g f (x, tt) false q → (q ≡ f) × (P x → ⊥))
      → Decides b ((k : ℕ) × (k < n) × P k)
  any_below P ran yes' no' = any_number P n b (cases_from_any u f b P (λ k. P k → ⊥) ran (YieldsList-from_range 0 n n refl (omega arith)) yes' no')
