-- Tests that decide a statement, besides those of std.
use Rattle.std.proofs.Common.{◌≡◌, ℕ, zero, suc, ◌<◌, ◌≤◌, Bool, true, false, not, leb, Some, None, Decides, Option, refl, subst, arith}
use borrow.Author.Tests.{clash}
use Rattle.std.proofs.lemmas.Bool.Decides.{nat_tests, not_from_Decides}
use Rattle.site.specs.SiteFile.{some}
use Rattle.site.proofs.Drafting.{some_at}
use Rattle.ranking.specs.Ranking.{every}
use Rattle.ranking.proofs.Dominating.{every_each, each_every}

pub true_decides : (b : Bool) → Decides b (b ≡ true)
true_decides b = (λ e. e, λ e. e)

pub false_decides : (b : Bool) → Decides (not b) (b ≡ false)
false_decides b = (λ e. grind arith, λ e. grind arith)

pub most_decides : (a b : ℕ) → Decides (leb a b) (a ≤ b)
most_decides a b = (λ e. grind (arith, nat_tests), λ e. grind (arith, nat_tests))

-- what cannot fail holds
pub true_unless : (b : Bool) → (b ≡ false → ⊥) → b ≡ true
true_unless b n = grind arith

pub holds_unless : {b : Bool} {P : Type 0} → Decides b P → ((P → ⊥) → ⊥) → P
holds_unless {b} d n = d.0 (true_unless b (λ e. n (not_from_Decides b d e)))

-- ---- at each number below a bound, and at some
pub every_decides : {p : ℕ → Bool} {P : ℕ → Type 0} (n : ℕ) → ((k : ℕ) → Decides (p k) (P k)) → Decides (every p n) ((k : ℕ) → k < n → P k)
every_decides {p} n d = (λ e k h. (d k).0 (every_each p n e k h), λ all. each_every p n (λ k h. (d k).1 (all k h)))

some_found : (p : ℕ → Bool) (n : ℕ) → some p n ≡ true → (k : ℕ) × (k < n) × (p k ≡ true)
some_found p zero e = absurd (clash e)
some_found p (suc n) e = let w = some_found p n in grind (arith, nat_tests)

pub some_decides : {p : ℕ → Bool} {P : ℕ → Type 0} (n : ℕ) → ((k : ℕ) → Decides (p k) (P k)) → Decides (some p n) ((k : ℕ) × (k < n) × P k)
some_decides {p} n d = (λ e. let w = some_found p n e in (w.0, w.1, (d w.0).0 w.2), λ w. some_at p n w.0 w.1 ((d w.0).1 w.2))

-- ---- at the number of an Option, if it has one, and at the number that it must have
abbrev pub always : (ℕ → Bool) → Option ℕ → Bool
always p None = true
always p (Some y) = p y

abbrev pub holds : (ℕ → Bool) → Option ℕ → Bool
holds p None = false
holds p (Some y) = p y

pub always_decides : {p : ℕ → Bool} {P : ℕ → Type 0} (o : Option ℕ) → ((y : ℕ) → Decides (p y) (P y)) → Decides (always p o) ((y : ℕ) → o ≡ Some y → P y)
always_decides None d = (λ e y s. absurd (cc), λ all. refl)
always_decides {p} {P} (Some x) d = (λ e y s. let q : x ≡ y = cc in subst P q ((d x).0 e), λ all. (d x).1 (all x refl))

pub holds_decides : {p : ℕ → Bool} {P : ℕ → Type 0} (o : Option ℕ) → ((y : ℕ) → Decides (p y) (P y)) → Decides (holds p o) ((y : ℕ) × (o ≡ Some y) × P y)
holds_decides None d = (λ e. absurd (cc), λ w. absurd (cc w.1))
holds_decides {p} {P} (Some x) d = (λ e. (x, refl, (d x).0 e), λ w. let s = w.1 in let q : w.0 ≡ x = cc in (d x).1 (subst P q w.2))
