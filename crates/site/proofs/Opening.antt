-- A list of bytes, opened at its front as a slice pattern opens it.
use Rattle.std.proofs.Common.{◌≡◌, ℕ, ◌+◌, ◌-◌, ◌*◌, ◌/◌, ◌%◌, ◌<◌, ◌≤◌, List, [], ◌∷◌, length, get_or, take, drop, sym, ap, arith}
use Rattle.std.proofs.lemmas.List.{take_rest}

-- what a pattern with n names before `rest @ ..` binds to `rest`
abbrev pub after : ℕ → List ℕ → List ℕ
after n xs = take (length xs - n) (drop n xs)

pub open2 : (xs : List ℕ) → 2 ≤ length xs → xs ≡ get_or xs 0 0 ∷ get_or xs 1 0 ∷ after 2 xs
open2 [] h = absurd (omega arith)
open2 (a ∷ []) h = absurd (omega arith)
open2 (a ∷ b ∷ xs) h = ap (λ t. a ∷ b ∷ t) (sym (take_rest (a ∷ b ∷ xs) 2))

pub open3 : (xs : List ℕ) → 3 ≤ length xs → xs ≡ get_or xs 0 0 ∷ get_or xs 1 0 ∷ get_or xs 2 0 ∷ after 3 xs
open3 [] h = absurd (omega arith)
open3 (a ∷ []) h = absurd (omega arith)
open3 (a ∷ b ∷ []) h = absurd (omega arith)
open3 (a ∷ b ∷ c ∷ xs) h = ap (λ t. a ∷ b ∷ c ∷ t) (sym (take_rest (a ∷ b ∷ c ∷ xs) 3))

pub open4 : (xs : List ℕ) → 4 ≤ length xs → xs ≡ get_or xs 0 0 ∷ get_or xs 1 0 ∷ get_or xs 2 0 ∷ get_or xs 3 0 ∷ after 4 xs
open4 [] h = absurd (omega arith)
open4 (a ∷ []) h = absurd (omega arith)
open4 (a ∷ b ∷ []) h = absurd (omega arith)
open4 (a ∷ b ∷ c ∷ []) h = absurd (omega arith)
open4 (a ∷ b ∷ c ∷ d ∷ xs) h = ap (λ t. a ∷ b ∷ c ∷ d ∷ t) (sym (take_rest (a ∷ b ∷ c ∷ d ∷ xs) 4))

-- the label and the cost, whose high byte comes first
pub costed : (xs : List ℕ) (v : ℕ) → 3 ≤ length xs → v ≡ get_or xs 1 0 * 256 + get_or xs 2 0 → get_or xs 2 0 < 256
    → xs ≡ get_or xs 0 0 ∷ v / 256 ∷ v % 256 ∷ after 3 xs
costed xs v h e small =
    let high : v / 256 ≡ get_or xs 1 0 = omega arith in
    let low : v % 256 ≡ get_or xs 2 0 = omega arith in
    rw (high, low) (open3 xs h)
