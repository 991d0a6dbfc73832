-- A list with one element written, and a function changed at one number. Assumes nothing.
use Rattle.std.proofs.Common.{◌≡◌, ℕ, ◌<◌, List, length, get_or, set, sym, ap, ◌∙◌, inl, inr}
use Rattle.std.proofs.lemmas.Bool.{cases_lt, cases_eq, cond-true, cond-false, eq-eqb, ne_eqb}
use Rattle.std.proofs.lemmas.List.{get_or-set_same, get_or-set_other, set_past}
use Rattle.site.specs.Changes.{put}

pub put_at : {A : Type 0} (i : ℕ) (v : A) (f : ℕ → A) (k : ℕ) → k ≡ i → put i v f k ≡ v
put_at i v f k e = cond-true _ _ _ (eq-eqb k i e)

pub put_off : {A : Type 0} (i : ℕ) (v : A) (f : ℕ → A) (k : ℕ) → (k ≡ i → ⊥) → put i v f k ≡ f k
put_off i v f k ne = cond-false _ _ _ (ne_eqb k i ne)

-- a write that keeps what f reads
pub set_keeps : {A B : Type 0} (f : A → B) (xs : List A) (i : ℕ) (v d : A) → f v ≡ f (get_or xs i d) → (k : ℕ) → f (get_or (set xs i v) k d) ≡ f (get_or xs k d)
set_keeps f xs i v d e k = elim (cases_eq k i) [
  | inl s ↦ elim (cases_lt i (length xs)) [
    | inl h ↦ rw (s, get_or-set_same xs i v d h) e
    | inr h ↦ ap (λ ys. f (get_or ys k d)) (set_past xs i v h)
  ]
  | inr ne ↦ ap f (get_or-set_other xs i k v d ne)
]

-- a write after which f reads b at i
pub set_puts : {A B : Type 0} (f : A → B) (xs : List A) (i : ℕ) (v d : A) (b : B) → i < length xs → f v ≡ b
    → (k : ℕ) → f (get_or (set xs i v) k d) ≡ put i b (λ n. f (get_or xs n d)) k
set_puts f xs i v d b h e k = elim (cases_eq k i) [
  | inl s ↦ (rw (s, get_or-set_same xs i v d h) e) ∙ sym (put_at i b (λ n. f (get_or xs n d)) k s)
  | inr ne ↦ ap f (get_or-set_other xs i k v d ne) ∙ sym (put_off i b (λ n. f (get_or xs n d)) k ne)
]
