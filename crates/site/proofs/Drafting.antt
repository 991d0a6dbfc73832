-- What is written into a draft, as what it describes.
use Rattle.std.proofs.Common.{◌≡◌, ℕ, zero, suc, ◌+◌, ◌<◌, Bool, true, false, cond, ltb, [], length, get_or, set, take, replicate, is_some, Some, None, Option, sym, refl, ap, ◌∙◌, inl, inr, add-one, arith}
use mathlib.Core.Path.{fun_ext}
use Rattle.std.proofs.lemmas.Bool.{or_left, or_right, or_from, cases_lt, cases_eq}
use Rattle.std.proofs.lemmas.Bool.Decides.{nat_tests}
use Rattle.std.proofs.lemmas.List.{get_or-take, length-take}
use Rattle.task.specs.Limits.{factor_limit, label_limit}
use Rattle.task.specs.Tables.{part, row, entry, goals, targets}
use Rattle.task.proofs.Blank.{get_d_either}
use Rattle.site.specs.Changes.{put}
use Rattle.site.specs.SiteFile.{Described, nothing, some, leads, adds}
use Rattle.site.proofs.Changing.{put_at, put_off, set_keeps, set_puts}
use Rattle.site.specs.Drafts.{described}
use Rattle.site.specs.declared.command.Command.TheVariants.{Goal}
use Rattle.task.specs.declared.row.Row.{Row}
use Rattle.task.specs.declared.factor.Factor.{Factor}
use Rattle.site.specs.declared.tables.Tables.{Tables}

pub some_at : (p : ℕ → Bool) (n k : ℕ) → k < n → p k ≡ true → some p n ≡ true
some_at p zero k h e = absurd (omega arith)
some_at p (suc n) k h e = elim (cases_lt k n) [
  | inl l ↦ or_left _ (p n) (some_at p n k l e)
  | inr l ↦ let s : n ≡ k = omega arith in or_right (some p n) _ (rw s e)
]

pub some_more : (p : ℕ → Bool) (n : ℕ) → some p n ≡ false → p n ≡ false → some p (n + 1) ≡ false
some_more p n a b = rw add-one (or_from _ _ a b)

pub same : (t u : Described) → t.factors ≡ u.factors → t.labels ≡ u.labels → t.declared ≡ u.declared
    → ((j : ℕ) → t.facts j ≡ u.facts j) → ((j : ℕ) → t.start j ≡ u.start j) → ((j x : ℕ) → t.goal j x ≡ u.goal j x)
    → ((l : ℕ) → t.cost l ≡ u.cost l) → ((j l x : ℕ) → t.moves j l x ≡ u.moves j l x) → t ≡ u
same t u a b c p q g s m i = record {
  factors = a i;
  labels = b i;
  declared = c i;
  facts = λ j. p j i;
  start = λ j. q j i;
  goal = λ j x. g j x i;
  cost = λ l. s l i;
  moves = λ j l x. m j l x i;
}

-- at the end of a count that found nothing
pub some_none : (p : ℕ → Bool) (n m : ℕ) → n ≡ m → some p n ≡ false → false ≡ some p m
some_none p n m e h = sym (rw e at h)

abbrev past_row : Row
past_row = record { goal = false; next = [] }

abbrev past_part : Factor
past_part = record { facts = 0; start = 0; rows = [] }

-- a loop over the rows of a factor's facts comes to fact after fact
pub row_low : (f : Factor) (i : ℕ) → i < length (take f.facts f.rows) → i < f.facts
row_low f i h = omega (arith, length-take f.facts f.rows)

pub row_at : (f : Factor) (l i : ℕ) (b a : Bool) → i < length (take f.facts f.rows)
    → b ≡ is_some (targets (get_or (take f.facts f.rows) i past_row) l) → b ≡ a → is_some (entry f l i) ≡ a
row_at f l i b a h e p = ap (λ (r : Row). is_some (targets r l)) (sym (get_or-take f.facts f.rows i past_row (row_low f i h))) ∙ sym e ∙ p

-- tables that hold one factor in each place, which has nothing, describe nothing
pub fresh_describes : (f : Factor) → f.facts ≡ 0 → f.start ≡ 0 → ((x : ℕ) → goals f x ≡ false) → ((l x : ℕ) → entry f l x ≡ None)
    → described (record { factors = 0; labels = 0; declared = 0; costs = replicate (label_limit + 1) None; parts = replicate factor_limit f }) ≡ nothing
fresh_describes f a b g m = same _ _ refl refl refl
    (λ j. get_d_either (λ p. p.facts ≡ 0) factor_limit j f past_part a refl)
    (λ j. get_d_either (λ p. p.start ≡ 0) factor_limit j f past_part b refl)
    (λ j x. get_d_either (λ p. goals p x ≡ false) factor_limit j f past_part (g x) refl)
    (λ l. get_d_either (λ p. p ≡ None) (label_limit + 1) l None None refl refl)
    (λ j l x. get_d_either (λ p. entry p l x ≡ None) factor_limit j f past_part (m l x) refl)

abbrev pub with_part : Tables → ℕ → Factor → Tables
with_part d j f = record { factors = d.factors; labels = d.labels; declared = d.declared; costs = d.costs; parts = set d.parts j f }

abbrev pub with_row : Factor → ℕ → Row → Factor
with_row f x r = record { facts = f.facts; start = f.start; rows = set f.rows x r }

led_move : (f : Factor) (l x y : ℕ) (r : Row) → x < length f.rows → targets r ≡ put l (Some y) (targets (row f x)) → (m z : ℕ)
    → entry (with_row f x r) m z ≡ put l (put x (Some y) (entry f l)) (entry f) m z
led_move f l x y r h e m z = elim (cases_eq m l) [
  | inl s ↦ rw s (set_puts (λ q. targets q l) f.rows x r past_row (Some y) h (ap (λ (g : ℕ → Option ℕ). g l) e ∙ put_at l (Some y) (targets (row f x)) l refl) z
      ∙ sym (ap (λ (g : ℕ → Option ℕ). g z) (put_at l (put x (Some y) (entry f l)) (entry f) l refl)))
  | inr ne ↦ set_keeps (λ q. targets q m) f.rows x r past_row (ap (λ (g : ℕ → Option ℕ). g m) e ∙ put_off l (Some y) (targets (row f x)) m ne) z
      ∙ sym (ap (λ (g : ℕ → Option ℕ). g z) (put_off l (put x (Some y) (entry f l)) (entry f) m ne))
]

pub led_moves : (f : Factor) (l x y : ℕ) (r : Row) → x < length f.rows → targets r ≡ put l (Some y) (targets (row f x))
    → entry (with_row f x r) ≡ put l (put x (Some y) (entry f l)) (entry f)
led_moves f l x y r h e = fun_ext (λ m. fun_ext (λ z. led_move f l x y r h e m z))

pub connected : (d : Tables) (j l x y : ℕ) (f : Factor) → j < length d.parts
    → f.facts ≡ (part d.parts j).facts → f.start ≡ (part d.parts j).start → goals f ≡ goals (part d.parts j)
    → entry f ≡ put l (put x (Some y) (entry (part d.parts j) l)) (entry (part d.parts j))
    → described (with_part d j f) ≡ leads j l (put x (Some y) ((described d).moves j l)) (described d)
connected d j l x y f h a b g e = same _ _ refl refl refl
    (set_keeps (λ p. p.facts) d.parts j f past_part a)
    (set_keeps (λ p. p.start) d.parts j f past_part b)
    (λ i z. set_keeps (λ p. goals p z) d.parts j f past_part (ap (λ (q : ℕ → Bool). q z) g) i)
    (λ _. refl)
    (λ i m z. ap (λ (q : ℕ → ℕ → Option ℕ). q m z) (set_puts entry d.parts j f past_part _ h e i))

pub marked : (d : Tables) (j x : ℕ) (f : Factor) → j < length d.parts
    → f.facts ≡ (part d.parts j).facts → f.start ≡ (part d.parts j).start → goals f ≡ put x true (goals (part d.parts j))
    → entry f ≡ entry (part d.parts j)
    → described (with_part d j f) ≡ adds (Goal j x) (described d)
marked d j x f h a b g e = same _ _ refl refl refl
    (set_keeps (λ p. p.facts) d.parts j f past_part a)
    (set_keeps (λ p. p.start) d.parts j f past_part b)
    (λ i z. ap (λ (q : ℕ → Bool). q z) (set_puts goals d.parts j f past_part _ h g i))
    (λ _. refl)
    (λ i m z. set_keeps (λ p. entry p m z) d.parts j f past_part (ap (λ (q : ℕ → ℕ → Option ℕ). q m z) e) i)

-- a label that keeps the first n facts of a factor
abbrev pub keeps : Described → ℕ → ℕ → ℕ → Described
keeps t j l n = leads j l (λ x. cond (ltb x n) (Some x) (t.moves j l x)) t

pub keeps_more : (t : Described) (j l n : ℕ) → leads j l (put n (Some n) ((keeps t j l n).moves j l)) (keeps t j l n) ≡ keeps t j l (n + 1)
keeps_more t j l n = same _ _ refl refl refl (λ _. refl) (λ _. refl) (λ _ _. refl) (λ _. refl) (λ i m z. grind (arith, nat_tests))

pub keeps_step : (t u w : Described) (j l n : ℕ) → u ≡ keeps t j l n → w ≡ leads j l (put n (Some n) (u.moves j l)) u → w ≡ keeps t j l (n + 1)
keeps_step t u w j l n p q = q ∙ ap (λ (v : Described). leads j l (put n (Some n) (v.moves j l)) v) p ∙ keeps_more t j l n
