-- When a label serves for another at one fact.
use Rattle.std.proofs.Common.{◌≡◌, ℕ, zero, suc, ◌-◌, ◌<◌, Bool, true, false, [], get_or, take, Some, None, Decides, Option, sym, refl, ap, ◌∙◌, arith}
use borrow.Author.Tests.{clash}
use Rattle.std.proofs.lemmas.List.{get_or-take}
use Rattle.task.specs.declared.row.Row.{Row}
use Rattle.task.specs.Limits.{fact_limit}
use Rattle.task.proofs.Moving.{lands}
use Rattle.task.specs.Task.{FactoredTask, move}
use Rattle.std.specs.Bool.{MatchBool}
use Rattle.ranking.specs.Finding.{ServesBeside}
use Rattle.ranking.specs.Ranking.{Ranking, Serves}
use Rattle.task.specs.Tables.{part, row, target}
use Rattle.task.specs.Meaning.{meaning}
use Rattle.task.specs.declared.task.Task.{Task}

-- label m does at the fact x at least as well as label k
abbrev pub At : FactoredTask → Ranking → ℕ → ℕ → ℕ → ℕ → Type 0
At t r j k m x = (y : ℕ) → move t j k x ≡ Some y → (z : ℕ) × (move t j m x ≡ Some z) × (r j y z ≡ true)

-- a row's target is what the task's move says
pub target_move : (t : Task) (j l x : ℕ) → target (row (part t.parts j) x) l x ≡ move (meaning t) j l x
target_move t j zero x = refl
target_move t j (suc l) x = refl

-- the row of a fact, in the slice of the rows of the factor's facts
pub row_at : (t : Task) (j x : ℕ) → x < (part t.parts j).facts
    → get_or (take ((part t.parts j).facts - 0) (part t.parts j).rows) x (record { goal = false; next = [] }) ≡ row (part t.parts j) x
row_at t j x h = let k : x < (part t.parts j).facts - 0 = omega arith in get_or-take _ (part t.parts j).rows x _ k

pub seen : (t : Task) (j l x : ℕ) (o : Option ℕ) → x < (part t.parts j).facts
    → o ≡ target (get_or (take ((part t.parts j).facts - 0) (part t.parts j).rows) x (record { goal = false; next = [] })) l x
    → move (meaning t) j l x ≡ o
seen t j l x o h e = sym (e ∙ ap (λ (r : Row). target r l x) (row_at t j x h) ∙ target_move t j l x)

-- a label leads from a fact to one of at most sixteen
pub lands_low : (t : Task) (j l x y : ℕ) → j < t.factors → x < (part t.parts j).facts → move (meaning t) j l x ≡ Some y → y < fact_limit
lands_low t j l x y in' h e = let a = lands t j l x y in' h e in let b = t.small j in' in omega arith

module _ (t : FactoredTask) (r : Ranking) (j k m x : ℕ) where
  -- where x moves by k and not by m to a fact at least as good, m does not serve
  pub serves_not : (y : ℕ) → x < t.facts j → move t j k x ≡ Some y → ((z : ℕ) → move t j m x ≡ Some z → r j y z ≡ true → ⊥) → Decides false (Serves t r j k m)
  serves_not y h e no' = (λ p. absurd (clash p), λ s. let w = s x y h e in absurd (no' w.0 w.1 w.2))

  pub at_some : (y z : ℕ) → move t j k x ≡ Some y → move t j m x ≡ Some z → r j y z ≡ true → At t r j k m x
  at_some y z p q b y' e = let s : y ≡ y' = cc in (z, q, rw s at b)

  pub at_none : move t j k x ≡ None → At t r j k m x
  at_none p y e = let z : ◌≡◌ {A = ℕ} 0 1 = cc in absurd (omega arith)

-- what is at none is at no number, and what holds at one number holds at the other where both are the same
pub none_some : {o : Option ℕ} {z : ℕ} → o ≡ None → o ≡ Some z → ⊥
none_some p q = let z : ◌≡◌ {A = ℕ} 0 1 = cc in omega arith

pub at_same : {o : Option ℕ} {y z : ℕ} (P : ℕ → Bool) → o ≡ Some y → o ≡ Some z → P z ≡ true → P y ≡ true
at_same {o} {y} {z} P p q b = let s : z ≡ y = cc in rw s at b

-- in each other factor a label serves, or in one it does not
pub beside_by : (t : FactoredTask) (r : Ranking) (i k m : ℕ) (b : Bool)
    → MatchBool b ((j : ℕ) → j < t.factors → (j ≡ i → ⊥) → Serves t r j k m) ((j : ℕ) × (j < t.factors) × ((j ≡ i → ⊥) × (Serves t r j k m → ⊥)))
    → Decides b (ServesBeside t r i k m)
beside_by t r i k m true w = (λ _. w, λ _. refl)
beside_by t r i k m false w = (λ p. absurd (clash p), λ all. absurd (w.2.1 (all w.0 w.1 w.2.0)))
