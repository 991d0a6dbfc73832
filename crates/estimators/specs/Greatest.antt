-- The greater of two estimates keeps what both keep. Assumes nothing.
use Rattle.std.specs.Prelude.{◌≡◌, ℕ, ◌+◌, ◌≤◌, max, List, Some, None, Option, refl}
use Rattle.std.proofs.Common.{sym, ap₂, arith}
use Rattle.task.specs.Task.{FactoredTask, price}
use Rattle.estimators.specs.Estimates.{Consistent, greater}

-- of a number that is the greater of two: which two
pub greater_parts : (a b : Option ℕ) (e : ℕ) → greater a b ≡ Some e → (x : ℕ) × (y : ℕ) × (a ≡ Some x) × (b ≡ Some y) × (e ≡ max x y)
greater_parts None None e p = let z : ◌≡◌ {A = ℕ} 0 1 = cc in absurd (omega arith)
greater_parts None (Some y) e p = let z : ◌≡◌ {A = ℕ} 0 1 = cc in absurd (omega arith)
greater_parts (Some x) None e p = let z : ◌≡◌ {A = ℕ} 0 1 = cc in absurd (omega arith)
greater_parts (Some x) (Some y) e p = let q : max x y ≡ e = cc in (x, y, refl, refl, sym q)

pub greater_from : (a b : Option ℕ) (x y : ℕ) → a ≡ Some x → b ≡ Some y → greater a b ≡ Some (max x y)
greater_from a b x y p q = ap₂ greater p q

pub greater_small : (a b : Option ℕ) (n : ℕ) → ((v : ℕ) → a ≡ Some v → v ≤ n) → ((v : ℕ) → b ≡ Some v → v ≤ n) → (v : ℕ) → greater a b ≡ Some v → v ≤ n
greater_small a b n p q v e =
    let w = greater_parts a b v e in
    let k = p w.0 w.2 in
    let l = q w.1 w.3 in
    let m = w.4 in
    omega arith

pub greater_zero : (a b : Option ℕ) → a ≡ Some 0 → b ≡ Some 0 → greater a b ≡ Some 0
greater_zero a b p q = ap₂ greater p q

-- one step back: both grow by no more than the price
abbrev pub Back : ℕ → Option ℕ → Option ℕ → Type 0
Back p a b = (e : ℕ) → b ≡ Some e → (d : ℕ) × (a ≡ Some d) × (d ≤ p + e)

pub greater_back : (p : ℕ) (a b a' b' : Option ℕ) → Back p a a' → Back p b b' → Back p (greater a b) (greater a' b')
greater_back p a b a' b' f h e q =
    let w = greater_parts a' b' e q in
    let u = f w.0 w.2 in
    let v = h w.1 w.3 in
    let m = w.4 in
    let k = u.2 in
    let l = v.2 in
    (max u.0 v.0, greater_from a b u.0 v.0 u.1 v.1, omega arith)

pub greater_consistent : (t : FactoredTask) (f h : List ℕ → Option ℕ) → Consistent t f → Consistent t h → Consistent t (λ s. greater (f s) (h s))
greater_consistent t f h p q = record {
  goal = λ s known goal. greater_zero (f s) (h s) (p.goal s known goal) (q.goal s known goal);
  step = λ s s' l e from into moves v.
      greater_back (price t l) (f s) (h s) (f s') (h s') (λ e w. p.step s s' l e from into moves w) (λ e w. q.step s s' l e from into moves w) e v;
}
