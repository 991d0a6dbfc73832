-- One state under another, by the arrays that stand for them. Assumes nothing.
use Rattle.std.proofs.Common.{◌≡◌, ℕ, zero, suc, ◌<◌, Bool, true, false, get_or, sym, ◌∙◌, subst, ap₂, inl, inr, arith}
use Rattle.std.specs.Bool.{MatchBool}
use Rattle.std.proofs.lemmas.List.{get_or-take}
use Rattle.std.proofs.lemmas.Bool.{cases_eq, and_left, and_right}
use Rattle.task.specs.Meaning.{meaning, state_of}
use Rattle.task.specs.declared.task.Task.{Task}
use Rattle.task.specs.declared.state.State.{State}
use Rattle.ranking.specs.Ranking.{Ranking, every, under}
use Rattle.ranking.proofs.Dominating.{each_every}

every_false : (p : ℕ → Bool) (n k : ℕ) → k < n → p k ≡ false → every p n ≡ false
every_false p zero k l e = absurd (omega arith)
every_false p (suc n) k l e =
    elim (cases_eq k n) [
      | inl s ↦ and_right (every p n) (p n) (subst (λ (x : ℕ). p x ≡ false) s e)
      | inr d ↦ let l' : k < n = omega arith in and_left (every p n) (p n) (every_false p n k l' e)
    ]

module _ (t : Task) (r : Ranking) (s u : State) where
  at_state : (k : ℕ) → k < t.factors → r k (get_or (state_of t s) k 0) (get_or (state_of t u) k 0) ≡ r k (get_or s.facts k 0) (get_or u.facts k 0)
  at_state k h = ap₂ (r k) (get_or-take t.factors s.facts k 0 h) (get_or-take t.factors u.facts k 0 h)

  -- each fact stands under the other's, or one does not
  pub under_by : (b : Bool) → MatchBool b ((k : ℕ) → k < t.factors → r k (get_or s.facts k 0) (get_or u.facts k 0) ≡ true) ((k : ℕ) × (k < t.factors) × (r k (get_or s.facts k 0) (get_or u.facts k 0) ≡ false))
      → b ≡ under (meaning t) r (state_of t s) (state_of t u)
  under_by true h = sym (each_every _ t.factors (λ k l. at_state k l ∙ h k l))
  under_by false h = sym (every_false _ t.factors h.0 h.1 (at_state h.0 h.1 ∙ h.2))
