-- What an exchange of two numbers leaves of a heap's order. Assumes nothing.
use Rattle.std.proofs.Common.{◌≡◌, ℕ, zero, suc, ◌+◌, ◌-◌, ◌*◌, ◌/◌, ◌<◌, ◌≤◌, Bool, true, false, Option, ◌⊎◌, sym, ap, ◌∙◌, subst, subst₂, inl, inr, ⊎_elim, arith}
use Rattle.std.specs.Bool.{then_some}
use Rattle.std.specs.Cmp.{IsStrictWeakOrder}
use Rattle.std.proofs.lemmas.List.Edits.{Swapped}
use Rattle.std.proofs.lemmas.Bool.{cases_eq, cases_Bool}
use Rattle.lists.specs.Heaps.{Heaped, Loose, High, Above, First, Downward}

-- where only the top may stand too low, it can only stand too high
pub high_top : (lt : ℕ → ℕ → Bool) (w : ℕ → ℕ) (n : ℕ) → Loose lt w n 0 → High lt w n 0
high_top lt w n loose = record { loose = loose; above = λ pos in'. absurd (omega arith) }

module _ (lt : ℕ → ℕ → Bool) where
  -- what w shows of two places, at what v has there
  moved : (w v : ℕ → ℕ) (i j a b : ℕ) → v i ≡ w a → v j ≡ w b → lt (w a) (w b) ≡ false → lt (v i) (v j) ≡ false
  moved w v i j a b p q h = subst₂ (λ x y. lt x y ≡ false) (sym p) (sym q) h

module _ (lt : ℕ → ℕ → Bool) (ranks : IsStrictWeakOrder lt) where
  pub itself : (x : ℕ) → lt x x ≡ false
  itself x = ⊎_elim (λ e. ranks.one_way x x e) (λ e. e) (cases_Bool (lt x x))

  -- but at what stands below c, a heap is in order where c may only stand too high
  high_others : (w : ℕ → ℕ) (n c : ℕ) → High lt w n c → (i : ℕ) → 0 < i → i < n → ((i - 1) / 2 ≡ c → ⊥) → lt (w i) (w ((i - 1) / 2)) ≡ false
  high_others w n c high i low in' qc = ⊎_elim
      (λ ic. subst (λ x. lt (w x) (w ((x - 1) / 2)) ≡ false) (sym ic) (high.above (omega arith) (omega arith)))
      (λ ic. high.loose.others i low in' ic qc)
      (cases_eq i c)

  module _ (w v : ℕ → ℕ) (n c : ℕ) where
    -- the number at c moves up
    pub rise_more : (p : ℕ) → c < n → Loose lt w n c → Above lt w c p → Swapped w v c p → Loose lt v n p
    rise_more p within loose above (vc, vp, rest) = record {
      others = λ i low in' ip qp.
          let q : ℕ = (i - 1) / 2 in
          let pc : p ≡ (c - 1) / 2 = above.place in
          let ic : i ≡ c → ⊥ = λ e. qp (subst (λ x. (x - 1) / 2 ≡ p) (sym e) (sym pc)) in
          ⊎_elim
          (λ qc. moved lt w v i q i p (rest i ic ip) (ap v qc ∙ vc) (rw pc (loose.across i low in' qc above.lower)))
          (λ qc. moved lt w v i q i q (rest i ic ip) (rest q qc qp) (loose.others i low in' ic qc))
          (cases_eq q c);
      across = λ i low in' qp pos.
          let pc : p ≡ (c - 1) / 2 = above.place in
          let r : ℕ = (p - 1) / 2 in
          let lowc : 0 < c = above.lower in
          let pltc : p < c = omega arith in
          let rltp : r < p = omega arith in
          let rc : r ≡ c → ⊥ = λ e. omega arith in
          let rp : r ≡ p → ⊥ = λ e. omega arith in
          let up : lt (w p) (w r) ≡ false = loose.others p pos (omega arith) (λ e. omega arith) rc in
          ⊎_elim
          (λ ic. moved lt w v i r p r (ap v ic ∙ vc) (rest r rc rp) up)
          (λ ic. moved lt w v i r i r (rest i ic (λ e. omega arith)) (rest r rc rp)
          (ranks.chain (w i) (w p) (w r) (subst (λ x. lt (w i) (w x) ≡ false) qp (loose.others i low in' ic (λ e. omega arith))) up))
          (cases_eq i c);
    }

    -- the number at c moves down to s
    pub sink_more : (s : ℕ) → High lt w n c → First lt w n c s → lt (w s) (w c) ≡ true → Swapped w v c s → High lt v n s
    sink_more s high fst before (vc, vs, rest) =
        let place : (s - 1) / 2 ≡ c = fst.place in
        let lower : 0 < s = fst.lower in
        let clts : c < s = omega arith in
        record {
          loose = record {
            others = λ i low in' is qs.
                let q : ℕ = (i - 1) / 2 in
                ⊎_elim
                (λ qc. moved lt w v i q i s (rest i (λ e. omega arith) is) (ap v qc ∙ vc) (fst.first i low in' qc))
                (λ qc. ⊎_elim
                (λ ic. moved lt w v i q s q (ap v ic ∙ vc) (rest q qc qs)
                (subst (λ x. lt (w s) (w ((x - 1) / 2)) ≡ false) (sym ic) (high.loose.across s lower fst.inside place (omega arith))))
                (λ ic. moved lt w v i q i q (rest i ic is) (rest q qc qs) (high_others w n c high i low in' qc))
                (cases_eq i c))
                (cases_eq q c);
            across = λ i low in' qs pos.
                let slti : s < i = omega arith in
                moved lt w v i ((s - 1) / 2) i s (rest i (λ e. omega arith) (λ e. omega arith)) (ap v place ∙ vc)
                (subst (λ x. lt (w i) (w x) ≡ false) qs (high_others w n c high i low in' (λ e. omega arith)));
          };
          above = λ pos in'. moved lt w v s ((s - 1) / 2) c s vs (ap v place ∙ vc) (ranks.one_way (w s) (w c) before);
        }

  pub sink_done : (w : ℕ → ℕ) (n c : ℕ) → High lt w n c → ((i : ℕ) → 0 < i → i < n → (i - 1) / 2 ≡ c → lt (w i) (w c) ≡ false) → Heaped lt w n
  sink_done w n c high h i low in' = ⊎_elim
      (λ qc. subst (λ x. lt (w i) (w x) ≡ false) (sym qc) (h i low in' qc))
      (λ qc. high_others w n c high i low in' qc)
      (cases_eq ((i - 1) / 2) c)

  below : (w : ℕ → ℕ) (n : ℕ) → Heaped lt w n → (f i : ℕ) → i ≤ f → i < n → lt (w i) (w 0) ≡ false
  below w n heaped zero i h in' = let e : i ≡ 0 = omega arith in subst (λ x. lt (w x) (w 0) ≡ false) (sym e) (itself (w 0))
  below w n heaped (suc f) i h in' = ⊎_elim
      (λ e. subst (λ x. lt (w x) (w 0) ≡ false) (sym e) (itself (w 0)))
      (λ ne. let low : 0 < i = omega arith in
      ranks.chain (w i) (w ((i - 1) / 2)) (w 0) (heaped i low in') (below w n heaped f ((i - 1) / 2) (omega arith) (omega arith)))
      (cases_eq i 0)

  -- no number comes before the one at the top
  pub top_first : (w : ℕ → ℕ) (n : ℕ) → Heaped lt w n → (i : ℕ) → i < n → lt (w i) (w 0) ≡ false
  top_first w n heaped i in' = below w n heaped i i (omega arith) in'

  -- which of the places below c comes first
  module _ (w : ℕ → ℕ) (n c : ℕ) where
    either_place : (i : ℕ) → 0 < i → (i - 1) / 2 ≡ c → (i ≡ 2 * c + 1) ⊎ (i ≡ 2 * c + 1 + 1)
    either_place i low e = ⊎_elim (λ s. inl s) (λ s. inr (omega arith)) (cases_eq i (2 * c + 1))

    pub left_first : 2 * c + 1 + 1 < n → false ≡ lt (w (2 * c + 1 + 1)) (w (2 * c + 1)) → First lt w n c (2 * c + 1)
    left_first l h = record {
      lower = omega arith;
      inside = omega arith;
      place = omega arith;
      first = λ i low in' e. ⊎_elim
          (λ s. subst (λ x. lt (w x) (w (2 * c + 1)) ≡ false) (sym s) (itself (w (2 * c + 1))))
          (λ s. subst (λ x. lt (w x) (w (2 * c + 1)) ≡ false) (sym s) (sym h))
          (either_place i low e);
    }

    pub right_first : 2 * c + 1 + 1 < n → true ≡ lt (w (2 * c + 1 + 1)) (w (2 * c + 1)) → First lt w n c (2 * c + 1 + 1)
    right_first l h = record {
      lower = omega arith;
      inside = l;
      place = omega arith;
      first = λ i low in' e. ⊎_elim
          (λ s. subst (λ x. lt (w x) (w (2 * c + 1 + 1)) ≡ false) (sym s) (ranks.one_way (w (2 * c + 1 + 1)) (w (2 * c + 1)) (sym h)))
          (λ s. subst (λ x. lt (w x) (w (2 * c + 1 + 1)) ≡ false) (sym s) (itself (w (2 * c + 1 + 1))))
          (either_place i low e);
    }

    -- the first of the places below, if its number comes before the one at c
    pub downward : (s : ℕ) → First lt w n c s → (before : Bool) → before ≡ lt (w s) (w c) → (r : Option ℕ) → r ≡ then_some before s → Downward lt w n c r
    downward s fst true h r e = subst (Downward lt w n c) (sym e) (fst, sym h)
    downward s fst false h r e = subst (Downward lt w n c) (sym e) (λ i low in' q. ranks.chain (w i) (w s) (w c) (fst.first i low in' q) (sym h))
