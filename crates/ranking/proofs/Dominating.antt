-- A label-dominance simulation compares states, and so a plan is answered by a plan. Assumes nothing.
use Rattle.std.proofs.Common.{◌≡◌, ℕ, zero, suc, ◌<◌, ◌≤◌, Bool, true, ◌⊎◌, List, [], ◌∷◌, map, length, get_or, Some, None, Option, sym, refl, ap, ◌∙◌, subst, inl, inr, ⊎_elim, arith}
use Rattle.std.specs.List.{range_with_len}
use Rattle.std.proofs.lemmas.List.FromFn.{length-map-range_with_len, get_or-map-range_with_len}
use Rattle.std.proofs.lemmas.Bool.{and_parts, and_from, cases_eq}
use Rattle.task.specs.Task.{FactoredTask, Lawful, State, Moves, Step, Runs, done, goes, Goal, PlanFrom, move, price, total}
use Rattle.ranking.specs.Comparison.{Comparison}
use Rattle.ranking.specs.Ranking.{Ranking, Reply, Simulation, Dominates, every, under}

some_same : {x y : ℕ} → Some x ≡ Some y → x ≡ y
some_same e = cc

-- a move leads from a state to a state
pub moves_state : {t : FactoredTask} {s s' : List ℕ} {l : ℕ} → Lawful t → State t s → Moves t s l s' → State t s'
moves_state lawful S m = record { each = m.into; known = λ j h. lawful.lands j _ _ _ h m.known (S.known j h) (m.each j h) }

pub every_each : (p : ℕ → Bool) (n : ℕ) → every p n ≡ true → (k : ℕ) → k < n → p k ≡ true
every_each p zero e k h = absurd (omega arith)
every_each p (suc n) e k h = ⊎_elim (λ q. ap p q ∙ parts.1) (λ q. every_each p n parts.0 k (omega arith)) (cases_eq k n)
  where
    parts : (every p n ≡ true) × (p n ≡ true)
    parts = and_parts (every p n) (p n) e

pub each_every : (p : ℕ → Bool) (n : ℕ) → ((k : ℕ) → k < n → p k ≡ true) → every p n ≡ true
each_every p zero e = refl
each_every p (suc n) e = and_from (every p n) (p n) (each_every p n (λ k h. e k (omega arith))) (e n (omega arith))

-- label m leads in factor j from x to a fact at least as good as y
abbrev Lands : FactoredTask → Ranking → ℕ → ℕ → ℕ → ℕ → Type 0
Lands t r m j x y = (z : ℕ) × (move t j m x ≡ Some z) × (r j y z ≡ true)

-- Of a step from s by l into s': a label that does as well where the facts of the first n factors are those of u.
record Half (t : FactoredTask) (r : Ranking) (s u s' : List ℕ) (l n : ℕ) : Type 0 where
  label : ℕ
  known : label ≤ t.labels
  cheap : price t label ≤ price t l
  crossed : (j : ℕ) → j < t.factors → j < n → Lands t r label j (get_or u j 0) (get_or s' j 0)
  rest : (j : ℕ) → j < t.factors → n ≤ j → Lands t r label j (get_or s j 0) (get_or s' j 0)

value_of : Option ℕ → ℕ
value_of (Some x) = x
value_of None = 0

module _ (t : FactoredTask) (r : Ranking) (lawful : Lawful t) (sim : Simulation t r) where
  module _ (s u s' : List ℕ) (l : ℕ) (S : State t s) (U : State t u) (S' : State t s') (better : under t r s u ≡ true) where
    half_none : Moves t s l s' → Half t r s u s' l 0
    half_none m = record {
      label = l;
      known = m.known;
      cheap = omega arith;
      crossed = λ j h none. absurd (omega arith);
      rest = λ j h _. (get_or s' j 0, m.each j h, sim.self j _ h (S'.known j h));
    }

    -- the label that replies serves in each other factor
    served : (n j k x y a b : ℕ) → k ≤ t.labels → j < t.factors → (j ≡ n → ⊥) → x < t.facts j → y < t.facts j → (p : Reply t r n k a b) → Lands t r k j x y → Lands t r p.label j x y
    served n j k x y a b known h apart fx fy p (z, moves, up) =
        let q = p.serves j h apart x z fx moves in
        (q.0, q.1, sim.chain j y z q.0 h fy (lawful.lands j k x z h known fx moves) (lawful.lands j _ x _ h p.known fx q.1) up q.2)

    half_more : (n : ℕ) → n < t.factors → Half t r s u s' l n → Half t r s u s' l (suc n)
    half_more n inside c = record {
      label = p.label;
      known = p.known;
      cheap = omega (arith, p.cheap, c.cheap);
      crossed = λ j h low. here j h low (cases_eq j n);
      rest = λ j h high. served n j _ _ _ _ _ c.known h (omega arith) (S.known j h) (S'.known j h) p (c.rest j h (omega arith));
    }
      where
        at : Lands t r c.label n (get_or s n 0) (get_or s' n 0)
        at = c.rest n inside (omega arith)

        p : Reply t r n c.label at.0 (get_or u n 0)
        p = sim.reply n _ _ c.label at.0 inside (S.known n inside) (U.known n inside) c.known (every_each _ t.factors better n inside) at.1

        new : Lands t r p.label n (get_or u n 0) (get_or s' n 0)
        new = (p.into, p.moves, sim.chain n _ at.0 _ inside (S'.known n inside) (lawful.lands n _ _ _ inside c.known (S.known n inside) at.1) (lawful.lands n _ _ _ inside p.known (U.known n inside) p.moves) at.2 p.better)

        here : (j : ℕ) → j < t.factors → j < suc n → (j ≡ n) ⊎ (j ≡ n → ⊥) → Lands t r p.label j (get_or u j 0) (get_or s' j 0)
        here j h low (inl q) = subst (λ i. Lands t r p.label i (get_or u i 0) (get_or s' i 0)) (sym q) new
        here j h low (inr q) = served n j _ _ _ _ _ c.known h q (U.known j h) (S'.known j h) p (c.crossed j h (omega arith))

    half : Moves t s l s' → (n : ℕ) → n ≤ t.factors → Half t r s u s' l n
    half m zero h = half_none m
    half m (suc n) h = half_more n h (half m n (omega arith))

    -- where label m leads from u
    into : ℕ → List ℕ
    into m = map (λ j. value_of (move t j m (get_or u j 0))) (range_with_len 0 t.factors)

    into_at : (m j y : ℕ) → j < t.factors → (c : Lands t r m j (get_or u j 0) y) → get_or (into m) j 0 ≡ c.0
    unfolding value_of into
    into_at m j y h c = get_or-map-range_with_len _ 0 t.factors j j 0 h (omega arith) ∙ ap value_of c.1

    -- u answers by the label of the last half: it stands still, or makes a step
    answers : (m : ℕ) → m ≤ t.labels → price t m ≤ price t l → ((j : ℕ) → j < t.factors → Lands t r m j (get_or u j 0) (get_or s' j 0)) → (under t r s' u ≡ true) ⊎ ((k : ℕ) × (u' : List ℕ) × Step t u k u' × (price t k ≤ price t l) × (under t r s' u' ≡ true))
    unfolding into
    answers zero known cheap lands = inl (each_every _ t.factors (λ j h. rw (← some_same (lands j h).1) at (lands j h).2))
    answers (suc m) known cheap lands = inr (
      suc m,
      into (suc m),
      record {
        real = omega arith;
        moves = record {
          known = known;
          from = U.each;
          into = length-map-range_with_len _ 0 t.factors;
          each = λ j h. (lands j h).1 ∙ ap Some (sym (into_at (suc m) j _ h (lands j h)));
        };
      },
      cheap,
      each_every _ t.factors (λ j h. ap (r j (get_or s' j 0)) (into_at (suc m) j _ h (lands j h)) ∙ (lands j h).2),
    )

pub simulates : (t : FactoredTask) (r : Ranking) → Lawful t → Simulation t r → Comparison t (under t r)
simulates t r lawful sim = record {
  goal = λ s u S U better goal j h. sim.goal j _ _ h (S.known j h) (U.known j h) (every_each _ t.factors better j h) (goal j h);
  step = λ s u s' l S U better step.
      let S' = moves_state lawful S step.moves in
      let c = half t r lawful sim s u s' l S U S' better step.moves t.factors (omega arith) in
      answers t r lawful sim s u s' l S U S' better c.label c.known c.cheap (λ j h. c.crossed j h h);
}

-- a plan from u that costs no more than the labels ls and is no longer
pub record Answer (t : FactoredTask) (u ls : List ℕ) : Type 0 where
  pub labels : List ℕ
  pub plan : PlanFrom t u labels
  pub cheap : total t labels ≤ total t ls
  pub short : length labels ≤ length ls

module _ (t : FactoredTask) (below : List ℕ → List ℕ → Bool) (lawful : Lawful t) (c : Comparison t below) where
  answer_more : (u u' ls : List ℕ) (l m : ℕ) → Step t u m u' → price t m ≤ price t l → Answer t u' ls → Answer t u (l ∷ ls)
  answer_more u u' ls l m step cheap a = record {
    labels = m ∷ a.labels;
    plan = record { last = a.plan.last; runs = goes step a.plan.runs; goal = a.plan.goal };
    cheap = omega (arith, a.cheap);
    short = omega (arith, a.short);
  }

  answer_stay : (u ls : List ℕ) (l : ℕ) → Answer t u ls → Answer t u (l ∷ ls)
  answer_stay u ls l a = record { labels = a.labels; plan = a.plan; cheap = omega (arith, a.cheap); short = omega (arith, a.short) }

  pub plan_answered : (s u ls last : List ℕ) → State t s → State t u → below s u ≡ true → Runs t s ls last → Goal t last → Answer t u ls
  plan_answered s u ls last S U better done goal =
      record { labels = []; plan = record { last = u; runs = done; goal = c.goal s u S U better goal }; cheap = omega arith; short = omega arith }
  plan_answered s u (l ∷ ls) last S U better (goes {s' = s'} step runs) goal =
      let S' = moves_state lawful S step.moves in
      ⊎_elim
      (λ stay. answer_stay u ls l (plan_answered s' u ls last S' U stay runs goal))
      (λ w. answer_more u w.1 ls l w.0 w.2 w.3 (plan_answered s' w.1 ls last S' (moves_state lawful U w.2.moves) w.4 runs goal))
      (c.step s u s' l S U better step)

pub dominates : (t : FactoredTask) (r : Ranking) → Lawful t → Simulation t r → Dominates t r
dominates t r lawful sim =
    let c = simulates t r lawful sim in
    record {
      compares = c;
      plans = λ s u ls S U better p.
          let a = plan_answered t (under t r) lawful c s u ls p.last S U better p.runs p.goal in
          (a.labels, a.plan, a.cheap);
    }
