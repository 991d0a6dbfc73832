-- What a take asks is settled by looking: at each number below a bound, for a step, for the least key. Assumes nothing.
use Rattle.std.proofs.Common.{◌≡◌, ℕ, zero, suc, ◌<◌, false, ◌⊎◌, List, map, length, get_or, Some, None, Option, unwrap_or, sym, refl, ap, ◌∙◌, subst, inl, inr, ⊎_elim, arith}
use Rattle.std.specs.List.{range_with_len}
use Rattle.std.proofs.lemmas.List.FromFn.{length-map-range_with_len, get_or-map-range_with_len}
use Rattle.std.proofs.lemmas.Bool.{both_ways, cases_Bool, cases_eq}
use Rattle.task.specs.Task.{FactoredTask, Step, Goal, move}
use Rattle.lists.specs.Sooner.{sum_sooner}
use Rattle.lists.specs.Orders.{sum_irreflexive, sum_transitive}
use Rattle.lists.proofs.Scanning.{not_sooner}
use Rattle.lists.specs.declared.keys.SearchKey.{SearchKey}
use Rattle.astar.proofs.Options.{some_same, not_both}

-- A holds at each number below n, or B at one of them and A at each below that
pub look_first : {A B : ℕ → Type 0} → ((i : ℕ) → A i ⊎ B i) → (n : ℕ) → ((i : ℕ) → i < n → A i) ⊎ ((i : ℕ) × (i < n) × B i × ((j : ℕ) → j < i → A j))
look_first {A} {B} at zero = inl (λ i low. absurd (omega arith))
look_first {A} {B} at (suc n) = go (look_first at n) (at n)
  where
    go : ((i : ℕ) → i < n → A i) ⊎ ((i : ℕ) × (i < n) × B i × ((j : ℕ) → j < i → A j)) → A n ⊎ B n → ((i : ℕ) → i < suc n → A i) ⊎ ((i : ℕ) × (i < suc n) × B i × ((j : ℕ) → j < i → A j))
    go (inr (i, low, b, before)) last = inr (i, omega arith, b, before)
    go (inl all) (inr b) = inr (n, omega arith, b, all)
    go (inl all) (inl a) = inl (λ i low. ⊎_elim (λ same. subst A (sym same) a) (λ apart. all i (omega arith)) (cases_eq i n))

pub look : {A B : ℕ → Type 0} → ((i : ℕ) → A i ⊎ B i) → (n : ℕ) → ((i : ℕ) → i < n → A i) ⊎ ((i : ℕ) × (i < n) × B i)
look at n = ⊎_elim inl (λ (i, low, b, before). inr (i, low, b)) (look_first at n)

pub option_cases : {X : Type 0} (o : Option X) → ((x : X) × (o ≡ Some x)) ⊎ (o ≡ None)
option_cases (Some x) = inl (x, refl)
option_cases None = inr refl

pub goal_cases : (t : FactoredTask) (s : List ℕ) → Goal t s ⊎ (Goal t s → ⊥)
goal_cases t s = ⊎_elim inl (λ (j, low, is). inr (λ goal. both_ways _ is (goal j low))) (look (λ j. cases_Bool (t.goal j (get_or s j 0))) t.factors)

-- a label makes a step, or there is a factor in which it does nothing
pub step_cases : (t : FactoredTask) (s : List ℕ) (l : ℕ) → length s ≡ t.factors → l < t.labels → ((s' : List ℕ) × Step t s (suc l) s') ⊎ ((s' : List ℕ) → Step t s (suc l) s' → ⊥)
step_cases t s l long low = ⊎_elim (λ all. inl (into, step all)) (λ (j, inside, none). inr (λ s' step. not_both (step.moves.each j inside) none)) (look (λ j. option_cases (move t j (suc l) (get_or s j 0))) t.factors)
  where
    into : List ℕ
    into = map (λ j. unwrap_or (move t j (suc l) (get_or s j 0)) 0) (range_with_len 0 t.factors)

    step : ((j : ℕ) → j < t.factors → (x : ℕ) × (move t j (suc l) (get_or s j 0) ≡ Some x)) → Step t s (suc l) into
    step all = record {
      real = omega arith;
      moves = record {
        known = low;
        from = long;
        into = length-map-range_with_len _ 0 t.factors;
        each = λ j inside. (all j inside).1 ∙ ap Some (sym (get_or-map-range_with_len _ 0 t.factors j j 0 inside (omega arith) ∙ ap (λ o. unwrap_or o 0) (all j inside).1));
      };
    }

-- the least of the keys of the first n
pub record Best (w : ℕ → Option SearchKey) (n : ℕ) : Type 0 where
  pub place : ℕ
  pub key : SearchKey
  pub here : w place ≡ Some key
  pub inside : place < n
  pub least : (j : ℕ) (k : SearchKey) → j < n → w j ≡ Some k → sum_sooner k key ≡ false
  pub lowest : (j : ℕ) → j < place → w j ≡ Some key → ⊥

module _ (w : ℕ → Option SearchKey) (n : ℕ) where
  -- number n has the key k, which comes before no key of the others
  leads : (k : SearchKey) → w n ≡ Some k → ((j : ℕ) (k' : SearchKey) → j < n → w j ≡ Some k' → sum_sooner k' k ≡ false) → ((j : ℕ) → j < n → w j ≡ Some k → ⊥) → Best w (suc n)
  leads k is least lowest = record {
    place = n;
    key = k;
    here = is;
    inside = omega arith;
    least = λ j k' low is'. ⊎_elim (λ at. subst (λ x. sum_sooner x k ≡ false) (some_same (sym is ∙ ap w (sym at) ∙ is')) (sum_irreflexive k)) (λ apart. least j k' (omega arith) is') (cases_eq j n);
    lowest = lowest;
  }

  -- the best so far stays the best
  stays : (b : Best w n) → ((k : SearchKey) → w n ≡ Some k → sum_sooner k b.key ≡ false) → Best w (suc n)
  stays b last = record {
    place = b.place;
    key = b.key;
    here = b.here;
    inside = omega (arith, b.inside);
    least = λ j k low is. ⊎_elim (λ at. last k (ap w (sym at) ∙ is)) (λ apart. b.least j k (omega arith) is) (cases_eq j n);
    lowest = b.lowest;
  }

  best_more : (k : SearchKey) → w n ≡ Some k → ((i : ℕ) → i < n → w i ≡ None) ⊎ Best w n → Best w (suc n)
  best_more k is (inl none) = leads k is (λ j k' low is'. not_both is' (none j low)) (λ j low is'. not_both is' (none j low))
  best_more k is (inr b) =
      ⊎_elim
      (λ less. leads k is (λ j k' low is'. not_sooner sum_sooner sum_irreflexive sum_transitive k' k b.key less (b.least j k' low is')) (λ j low is'. both_ways _ (b.least j k low is') less))
      (λ not. stays b (λ k' is'. subst (λ x. sum_sooner x b.key ≡ false) (some_same (sym is ∙ is')) not))
      (cases_Bool (sum_sooner k b.key))

  best_same : w n ≡ None → ((i : ℕ) → i < n → w i ≡ None) ⊎ Best w n → ((i : ℕ) → i < suc n → w i ≡ None) ⊎ Best w (suc n)
  best_same is (inl none) = inl (λ i low. ⊎_elim (λ at. ap w at ∙ is) (λ apart. none i (omega arith)) (cases_eq i n))
  best_same is (inr b) = inr (stays b (λ k is'. not_both is' is))

-- nobody waits of the first n, or one of them has the least key
pub best : (w : ℕ → Option SearchKey) (n : ℕ) → ((i : ℕ) → i < n → w i ≡ None) ⊎ Best w n
best w zero = inl (λ i low. absurd (omega arith))
best w (suc n) = let before = best w n in ⊎_elim (λ (k, is). inr (best_more w n k is before)) (λ is. best_same w n is before) (option_cases (w n))
