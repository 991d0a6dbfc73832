-- A key that a number of a heap gets or gives up. Assumes nothing.
use Rattle.std.proofs.Common.{◌≡◌, ℕ, ◌+◌, ◌-◌, ◌/◌, ◌<◌, Bool, true, false, eqb, ltb, List, length, get_or, set, is_some, Some, None, Option, sym, refl, ap, ◌∙◌, subst, subst₂, ⊎_elim, arith, lit<}
use Rattle.std.specs.Map.{update}
use Rattle.std.proofs.lemmas.Map.{update_here, update_apart}
use Rattle.std.proofs.lemmas.List.{get_or-set_same, get_or-set_other, get_or_past}
use Rattle.std.proofs.lemmas.Bool.{cases_eq, cases_lt, lt-ltb, le-ltb, ltb-true, both_ways}
use Rattle.lists.specs.Capacity.{capacity_limit}
use Rattle.lists.specs.declared.heap.Heap.{Heap}
use Rattle.lists.specs.Sooner.{KeyOrder}
use Rattle.lists.specs.Heaps.{earlier, ahead, Heaped, Loose}
use Rattle.lists.specs.Least.{Least}
use Rattle.lists.specs.Tables.{heap_holds, heap_order, heap_earlier, InOrder}
use Rattle.lists.specs.Tidy.{Fronted}
use Rattle.lists.proofs.Scanning.{some_none}
use Rattle.lists.proofs.Ranking.{earlier_ranks, key_not_sooner, number_not_lower}
use Rattle.lists.proofs.Heaping.{top_first}

-- a test on a number below a bound, and below the next one, where it is not the bound itself
one_more : (p last : ℕ) → (p ≡ last → ⊥) → ltb p last ≡ ltb p (last + 1)
one_more p last ne = ⊎_elim
    (λ l. lt-ltb p last l ∙ sym (lt-ltb p (last + 1) (omega arith)))
    (λ l. le-ltb p last l ∙ sym (le-ltb p (last + 1) (omega arith)))
    (cases_lt p last)

some_from : {K : Type 0} (o : Option K) → is_some o ≡ true → (k : K) × (o ≡ Some k)
some_from None e = absurd (both_ways false refl e)
some_from (Some k) e = (k, refl)

-- a list of options where one is written, as a table from numbers
pub set_is_update : {K : Type 0} (keys : List (Option K)) (n : ℕ) (w : Option K) (m : ℕ) → n < length keys → get_or (set keys n w) m None ≡ update eqb (λ m. get_or keys m None) n w m
set_is_update keys n w m l =
    ⊎_elim
    (λ e. subst (λ x. get_or (set keys n w) x None ≡ update eqb (λ m. get_or keys m None) n w x) (sym e) (get_or-set_same keys n w None l ∙ sym (update_here (λ m. get_or keys m None) n w)))
    (λ ne. get_or-set_other keys n m w None ne ∙ sym (update_apart (λ m. get_or keys m None) n w m ne))
    (cases_eq m n)

module _ {K : Type 0} (h : Heap K) (number : ℕ) (within : number < capacity_limit) where
  abbrev place : ℕ → ℕ
  place n = get_or h.places n 0

  -- the front where one key is written, at a new count
  written : (count : ℕ) (w : Option K) → is_some w ≡ ltb (place number) count
      → ((n : ℕ) → (n ≡ number → ⊥) → n < capacity_limit → ltb (place n) h.count ≡ ltb (place n) count) → Fronted (set h.keys number w) h.places count
  written count w here others n l =
      let full = h.full.0 in
      ⊎_elim
      (λ e. subst (λ x. is_some (get_or (set h.keys number w) x None) ≡ ltb (place x) count) (sym e)
      (ap is_some (get_or-set_same h.keys number w None (omega arith)) ∙ here))
      (λ ne. ap is_some (get_or-set_other h.keys number n w None ne) ∙ h.fronted n l ∙ others n ne l)
      (cases_eq n number)

  pub replaced_fronted : (k : K) → place number < h.count → Fronted (set h.keys number (Some k)) h.places h.count
  replaced_fronted k l = written h.count (Some k) (sym (lt-ltb (place number) h.count l)) (λ n ne m. refl)

  module _ (last : ℕ) (at : place number ≡ last) where
    elsewhere : (n : ℕ) → (n ≡ number → ⊥) → n < capacity_limit → place n ≡ last → ⊥
    elsewhere n ne l e = ne (sym (h.placed.back n l) ∙ ap (λ x. get_or h.order x 0) (e ∙ sym at) ∙ h.placed.back number within)

    pub entered_fronted : (k : K) → h.count ≡ last → Fronted (set h.keys number (Some k)) h.places (last + 1)
    entered_fronted k e =
        written (last + 1) (Some k) (sym (lt-ltb (place number) (last + 1) (omega arith)))
        (λ n ne l. ap (ltb (place n)) e ∙ one_more (place n) last (elsewhere n ne l))

    pub left_fronted : h.count ≡ last + 1 → Fronted (set h.keys number None) h.places last
    left_fronted e =
        written last None (sym (le-ltb (place number) last (omega arith)))
        (λ n ne l. ap (ltb (place n)) e ∙ sym (one_more (place n) last (elsewhere n ne l)))

module _ {K : Type 0} {sooner : K → K → Bool} (laws : KeyOrder sooner) where
  -- only the number at c changes its key, and all others stay where they are
  pub loose_at : (table table' : ℕ → Option K) (w w' : ℕ → ℕ) (n n' c number : ℕ)
      → ((m : ℕ) → (m ≡ number → ⊥) → table' m ≡ table m)
      → ((i : ℕ) → i < n' → (i ≡ c → ⊥) → (i < n) × (w' i ≡ w i) × (w i ≡ number → ⊥))
      → Heaped (earlier sooner table) w n → Loose (earlier sooner table') w' n' c
  loose_at table table' w w' n n' c number same away heaped =
      let kept : (i j : ℕ) → i < n' → j < n' → (i ≡ c → ⊥) → (j ≡ c → ⊥) → earlier sooner table (w i) (w j) ≡ false → earlier sooner table' (w' i) (w' j) ≡ false =
      λ i j li lj ic jc h.
      let a = away i li ic in
      let b = away j lj jc in
      subst₂ (λ x y. earlier sooner table' x y ≡ false) (sym a.1) (sym b.1)
      (subst₂ (λ x y. ahead sooner x y (ltb (w i) (w j)) ≡ false) (sym (same (w i) a.2)) (sym (same (w j) b.2)) h) in
      record {
        others = λ i low l ic qc. kept i ((i - 1) / 2) l (omega arith) ic qc (heaped i low (away i l ic).0);
        across = λ i low l e pos.
            let ic : i ≡ c → ⊥ = λ f. omega arith in
            let pc : (c - 1) / 2 ≡ c → ⊥ = λ f. omega arith in
            let inside = (away i l ic).0 in
            let up : earlier sooner table (w i) (w c) ≡ false = subst (λ x. earlier sooner table (w i) (w x) ≡ false) e (heaped i low inside) in
            kept i ((c - 1) / 2) l (omega arith) ic pc
            ((earlier_ranks laws table).chain (w i) (w c) (w ((c - 1) / 2)) up (heaped c pos (omega arith)));
      }

module _ {K : Type 0} (h : Heap K) where
  -- the place of a number that holds a key
  held_place : (n : ℕ) (k : K) → heap_holds h n ≡ Some k → (get_or h.places n 0 < h.count) × (heap_order h (get_or h.places n 0) ≡ n)
  held_place n k e =
      let full = h.full.0 in
      ⊎_elim
      (λ l. (ltb-true (get_or h.places n 0) h.count (sym (h.fronted n l) ∙ ap is_some e), h.placed.back n l))
      (λ l. some_none (heap_holds h n) k (get_or_past h.keys n None (omega arith)) e)
      (cases_lt n capacity_limit)

  -- the number at the top has the least key
  pub top_least : {sooner : K → K → Bool} → KeyOrder sooner → 0 < h.count → InOrder sooner h → (k : K) × Least sooner (heap_holds h) (heap_order h 0) k
  top_least {sooner} laws low heaped =
      let top : ℕ = heap_order h 0 in
      let zero_in : 0 < capacity_limit = lit< tt in
      let back = h.listed.back 0 zero_in in
      let has = some_from (heap_holds h top) (h.fronted top (h.listed.inside 0 zero_in) ∙ lt-ltb (get_or h.places top 0) h.count (omega arith)) in
      let first : (m : ℕ) (j : K) → heap_holds h m ≡ Some j → heap_earlier sooner h m top ≡ false =
      λ m j e. let p = held_place m j e in
      subst (λ x. heap_earlier sooner h x top ≡ false) p.1
      (top_first (heap_earlier sooner h) (earlier_ranks laws (heap_holds h)) (heap_order h) h.count heaped (get_or h.places m 0) p.0) in (
        has.0,
        record {
          held = has.1;
          least = λ m j e. key_not_sooner laws (heap_holds h) m top j has.0 e has.1 (first m j e);
          lowest = λ m e. number_not_lower laws (heap_holds h) m top has.0 e has.1 (first m has.0 e);
        },
      )
