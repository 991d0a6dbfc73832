-- Two numbers of a heap that change places. Assumes nothing.
use Rattle.std.proofs.Common.{◌≡◌, ℕ, ◌<◌, Bool, ltb, List, get_or, set, sym, refl, ap, ◌∙◌, subst, ⊎_elim, ap₂, arith}
use Rattle.std.proofs.lemmas.List.Edits.{Swapped, swapped_from_swap, swap_is}
use Rattle.std.proofs.lemmas.Bool.{cases_eq}
use Rattle.lists.specs.Capacity.{capacity_limit}
use Rattle.lists.specs.declared.heap.Heap.{Heap}
use Rattle.lists.specs.Tidy.{Listed, Fronted}

-- o has a number at each place, and p the place of each number
abbrev Inverse : (ℕ → ℕ) → (ℕ → ℕ) → Type 0
Inverse o p = (k : ℕ) → k < capacity_limit → (o k < capacity_limit) × (p (o k) ≡ k)

inverse_swapped : (o p o' p' : ℕ → ℕ) (i j a b : ℕ) → a < capacity_limit → b < capacity_limit → o i ≡ a → o j ≡ b → p a ≡ i → p b ≡ j → Inverse o p → Swapped o o' i j → Swapped p p' a b → Inverse o' p'
inverse_swapped o p o' p' i j a b la lb oi oj pa pb inv (oi', oj', o-rest) (pa', pb', p-rest) k l =
    ⊎_elim
    (λ ki. let e : o' k ≡ b = ap o' ki ∙ oi' ∙ oj in
    (subst (λ x. x < capacity_limit) (sym e) lb, ap p' e ∙ pb' ∙ pa ∙ sym ki))
    (λ ki. ⊎_elim
    (λ kj. let e : o' k ≡ a = ap o' kj ∙ oj' ∙ oi in
    (subst (λ x. x < capacity_limit) (sym e) la, ap p' e ∙ pa' ∙ pb ∙ sym kj))
    (λ kj. let e : o' k ≡ o k = o-rest k ki kj in
    let back : p (o k) ≡ k = (inv k l).1 in (
      subst (λ x. x < capacity_limit) (sym e) (inv k l).0,
      ap p' e ∙ p-rest (o k) (λ f. ki (sym back ∙ ap p f ∙ pa)) (λ f. kj (sym back ∙ ap p f ∙ pb)) ∙ back,
    ))
    (cases_eq k j))
    (cases_eq k i)

abbrev read : List ℕ → ℕ → ℕ
read xs k = get_or xs k 0

inverse : (order places : List ℕ) → Listed order places → Inverse (read order) (read places)
inverse order places h k l = (h.inside k l, h.back k l)

listed : (order places : List ℕ) → Inverse (read order) (read places) → Listed order places
listed order places h = record { inside = λ k l. (h k l).0; back = λ k l. (h k l).1 }

module _ {K : Type 0} (s : Heap K) (i j : ℕ) (li : i < capacity_limit) (lj : j < capacity_limit) where
  abbrev a : ℕ
  a = get_or s.order i 0

  abbrev b : ℕ
  b = get_or s.order j 0

  abbrev pub order' : List ℕ
  order' = set (set s.order i b) j a

  abbrev pub places' : List ℕ
  places' = set (set s.places a j) b i

  la : a < capacity_limit
  la = s.listed.inside i li

  lb : b < capacity_limit
  lb = s.listed.inside j lj

  pub order_swapped : Swapped (read s.order) (read order') i j
  order_swapped =
      let full = s.full.1 in
      swapped_from_swap s.order order' i j 0 (omega arith) (omega arith) (swap_is s.order i j 0 (omega arith) (omega arith))

  same_places : places' ≡ set (set s.places a (get_or s.places b 0)) b (get_or s.places a 0)
  same_places = ap₂ (λ x y. set (set s.places a x) b y) (sym (s.listed.back j lj)) (sym (s.listed.back i li))

  places_swapped : Swapped (read s.places) (read places') a b
  places_swapped =
      let full = s.full.2 in
      let l = la in
      let m = lb in
      swapped_from_swap s.places places' a b 0 (omega arith) (omega arith) (same_places ∙ swap_is s.places a b 0 (omega arith) (omega arith))

  pub still_listed : Listed order' places'
  still_listed =
      listed order' places' (inverse_swapped (read s.order) (read s.places) (read order') (read places') i j a b la lb
      refl refl (s.listed.back i li) (s.listed.back j lj) (inverse s.order s.places s.listed) order_swapped places_swapped)

  pub still_placed : Listed places' order'
  still_placed =
      listed places' order' (inverse_swapped (read s.places) (read s.order) (read places') (read order') a b i j li lj
      (s.listed.back i li) (s.listed.back j lj) refl refl (inverse s.places s.order s.placed) places_swapped order_swapped)

  pub still_fronted : ltb i s.count ≡ ltb j s.count → Fronted s.keys places' s.count
  still_fronted alike n l =
      let front : ℕ → Bool = λ x. ltb x s.count in
      let place : ℕ → ℕ = read s.places in
      let place' : ℕ → ℕ = read places' in
      let moved = places_swapped in
      s.fronted n l ∙ ⊎_elim
      (λ na. ap (λ x. front (place x)) na ∙ ap front (s.listed.back i li) ∙ alike ∙ sym (ap (λ x. front (place' x)) na ∙ ap front (moved.0 ∙ s.listed.back j lj)))
      (λ na. ⊎_elim
      (λ nb. ap (λ x. front (place x)) nb ∙ ap front (s.listed.back j lj) ∙ sym alike ∙ sym (ap (λ x. front (place' x)) nb ∙ ap front (moved.1 ∙ s.listed.back i li)))
      (λ nb. sym (ap front (moved.2 n na nb)))
      (cases_eq n b))
      (cases_eq n a)
