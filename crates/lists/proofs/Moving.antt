-- What a heap is after one move, and what is taken from it. Assumes nothing.
use Rattle.std.proofs.Common.{◌≡◌, ℕ, ◌<◌, Bool, true, get_or, None, sym, subst₂}
use Rattle.std.specs.Cmp.{IsStrictWeakOrder}
use Rattle.std.proofs.lemmas.List.Edits.{Swapped}
use Rattle.lists.specs.declared.heap.Heap.{Heap}
use Rattle.lists.specs.Sooner.{KeyOrder}
use Rattle.lists.specs.Heaps.{earlier, Loose, High, Above, First}
use Rattle.lists.specs.Tables.{heap_holds, heap_order, heap_earlier}
use Rattle.lists.proofs.Ranking.{earlier_ranks}
use Rattle.lists.proofs.Heaping.{rise_more, sink_more}

module _ {K : Type 0} {sooner : K → K → Bool} (laws : KeyOrder sooner) where
  pub heap_ranks : (h : Heap K) → IsStrictWeakOrder (heap_earlier sooner h)
  heap_ranks h = earlier_ranks laws (heap_holds h)

  module _ (h h' : Heap K) (at to : ℕ) (keys : h'.keys ≡ h.keys) (count : h'.count ≡ h.count) (swapped : Swapped (heap_order h) (heap_order h') at to) where
    pub rose : at < h.count → Loose (heap_earlier sooner h) (heap_order h) h.count at → Above (heap_earlier sooner h) (heap_order h) at to → Loose (heap_earlier sooner h') (heap_order h') h'.count to
    rose within loose above =
        subst₂ (λ ks n. Loose (earlier sooner (λ m. get_or ks m None)) (heap_order h') n to) (sym keys) (sym count)
        (rise_more (heap_earlier sooner h) (heap_ranks h) (heap_order h) (heap_order h') h.count at to within loose above swapped)

    pub sank : High (heap_earlier sooner h) (heap_order h) h.count at → First (heap_earlier sooner h) (heap_order h) h.count at to → heap_earlier sooner h (heap_order h to) (heap_order h at) ≡ true → High (heap_earlier sooner h') (heap_order h') h'.count to
    sank high fst before =
        subst₂ (λ ks n. High (earlier sooner (λ m. get_or ks m None)) (heap_order h') n to) (sym keys) (sym count)
        (sink_more (heap_earlier sooner h) (heap_ranks h) (heap_order h) (heap_order h') h.count at to high fst before swapped)
