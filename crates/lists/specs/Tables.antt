-- The table that a heap is, and its order. Assumes nothing.
use Rattle.std.specs.Prelude.{ℕ, Bool, None, Option, slice_index, slice_index_or}
use Rattle.std.proofs.Common.{arith, lit≤}
use Rattle.std.proofs.lemmas.List.{get_or_past}
use Rattle.lists.specs.Capacity.{capacity_limit}
use Rattle.lists.specs.declared.heap.Heap.{Heap}
use Rattle.lists.specs.Heaps.{earlier, Heaped}
use Rattle.lists.specs.Least.{Bounded}

-- the key of a number
abbrev pub heap_holds : {K : Type 0} → Heap K → ℕ → Option K
heap_holds h n = slice_index_or h.keys n None

-- the number at a place
abbrev pub heap_order : {K : Type 0} → Heap K → ℕ → ℕ
heap_order h i = slice_index h.order i

-- whether a number comes before another
abbrev pub heap_earlier : {K : Type 0} → (K → K → Bool) → Heap K → ℕ → ℕ → Bool
heap_earlier sooner h = earlier sooner (heap_holds h)

-- no number comes before the one above it
abbrev pub InOrder : {K : Type 0} → (K → K → Bool) → Heap K → Type 0
InOrder sooner h = Heaped (heap_earlier sooner h) (heap_order h) h.count

-- what holds a heap has room for what the heap has
pub through : {S K : Type 0} (heap : S → Heap K) → Bounded {S = S} (λ s. heap_holds (heap s)) (λ _. capacity_limit)
through heap = record {
  roomy = λ s. lit≤ tt;
  beyond = λ s n l. let e = (heap s).full.0 in get_or_past (heap s).keys n None (omega arith);
}
