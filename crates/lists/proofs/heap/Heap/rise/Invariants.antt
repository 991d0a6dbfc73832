use Rattle.std.proofs.Common.{◌≡◌, ◌<◌}
use Rattle.lists.specs.Heaps.{Loose}
use Rattle.lists.specs.Tables.{heap_earlier, heap_order}
use Rattle.lists.proofs.heap.Heap.rise.Given as goal

abbrev pub invariant-loop-parent : goal.invariant-loop-parent
invariant-loop-parent g l =
    record {
      within : l.at < l.self.count;
      loose : Loose (heap_earlier g.K.Key.sooner l.self) (heap_order l.self) l.self.count l.at;
      keys : l.self.keys ≡ l.initial.self.keys;
      count : l.self.count ≡ l.initial.self.count;
    }

abbrev pub decreases-loop-parent : goal.decreases-loop-parent
decreases-loop-parent g l = l.at
