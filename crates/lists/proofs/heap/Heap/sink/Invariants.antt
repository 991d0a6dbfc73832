use Rattle.std.proofs.Common.{◌≡◌, ◌-◌, ◌<◌}
use Rattle.lists.specs.Capacity.{capacity_limit}
use Rattle.lists.specs.Heaps.{High}
use Rattle.lists.specs.Tables.{heap_earlier, heap_order}
use Rattle.lists.proofs.heap.Heap.sink.Given as goal

abbrev pub invariant-loop-child : goal.invariant-loop-child
invariant-loop-child g l =
    record {
      within : l.at < capacity_limit;
      high : High (heap_earlier g.K.Key.sooner l.self) (heap_order l.self) l.self.count l.at;
      keys : l.self.keys ≡ l.initial.self.keys;
      count : l.self.count ≡ l.initial.self.count;
    }

abbrev pub decreases-loop-child : goal.decreases-loop-child
decreases-loop-child g l = capacity_limit - l.at
