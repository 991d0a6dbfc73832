use Rattle.std.proofs.Common.{get_or, is_some, sym, ap, ◌∙◌, arith}
use Rattle.std.proofs.lemmas.Bool.{le-ltb}
use Rattle.lists.specs.Capacity.{capacity_limit}
use Rattle.lists.proofs.Nones.{read_nones}
use Rattle.lists.proofs.heap.Heap.new.Goals as goal

pub invariant_of-result-clause-fronted : goal.invariant_of-result-clause-fronted
invariant_of-result-clause-fronted g c n l = ap is_some (read_nones capacity_limit n) ∙ sym (le-ltb (get_or c.in_order-order.result n 0) 0 (omega arith))

pub returns-clause-empty : goal.returns-clause-empty
returns-clause-empty g c n = read_nones capacity_limit n
