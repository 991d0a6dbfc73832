use Rattle.lists.proofs.Exchanging.{order_swapped, still_listed, still_placed, still_fronted}
use Rattle.lists.proofs.heap.Heap.exchange.Goals as goal

pub invariant_of-self-clause-listed : goal.invariant_of-self-clause-listed
invariant_of-self-clause-listed g c = still_listed c.args.self.now c.args.i c.args.j c.requires.within c.requires.other

pub invariant_of-self-clause-placed : goal.invariant_of-self-clause-placed
invariant_of-self-clause-placed g c = still_placed c.args.self.now c.args.i c.args.j c.requires.within c.requires.other

pub invariant_of-self-clause-fronted : goal.invariant_of-self-clause-fronted
invariant_of-self-clause-fronted g c = still_fronted c.args.self.now c.args.i c.args.j c.requires.within c.requires.other c.requires.alike

pub returns-clause-order : goal.returns-clause-order
returns-clause-order g c = order_swapped c.args.self.now c.args.i c.args.j c.requires.within c.requires.other
