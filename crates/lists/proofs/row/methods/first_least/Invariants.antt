use Rattle.lists.specs.Scan.{BestBelow}
use Rattle.lists.proofs.row.methods.first_least.Given as goal

abbrev pub invariant-loop-number : goal.invariant-loop-number
invariant-loop-number g l = BestBelow g.K.Key.sooner l.keys l.number l.best
