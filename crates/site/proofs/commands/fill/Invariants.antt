use Rattle.std.proofs.Common.{List, length}
use Rattle.site.specs.Files.{Came}
use Rattle.site.proofs.commands.fill.Given as goal

abbrev pub invariant-loop-command : goal.invariant-loop-command
invariant-loop-command g l =
    let f = g.R.FromCommands in
    (before : List g.row.R-Command.Denot) × Came (f.format l.of) l.bytes before l.rest × f.holds l.read before

abbrev pub decreases-loop-command : goal.decreases-loop-command
decreases-loop-command g l = length l.rest
