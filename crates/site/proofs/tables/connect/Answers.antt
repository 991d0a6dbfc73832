use Rattle.std.proofs.Common.{rules}
use Rattle.site.proofs.Drafting.{led_moves}
use Rattle.site.proofs.tables.connect.Goals as goal

pub returns-clause-moves : goal.returns-clause-moves
returns-clause-moves c = led_moves c.args.part.now c.args.label c.args.from c.args.to c.lead.new.row (search rules) c.lead.ensures.next
