use Rattle.std.proofs.Common.{rules}
use Rattle.site.proofs.Drafting.{connected}
use Rattle.site.proofs.tables.Tables.connect.Goals as goal

pub returns : goal.returns
returns c =
    let e = c.connect.ensures in
    connected c.args.self.now c.args.factor c.args.label c.args.from c.args.to c.connect.new.part (search rules)
    e.facts e.start e.goals e.moves
