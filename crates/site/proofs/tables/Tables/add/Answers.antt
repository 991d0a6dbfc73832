use Rattle.std.proofs.Common.{rules}
use Rattle.site.proofs.Drafting.{marked}
use Rattle.site.proofs.tables.Tables.add.Goals as goal

pub returns-in-Goal : goal.returns-in-Goal
returns-in-Goal c =
    let e = c.mark.ensures in
    rw c.in-Goal.is (marked c.args.self.now c.in-Goal.factor c.in-Goal.fact c.mark.new.part (search rules)
    e.facts e.start e.goals e.moves)
