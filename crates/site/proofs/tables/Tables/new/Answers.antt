use Rattle.site.proofs.Drafting.{fresh_describes}
use Rattle.site.proofs.tables.Tables.new.Goals as goal

pub returns : goal.returns
returns c =
    let e = c.new.ensures in
    fresh_describes c.new.result e.facts e.start e.goals e.moves
