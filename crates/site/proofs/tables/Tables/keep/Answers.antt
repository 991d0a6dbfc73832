use Rattle.site.specs.Drafts.{described}
use Rattle.site.proofs.Drafting.{keeps_step}
use Rattle.site.proofs.tables.Tables.keep.Goals as goal

pub loop-fact-preserved : goal.loop-fact-preserved
loop-fact-preserved c = keeps_step (described c.args.self.now) (described c.loop-fact.self) _ _ _ c.loop-fact.fact c.loop-fact.invariant c.connect.ensures
