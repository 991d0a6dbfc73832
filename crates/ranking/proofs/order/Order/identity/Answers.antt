use Rattle.ranking.specs.Tables.{order}
use Rattle.ranking.proofs.Pairs.{identity_none, identity_more}
use Rattle.ranking.proofs.order.Order.identity.Goals as goal

pub loop-fact-init : goal.loop-fact-init
loop-fact-init c = identity_none

pub loop-fact-preserved : goal.loop-fact-preserved
loop-fact-preserved c = identity_more (order c.loop-fact.order) _ c.loop-fact.fact c.loop-fact.invariant c.list.ensures
