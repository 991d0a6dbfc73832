use Rattle.std.proofs.Common.{rules}
use Rattle.ranking.proofs.Pairs.{order_listed}
use Rattle.ranking.proofs.order.Order.list.Goals as goal

pub returns : goal.returns
returns c = order_listed c.args.self.now c.args.lower c.args.upper c.list.new.self (search rules) c.list.ensures
