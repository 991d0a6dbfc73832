use Rattle.ranking.proofs.Pairs.{read_into}
use Rattle.ranking.proofs.order.Ranking.read.Goals as goal

pub returns : goal.returns
returns c = read_into c.args.task.now _ _ c.read_file.ensures
