use Rattle.ranking.proofs.Concluding.{checked}
use Rattle.ranking.proofs.judge.judge_ranking.Goals as goal

pub returns : goal.returns
returns c = checked c.args.task.now c.args.bytes.now c.in_ok-ranking.ranking c.in_ok-ranking.ensures c.check.result c.check.ensures
