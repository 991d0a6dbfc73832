use Rattle.astar.proofs.takes_one_way.Goals as goal
use Rattle.astar.proofs.Outcomes.{takes_one_way}

pub returns : goal.returns
returns c = takes_one_way
