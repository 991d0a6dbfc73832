use Rattle.astar.proofs.keeps_promises.Goals as goal
use Rattle.astar.proofs.Promises.{keeps_promises}

pub returns : goal.returns
returns c = keeps_promises
