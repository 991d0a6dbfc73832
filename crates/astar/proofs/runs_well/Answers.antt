use Rattle.astar.proofs.runs_well.Goals as goal
use Rattle.astar.proofs.Searches.{searches_well}

pub returns : goal.returns
returns c = searches_well
