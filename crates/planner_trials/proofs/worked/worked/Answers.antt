use Rattle.planner_trials.proofs.Running.{runs_worked}
use Rattle.planner_trials.proofs.worked.worked.Goals as goal

pub returns : goal.returns
returns c = runs_worked
