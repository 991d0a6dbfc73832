use Rattle.samples.proofs.Examples.{worked_examples}
use Rattle.trials.proofs.worked.worked.Goals as goal

pub returns : goal.returns
returns c = worked_examples
