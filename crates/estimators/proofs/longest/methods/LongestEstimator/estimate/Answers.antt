use Rattle.std.proofs.Common.{◌≤◌, length, ◌∙◌, rules}
use Rattle.task.specs.Meaning.{state_of}
use Rattle.estimators.proofs.Keeping.{greatest_folds}
use Rattle.estimators.proofs.longest.methods.LongestEstimator.estimate.Goals as goal

pub returns : goal.returns
returns g c =
    let facts = state_of c.args.task.now c.args.state.now in
    let columns = c.args.self.now.distances.columns in
    let long : length facts ≤ length columns = search rules in
    c.greatest.ensures ∙ greatest_folds columns facts long
