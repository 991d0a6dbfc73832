use Rattle.task.specs.Meaning.{meaning}
use Rattle.estimators.specs.Longest.{ColumnsRight}
use Rattle.estimators.proofs.longest.methods.LongestEstimator.ready.Given as goal

abbrev pub invariant-loop-factor : goal.invariant-loop-factor
invariant-loop-factor g l = ColumnsRight l.self.distances.columns (meaning l.task) l.factor
