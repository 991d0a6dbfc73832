use Rattle.std.proofs.Common.{◌≡◌, subst, arith}
use Rattle.task.specs.Meaning.{meaning}
use Rattle.estimators.specs.Longest.{ColumnsRight}
use Rattle.estimators.specs.Largest.{longest_exact}
use Rattle.estimators.proofs.Keeping.{columns_more}
use Rattle.estimators.proofs.longest.methods.LongestEstimator.ready.Goals as goal

pub loop-factor-preserved : goal.loop-factor-preserved
loop-factor-preserved g c =
    let t = c.args.task.now in
    let j = c.loop-factor.factor in
    columns_more c.loop-factor.self.distances.columns _ (meaning t) j c.distances-table.result c.distances-table.ensures (λ x l. c.put.ensures.given x (let s = t.small j (omega arith) in omega arith)) c.put.ensures.others c.loop-factor.invariant

pub returns : goal.returns
returns g c =
    let t = c.args.task.now in
    let columns = c.loop-factor.self.distances.columns in
    let all : c.loop-factor.factor ≡ t.factors = omega arith in
    longest_exact columns (meaning t) t.some (subst (ColumnsRight columns (meaning t)) all c.loop-factor.invariant)
