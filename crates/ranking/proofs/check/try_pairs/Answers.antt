use Rattle.std.proofs.Common.{arith}
use Rattle.std.proofs.lemmas.Result.{err_from_is_err_and}
use Rattle.task.specs.Meaning.{meaning}
use Rattle.ranking.specs.First.{all_well}
use Rattle.ranking.proofs.Rising.{first_error}
use Rattle.ranking.proofs.check.try_pairs.Goals as goal

pub returns-in_err-check_at : goal.returns-in_err-check_at
returns-in_err-check_at g c =
    let p = err_from_is_err_and c.from_residual.result c.from_residual.ensures.1 in
    rw (p.1, p.2) (first_error (meaning c.args.task.now) _ _ _ _ _ (omega arith, omega arith, omega arith) c.in_err-check_at.ensures c.loop-factor.invariant c.loop-a.invariant c.loop-b.invariant)

pub returns : goal.returns
returns g c = all_well (λ i a b inside. c.loop-factor.invariant i (omega arith) a b inside)
