use Rattle.std.proofs.Common.{refl}
use Rattle.lists.proofs.Nones.{read_nones}
use Rattle.estimators.specs.Cases.{none_some}
use Rattle.estimators.proofs.pair.Pair.new.Goals as goal

pub invariant_of-result : goal.invariant_of-result
invariant_of-result g c = record { low = λ x d p. none_some (read_nones 256 x) p }

pub returns : goal.returns
returns g c = record { waiting = refl; first = refl; second = refl; hopeless = λ n. read_nones 256 n }
