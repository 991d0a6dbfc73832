use Rattle.std.proofs.Common.{refl}
use Rattle.estimators.proofs.Keeping.{cell_blank, low_blank}
use Rattle.estimators.proofs.fact_costs.FactCosts.hopeless.Goals as goal

pub invariant_of-result : goal.invariant_of-result
invariant_of-result c = record { full = refl; low = low_blank }

pub returns : goal.returns
returns c = cell_blank
