use Rattle.std.proofs.Common.{ap₂, ◌∙◌, subst}
use Rattle.task.specs.Meaning.{meaning}
use Rattle.task.specs.declared.task.Task.{Task}
use Rattle.task.proofs.Moving.{lawful}
use Rattle.estimators.specs.declared.two_factors.TwoFactors.{TwoFactors}
use Rattle.estimators.specs.Parts.{product_nodes}
use Rattle.estimators.specs.Measuring.{reading, Distances}
use Rattle.estimators.specs.Pairing.{pair_exact}
use Rattle.estimators.proofs.pair.methods.PairEstimator.ready.Goals as goal

pub returns-in-Some : goal.returns-in-Some
returns-in-Some g c =
    let e = c.args.self.now in
    let t = c.args.task.now in
    let of = c.in-Some.ensures in
    let far = subst (λ (u : Task). Distances (product_nodes (meaning u) e.factors.first e.factors.second) (reading c.distances-table.result)) of.1
    (subst (λ (f : TwoFactors). Distances (product_nodes (meaning c.in-Some.product.task.now) f.first f.second) (reading c.distances-table.result)) of.2 c.distances-table.ensures) in
    let across = c.across-self.ensures ∙ ap₂ (λ (u : Task) (f : TwoFactors). (meaning u).facts f.second) of.1 of.2 in
    pair_exact (meaning t) e.factors.first e.factors.second c.across-self.result c.distances-table.result (lawful t) of.0 across far
