use Rattle.std.proofs.Common.{◌≡◌, Some, sym, ap, ◌∙◌}
use Rattle.astar.specs.Promises.{result, result_of}
use Rattle.astar.proofs.Promises.{keeps_promises}
use Rattle.planner.specs.View.{view, phase_of}
use Rattle.planner.proofs.Answering.{end_phase}
use Rattle.planner.proofs.planner.Planner.cost.Goals as goal

pub returns-clause-cheapest : goal.returns-clause-cheapest
returns-clause-cheapest g c =
    let p = c.args.self.now in
    let m = view g.E.Estimator.value g.L.WaitingList.holds p in
    let is = end_phase p.phase c.in-Some.end (sym c.plan_end.ensures ∙ c.in-Some.is) in
    let exact : result m ≡ Some (Some c.cost_at.result) = ap (λ ph. result_of m (phase_of ph)) is ∙ ap (λ x. Some (Some x)) (sym c.cost_at.ensures) in
    λ row reach.
    let kept = keeps_promises.keeps m row reach in
    (kept.reached c.cost_at.result exact, kept.floor c.cost_at.result exact)
