use Rattle.std.proofs.Common.{sym, refl, ap, ◌∙◌, subst}
use Rattle.planner.specs.View.{view, phase_of}
use Rattle.planner.specs.Questions.{LabelIn}
use Rattle.planner.proofs.Answering.{end_phase, label_in, tells_from, names_from}
use Rattle.planner.proofs.planner.Planner.label.Goals as goal

pub returns : goal.returns
returns g c =
    let p = c.args.self.now in
    let m = view g.E.Estimator.value g.L.WaitingList.holds p in
    let at = ap phase_of (end_phase p.phase c.in-Some.end (sym c.plan_end.ensures ∙ c.in-Some.is)) in
    let tells = tells_from m c.args.position c.in-Some.end c.ok_or.result at (λ ls chain short. subst (LabelIn ls c.args.position) (sym c.ok_or.ensures.value) (label_in ls c.args.position c.label_at.result (c.label_at.ensures m.board ls refl chain short))) in
    record { exact = tells; plan = names_from m c.args.position c.ok_or.result tells }
