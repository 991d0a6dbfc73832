use Rattle.std.proofs.Common.{◌≡◌, Some, None, sym, ap, ◌∙◌, subst, rules}
use Rattle.astar.specs.Planner.{untimely, with_ranking, bare}
use Rattle.astar.specs.declared.refusal.CallRefusal.TheVariants.{Empty, Busy, Idle}
use Rattle.planner.specs.View.{view, phase_of}
use Rattle.planner.specs.Calls.{call_of, Unchanged, LoadedFrom, Offered, Started}
use Rattle.planner.proofs.Calling.{on_refused, on_load, on_offer, on_withdraw, on_start, on_work, on_stop, unchanged_self}
use Rattle.planner.proofs.planner.Planner.call.Goals as goal

pub returns-in-Empty-Load : goal.returns-in-Empty-Load
returns-in-Empty-Load g c =
    let p = c.args.self.now in
    let q = c.load.new.self in
    let is : untimely (phase_of p.phase) (call_of c.args.call) ≡ None = search rules in
    on_load g.E.Estimator.value g.L.WaitingList.holds p q c.args.call c.in-Empty-Load.bytes c.load.result c.in-Empty-Load.is-1 is c.load.ensures

pub returns-in-Empty-Offer : goal.returns-in-Empty-Offer
returns-in-Empty-Offer g c =
    let p = c.args.self.now in
    let is : untimely (phase_of p.phase) (call_of c.args.call) ≡ Some Empty = search rules in
    on_refused g.E.Estimator.value g.L.WaitingList.holds p p c.args.call Empty is (unchanged_self p)

pub returns-in-Loaded-Work : goal.returns-in-Loaded-Work
returns-in-Loaded-Work g c =
    let p = c.args.self.now in
    let m = c.match-self.self in
    let same : m ≡ p = search rules in
    let is : untimely (phase_of p.phase) (call_of c.args.call) ≡ Some Idle = search rules in
    on_refused g.E.Estimator.value g.L.WaitingList.holds p m c.args.call Idle is (subst (Unchanged p) (sym same) (unchanged_self p))

pub returns-in-Loaded-Load : goal.returns-in-Loaded-Load
returns-in-Loaded-Load g c =
    let p = c.args.self.now in
    let m = c.match-self.self in
    let q = c.load-in-Loaded-Load.new.self in
    let same : m ≡ p = search rules in
    let is : untimely (phase_of p.phase) (call_of c.args.call) ≡ None = search rules in
    on_load g.E.Estimator.value g.L.WaitingList.holds p q c.args.call c.in-Loaded-Load.bytes c.load-in-Loaded-Load.result c.in-Loaded-Load.is-1 is (subst (λ x. LoadedFrom g.E.Estimator.value g.L.WaitingList.holds x c.in-Loaded-Load.bytes.now c.load-in-Loaded-Load.result q) same c.load-in-Loaded-Load.ensures)

pub returns-in-Loaded-Offer : goal.returns-in-Loaded-Offer
returns-in-Loaded-Offer g c =
    let p = c.args.self.now in
    let m = c.match-self.self in
    let q = c.offer.new.self in
    let same : m ≡ p = search rules in
    let is : untimely (phase_of p.phase) (call_of c.args.call) ≡ None = search rules in
    on_offer g.E.Estimator.value g.L.WaitingList.holds p q c.args.call c.in-Loaded-Offer.bytes c.offer.result c.in-Loaded-Offer.is-1 is (subst (λ x. Offered g.E.Estimator.value g.L.WaitingList.holds x c.in-Loaded-Offer.bytes.now c.offer.result q) same c.offer.ensures)

pub returns-in-Loaded-Withdraw : goal.returns-in-Loaded-Withdraw
returns-in-Loaded-Withdraw g c =
    let p = c.args.self.now in
    let m = c.match-self.self in
    let q = c.withdraw.new.self in
    let same : m ≡ p = search rules in
    let is : untimely (phase_of p.phase) (call_of c.args.call) ≡ None = search rules in
    on_withdraw g.E.Estimator.value g.L.WaitingList.holds p q c.args.call c.in-Loaded-Withdraw.is-1 is (c.withdraw.ensures ∙ ap (λ x. with_ranking (view g.E.Estimator.value g.L.WaitingList.holds x) bare) same)

pub returns-in-Loaded-Start : goal.returns-in-Loaded-Start
returns-in-Loaded-Start g c =
    let p = c.args.self.now in
    let m = c.match-self.self in
    let q = c.start.new.self in
    let same : m ≡ p = search rules in
    let is : untimely (phase_of p.phase) (call_of c.args.call) ≡ None = search rules in
    on_start g.E.Estimator.value g.L.WaitingList.holds p q c.args.call c.in-Loaded-Start.is-1 is (subst (λ x. Started (view g.E.Estimator.value g.L.WaitingList.holds x) (view g.E.Estimator.value g.L.WaitingList.holds q)) same c.start.ensures)

pub returns-in-Running-Work : goal.returns-in-Running-Work
returns-in-Running-Work g c =
    let p = c.args.self.now in
    let q = c.order.new.self in
    on_work g.E.Estimator.value g.L.WaitingList.holds p q c.in-Running-Work.is-0 c.args.call c.in-Running-Work.takes c.order.result c.in-Running-Work.is-1 c.order.ensures

pub returns-in-Running-Stop : goal.returns-in-Running-Stop
returns-in-Running-Stop g c =
    let p = c.args.self.now in
    let q = c.stop.new.self in
    on_stop g.E.Estimator.value g.L.WaitingList.holds p q c.in-Running-Stop.is-0 c.args.call c.in-Running-Stop.is-1 c.stop.ensures

pub returns-in-Running-Load : goal.returns-in-Running-Load
returns-in-Running-Load g c =
    let p = c.args.self.now in
    let is : untimely (phase_of p.phase) (call_of c.args.call) ≡ Some Busy = search rules in
    on_refused g.E.Estimator.value g.L.WaitingList.holds p p c.args.call Busy is (unchanged_self p)
