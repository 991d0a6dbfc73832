-- A call has one answer at most, and makes one planner of a planner. Assumes nothing.
use Rattle.std.proofs.Common.{◌≡◌, ℕ, Some, None, Option, sym, refl, ap, ◌∙◌, subst, arith}
use Rattle.site.specs.SiteFile.{site_file}
use Rattle.site.proofs.Once.{site_way, rejected_once, accepted_rejected}
use Rattle.ranking.specs.Ranking.{under}
use Rattle.ranking.proofs.Once.{task_once, offered_agree, unfit_once, fit_unfit}
use Rattle.astar.specs.Boards.{begun}
use Rattle.astar.specs.Planner.{Model, after, Call, load, offer, withdraw, start, work, stop, Timely, Refused, out_of_phase, bad_site, bad_ranking, no_takes, Does, refuses, loads, offers, withdraws, hopeless, starts, works, stops}
use Rattle.astar.specs.Promises.{ordered, Alike, SameEstimates, AnswersOnce}
use Rattle.astar.specs.declared.refusal.CallRefusal.{CallRefusal}
use Rattle.astar.specs.declared.refusal.CallRefusal.TheVariants.{Input}
use Rattle.astar.proofs.Options.{some_same, not_both}
use Rattle.astar.proofs.Outcomes.{takes_one_way}
use Rattle.astar.proofs.Stages.{Stage, offer_ready, work_runs, stage}

-- a call that is accepted fits the phase
timely : {p q : Model} {c : Call} → Does p c None q → Timely p c
timely (loads a h fits lawful consistent) = fits
timely (offers f fits) = fits
timely (withdraws fits) = fits
timely (hopeless fits is) = fits
timely (starts e fits is) = fits
timely (works n fits some takes) = fits
timely (stops fits) = fits

pub alike : (p : Model) → Alike p p
alike p = record { phase = refl; task = refl; ranking = λ j a b hj ha hb. refl; board = refl }

same_estimates : (c : Call) (p : Model) → SameEstimates c p p
same_estimates (load file) p = tt
same_estimates (offer file) p = refl
same_estimates withdraw p = refl
same_estimates start p = refl
same_estimates (work n) p = refl
same_estimates stop p = refl

module _ (p : Model) (n : ℕ) (s : Stage p n p.phase) where
  refused_once : (c : Call) (e f : CallRefusal) → Refused p c e → Refused p c f → e ≡ f
  refused_once c e f (out_of_phase is) (out_of_phase is') = some_same (sym is ∙ is')
  refused_once c e f (out_of_phase is) (bad_site fits bad) = not_both is fits
  refused_once c e f (out_of_phase is) (bad_ranking fits bad) = not_both is fits
  refused_once c e f (out_of_phase is) (no_takes fits) = not_both is fits
  refused_once c e f (bad_site fits bad) (out_of_phase is) = not_both is fits
  refused_once c e f (bad_site {file = file} fits bad) (bad_site fits' bad') = ap Input (rejected_once site_file site_way file _ _ bad bad')
  refused_once c e f (bad_ranking fits bad) (out_of_phase is) = not_both is fits
  refused_once c e f (bad_ranking {file = file} fits bad) (bad_ranking fits' bad') =
      ap Input (unfit_once p.task (offer_ready p n file fits s).closed file _ _ bad bad')
  refused_once c e f (no_takes fits) (out_of_phase is) = not_both is fits
  refused_once c e f (no_takes fits) (no_takes fits') = refl

  accepted_refused : (c : Call) (q : Model) (e : CallRefusal) → Does p c None q → Refused p c e → ⊥
  accepted_refused c q e does (out_of_phase is) = not_both is (timely does)
  accepted_refused c q e (loads {file = file} a h fits lawful consistent) (bad_site fits' bad) = accepted_rejected site_file site_way file _ a bad
  accepted_refused c q e (offers {file = file} f fits) (bad_ranking fits' bad) = fit_unfit p.task (offer_ready p n file fits s).closed file _ f bad
  accepted_refused c q e (works m fits some takes) (no_takes fits') = omega arith

  accepted_once : (c : Call) (q r : Model) → Does p c None q → Does p c None r → Alike q r × SameEstimates c q r
  accepted_once c q r (loads {file = file} a h fits lawful consistent) (loads b k fits' lawful' consistent') =
      (record { phase = refl; task = task_once file a b; ranking = λ j x y hj hx hy. refl; board = refl }, tt)
  accepted_once c q r (offers {file = file} f fits) (offers g fits') =
      (record { phase = refl; task = refl; ranking = offered_agree p.task (offer_ready p n file fits s).closed file f.offered g.offered; board = refl }, refl)
  accepted_once c q r (withdraws fits) (withdraws fits') = (alike _, refl)
  accepted_once c q r (hopeless fits is) (hopeless fits' is') = (alike _, refl)
  accepted_once c q r (hopeless fits is) (starts e fits' is') = not_both is' is
  accepted_once c q r (starts e fits is) (hopeless fits' is') = not_both is is'
  accepted_once c q r (starts e fits is) (starts d fits' is') =
      (record { phase = refl; task = refl; ranking = λ j x y hj hx hy. refl; board = ap (begun p.task) (some_same (sym is ∙ is')) }, refl)
  accepted_once c q r (works m {b = b} {w = w} fits some takes) (works m' {b = b'} {w = v} fits' some' takes') =
      let (ready, going) = subst (Stage p n) (work_runs m p.phase fits) s in
      let (same, alike) = (takes_one_way p.task (under p.task p.ranking) p.estimate ready.lawful ready.consistent).work_one m p.board b b' n w v going takes takes' in
      (record { phase = ap after alike; task = refl; ranking = λ j x y hj hx hy. refl; board = same }, refl)
  accepted_once c q r (stops fits) (stops fits') = (alike _, refl)

  pub does_once : (c : Call) (q r : Model) (x y : Option CallRefusal) → Does p c x q → Does p c y r → (x ≡ y) × Alike q r × SameEstimates c q r
  does_once c q r (Some e) (Some f) (refuses is) (refuses is') = (ap Some (refused_once c e f is is'), alike p, same_estimates c p)
  does_once c q r (Some e) None (refuses is) does = absurd (accepted_refused c r e does is)
  does_once c q r None (Some f) does (refuses is) = absurd (accepted_refused c q f does is)
  does_once c q r None None does does' = let (same, estimates) = accepted_once c q r does does' in (refl, same, estimates)

pub answers_once : AnswersOnce
answers_once p q r row c x y reach = does_once p (ordered row) (stage reach) c q r x y
