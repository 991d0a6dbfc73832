-- Planners that are alike answer alike. Assumes nothing.
use Rattle.std.proofs.Common.{◌≡◌, ℕ, ◌<◌, List, Some, None, Option, refl, ap, ◌∙◌, subst, subst₂}
use Rattle.task.specs.Task.{FactoredTask, start_state}
use Rattle.ranking.specs.Judging.{Unfit, Fit}
use Rattle.ranking.specs.Ranking.{Ranking, under}
use Rattle.astar.specs.Boards.{begun}
use Rattle.astar.specs.Takes.{Works}
use Rattle.astar.specs.Planner.{Model, Call, load, offer, withdraw, start, work, stop, untimely, Timely, Refused, out_of_phase, bad_site, bad_ranking, no_takes, Does, refuses, loads, offers, withdraws, hopeless, starts, works, stops}
use Rattle.astar.specs.Promises.{ordered, Alike, SameEstimates, AnswersAlike}
use Rattle.astar.specs.declared.refusal.CallRefusal.{CallRefusal}
use Rattle.astar.proofs.Stages.{Stage, work_runs, stage}
use Rattle.astar.proofs.Answering.{alike, does_once}
use Rattle.astar.proofs.Agreeing.{under_same, works_too}

alike_on : {p q r : Model} → Alike p q → Alike q r → Alike p r
alike_on {p} {q} {r} a b = record {
  phase = a.phase ∙ b.phase;
  task = a.task ∙ b.task;
  ranking = λ j x y hj hx hy. a.ranking j x y hj hx hy ∙ b.ranking j x y (subst (λ t. j < t.factors) a.task hj) (subst (λ t. x < t.facts j) a.task hx) (subst (λ t. y < t.facts j) a.task hy);
  board = a.board ∙ b.board;
}

estimates_on : (c : Call) (p q r : Model) → SameEstimates c p q → SameEstimates c q r → SameEstimates c p r
estimates_on (load file) p q r e f = tt
estimates_on (offer file) p q r e f = e ∙ f
estimates_on withdraw p q r e f = e ∙ f
estimates_on start p q r e f = e ∙ f
estimates_on (work n) p q r e f = e ∙ f
estimates_on stop p q r e f = e ∙ f

estimates_same : (c : Call) (p q : Model) → p.estimate ≡ q.estimate → SameEstimates c p q
estimates_same (load file) p q e = tt
estimates_same (offer file) p q e = e
estimates_same withdraw p q e = e
estimates_same start p q e = e
estimates_same (work n) p q e = e
estimates_same stop p q e = e

-- a ranking that is fit for a task is fit for the same task
fit_along : {t u : FactoredTask} {file : List ℕ} → t ≡ u → (f : Fit t file) → (g : Fit u file) × (f.offered.relation ≡ g.offered.relation)
fit_along {t} {u} {file} same f = subst (λ v. (g : Fit v file) × (f.offered.relation ≡ g.offered.relation)) same (f, refl)

module _ (p q : Model) (n : ℕ) (s : Stage p n p.phase) (a : Alike p q) (e : p.estimate ≡ q.estimate) where
  timely_too : (c : Call) → Timely p c → Timely q c
  timely_too c = subst (λ ph. untimely ph c ≡ None) a.phase

  refused_too : {c : Call} {x : CallRefusal} → Refused p c x → Refused q c x
  refused_too {c} {x} (out_of_phase is) = out_of_phase (subst (λ ph. untimely ph c ≡ Some x) a.phase is)
  refused_too (bad_site fits bad) = bad_site (timely_too _ fits) bad
  refused_too (bad_ranking {file = file} {e = x} fits bad) = bad_ranking (timely_too _ fits) (subst (λ t. Unfit t file x) a.task bad)
  refused_too (no_takes fits) = no_takes (timely_too _ fits)

  -- q answers as p does
  carried : (c : Call) (x : Option CallRefusal) (p' : Model) → Does p c x p' → (q' : Model) × Does q c x q' × Alike p' q' × SameEstimates c p' q'
  carried c x p' (refuses is) = (q, refuses (refused_too is), a, estimates_same c p q e)
  carried c x p' (loads b h fits lawful consistent) = (_, loads b h (timely_too _ fits) lawful consistent, alike _, tt)
  carried c x p' (offers f fits) =
      let (g, same) = fit_along a.task f in
      (_, offers g (timely_too _ fits), record { phase = a.phase; task = a.task; ranking = λ j y z hj hy hz. ap (λ (r : Ranking). r j y z) same; board = a.board }, e)
  carried c x p' (withdraws fits) = (_, withdraws (timely_too _ fits), record { phase = a.phase; task = a.task; ranking = λ j y z hj hy hz. refl; board = a.board }, e)
  carried c x p' (hopeless fits is) =
      (_, hopeless (timely_too _ fits) (subst₂ (λ (h : List ℕ → Option ℕ) t. h (start_state t) ≡ None) e a.task is), record { phase = refl; task = a.task; ranking = a.ranking; board = refl }, e)
  carried c x p' (starts d fits is) =
      (_, starts d (timely_too _ fits) (subst₂ (λ (h : List ℕ → Option ℕ) t. h (start_state t) ≡ Some d) e a.task is), record { phase = refl; task = a.task; ranking = a.ranking; board = ap (λ t. begun t d) a.task }, e)
  carried c x p' (works k {b = b} {w = w} fits some takes) =
      let (ready, going) = subst (Stage p n) (work_runs k p.phase fits) s in
      let there = works_too p.task p.estimate ready.lawful ready.consistent (under p.task p.ranking) (under p.task q.ranking) (under_same p.task p.ranking q.ranking a.ranking) going takes in
      let moved = subst₂ (λ (h : List ℕ → Option ℕ) t. Works t (under t q.ranking) h k p.board b w) e a.task there in
      (_, works k (timely_too _ fits) some (subst (λ d. Works q.task (under q.task q.ranking) q.estimate k d b w) a.board moved), record { phase = refl; task = a.task; ranking = a.ranking; board = refl }, e)
  carried c x p' (stops fits) = (_, stops (timely_too _ fits), record { phase = refl; task = a.task; ranking = a.ranking; board = refl }, e)

pub answers_alike : AnswersAlike
answers_alike p q p' q' row row' c x y reach reach' a e does does' =
    let (r, there, like, estimates) = carried p q (ordered row) (stage reach) a e c x p' does in
    let (same, like', estimates') = does_once q (ordered row') (stage reach') c r q' x y there does' in
    (same, alike_on like like', estimates_on c p' r q' estimates estimates')
