-- A call has an answer in every phase. Assumes nothing.
use Rattle.std.proofs.Common.{ℕ, zero, suc, Some, None, Option, refl, subst, ⊎_elim, arith}
use Rattle.task.specs.Task.{FactoredTask, start_state}
use Rattle.ranking.specs.Ranking.{under}
use Rattle.estimators.specs.Estimates.{Consistent}
use Rattle.astar.specs.Planner.{Model, Call, load, offer, withdraw, start, work, stop, untimely, Timely, out_of_phase, bad_site, bad_ranking, no_takes, Does, refuses, loads, offers, withdraws, hopeless, starts, works, stops}
use Rattle.astar.specs.Promises.{ordered, OfBytes, AnswersAlways}
use Rattle.astar.specs.declared.refusal.CallRefusal.{CallRefusal}
use Rattle.astar.specs.declared.refusal.CallRefusal.TheVariants.{Input, NoTakes}
use Rattle.astar.proofs.Deciding.{option_cases}
use Rattle.astar.proofs.FileCases.{site_cases}
use Rattle.astar.proofs.TaskLaws.{task_lawful}
use Rattle.astar.proofs.RankingCases.{fit_cases}
use Rattle.astar.proofs.Outcomes.{takes_one_way}
use Rattle.astar.proofs.Stages.{Stage, offer_ready, work_runs, stage}

-- no estimate at all
blank : (t : FactoredTask) → Consistent t (λ _. Some 0)
blank t = record { goal = λ s S goal. refl; step = λ s s' l e S S' step is. (0, refl, omega arith) }

module _ (p : Model) (n : ℕ) (s : Stage p n p.phase) where
  abbrev Answer : Call → Type 0
  Answer c = (x : Option CallRefusal) × (q : Model) × Does p c x q

  timely_answer : (c : Call) → OfBytes c → Timely p c → Answer c
  timely_answer (load file) fine fits =
      ⊎_elim
      (λ a. (None, _, loads a (λ _. Some 0) fits (task_lawful file a fine) (blank _)))
      (λ (e, bad). (Some (Input e), p, refuses (bad_site fits bad)))
      (site_cases file fine)
  timely_answer (offer file) fine fits =
      ⊎_elim
      (λ f. (None, _, offers f fits))
      (λ (e, bad). (Some (Input e), p, refuses (bad_ranking fits bad)))
      (fit_cases p.task (offer_ready p n file fits s).lawful file fine)
  timely_answer withdraw fine fits = (None, _, withdraws fits)
  timely_answer start fine fits =
      ⊎_elim (λ (e, is). (None, _, starts e fits is)) (λ is. (None, _, hopeless fits is)) (option_cases (p.estimate (start_state p.task)))
  timely_answer (work zero) fine fits = (Some NoTakes, p, refuses (no_takes fits))
  timely_answer (work (suc k)) fine fits =
      let (ready, going) = subst (Stage p n) (work_runs (suc k) p.phase fits) s in
      let (b, w, takes) = (takes_one_way p.task (under p.task p.ranking) p.estimate ready.lawful ready.consistent).work_some (suc k) p.board n going in
      (None, _, works (suc k) fits (omega arith) takes)
  timely_answer stop fine fits = (None, _, stops fits)

  answer : (c : Call) → OfBytes c → Answer c
  answer c fine = ⊎_elim (λ (e, is). (Some e, p, refuses (out_of_phase is))) (timely_answer c fine) (option_cases (untimely p.phase c))

pub answers_always : AnswersAlways
answers_always p row c reach = answer p (ordered row) (stage reach) c
