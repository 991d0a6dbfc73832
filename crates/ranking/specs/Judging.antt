-- What is to be said of a site file and a ranking file. Assumes nothing.
use Rattle.std.specs.Prelude.{◌≡◌, ℕ, List, Some, None, Ok, Err, Option, Result}
use Rattle.task.specs.Task.{FactoredTask}
use Rattle.site.specs.Files.{Accepted, Rejected}
use Rattle.site.specs.Saying.{task_of}
use Rattle.site.specs.SiteFile.{site_file}
use Rattle.site.specs.declared.refusal.Refusal.{Refusal}
use Rattle.ranking.specs.Ranking.{Ranking, Simulation, Dominates}
use Rattle.ranking.specs.RankingFile.{ranking_file, Lists}
use Rattle.ranking.specs.Verdict.{FirstBroken}
use Rattle.ranking.specs.declared.judge.Rejection.{Rejection}
use Rattle.ranking.specs.declared.judge.Rejection.TheVariants as rejection

-- a ranking file that is accepted for a task, and the relation that it lists
pub record Offered (t : FactoredTask) (bytes : List ℕ) : Type 0 where
  pub file : Accepted (ranking_file t) bytes
  pub relation : Ranking
  pub lists : Lists t file.ended.before relation

-- Why a ranking is refused for a task: the file is refused, or the relation breaks a rule.
pub data Unfit (t : FactoredTask) (bytes : List ℕ) (e : Refusal) : Type 0 where
  misread : Rejected (ranking_file t) bytes e → Unfit t bytes e
  broken : (o : Offered t bytes) → FirstBroken t o.relation e → Unfit t bytes e

-- a ranking that may be relied on for a task: it is a label-dominance simulation
pub record Fit (t : FactoredTask) (bytes : List ℕ) : Type 0 where
  pub offered : Offered t bytes
  pub simulation : Simulation t offered.relation

-- what is offered is accepted, or one of the files is refused
abbrev pub Judgement : Type 0
Judgement = Result Unit Rejection

-- The site file is read first, and then the ranking, if one is offered.
pub data Judged (site : List ℕ) : Option (List ℕ) → Judgement → Type 0 where
  site_refused : {ranking : Option (List ℕ)} {e : Refusal} → Rejected site_file site e → Judged site ranking (Err (rejection.Site e))
  site_alone : Accepted site_file site → Judged site None (Ok tt)
  ranking_refused : {bytes : List ℕ} {e : Refusal} (a : Accepted site_file site) → Unfit (task_of a) bytes e → Judged site (Some bytes) (Err (rejection.Ranking e))
  ranking_fit : {bytes : List ℕ} (a : Accepted site_file site) → Fit (task_of a) bytes → Judged site (Some bytes) (Ok tt)

-- no other judgement fits
abbrev pub Only : List ℕ → Option (List ℕ) → Judgement → Type 0
Only site ranking j = (k : Judgement) → Judged site ranking k → k ≡ j

-- what is said of a ranking by itself
abbrev pub RankingJudged : FactoredTask → List ℕ → Result Unit Refusal → Type 0
RankingJudged t bytes (Ok _) = (f : Fit t bytes) × Dominates t f.offered.relation
RankingJudged t bytes (Err e) = Unfit t bytes e

-- What a judgement is good for: of an accepted ranking, whatever is done from a state can be done, at no higher cost, from
-- any state that it is under.
abbrev pub Reliable : List ℕ → List ℕ → Judgement → Type 0
Reliable site ranking (Err e) = Unit {0}
Reliable site ranking (Ok _) = (a : Accepted site_file site) × (f : Fit (task_of a) ranking) × Dominates (task_of a) f.offered.relation
