-- From what the reader and the check answer to a judgement. Assumes nothing.
use Rattle.std.proofs.Common.{◌≡◌, ℕ, List, Some, Ok, Err, Result, subst}
use Rattle.std.specs.Result.{MatchResult, IsErrAnd}
use Rattle.task.specs.Task.{FactoredTask}
use Rattle.task.specs.Meaning.{meaning}
use Rattle.task.specs.declared.task.Task.{Task}
use Rattle.site.specs.Files.{Rejected}
use Rattle.site.specs.Saying.{SiteRead, task_of}
use Rattle.site.specs.SiteFile.{site_file}
use Rattle.site.specs.declared.refusal.Refusal.{Refusal}
use Rattle.ranking.specs.Meaning.{relation}
use Rattle.ranking.specs.Reading.{RankingRead}
use Rattle.ranking.specs.Verdict.{Checked}
use Rattle.ranking.specs.Judging.{Judgement, Offered, broken, Judged, ranking_refused, ranking_fit, RankingJudged, Reliable}
use Rattle.ranking.specs.declared.judge.Rejection.{Rejection}
use Rattle.ranking.specs.declared.judge.Rejection.TheVariants as rejection
use Rattle.ranking.specs.declared.order.Ranking.{Ranking}

module _ (t : Task) (bytes : List ℕ) (k : Ranking) (read : RankingRead t bytes k) where
  abbrev offered : Offered (meaning t) bytes
  offered = record { file = read.accepted; relation = relation k; lists = read.means }

  pub checked : (o : Result Unit Refusal) → Checked (meaning t) (relation k) o → RankingJudged (meaning t) bytes o
  checked (Ok _) w = (record { offered = offered; simulation = w.0 }, w.1)
  checked (Err e) w = broken offered w.1

module _ (site : List ℕ) (t : Task) (read : SiteRead site t) where
  -- what is judged of the task that was read is judged of the task that the file describes
  described : (bytes : List ℕ) (o : Result Unit Refusal) → RankingJudged (meaning t) bytes o → RankingJudged (task_of read.accepted) bytes o
  described bytes o w = subst (λ (u : FactoredTask). RankingJudged u bytes o) read.means w

  -- what the ranking is judged to be, with its refusal said of the ranking
  pub judged_ranking : (bytes : List ℕ) (o : Result Unit Refusal) (q : Judgement) (P : Refusal → Rejection → Type 0) → RankingJudged (meaning t) bytes o
      → MatchResult o (λ x. q ≡ Ok x) (λ e. IsErrAnd q (P e)) → ((e : Refusal) (d : Rejection) → P e d → d ≡ rejection.Ranking e)
      → Judged site (Some bytes) q × Reliable site bytes q
  judged_ranking bytes (Ok tt) q P w e said = let p = described bytes (Ok tt) w in rw e (ranking_fit read.accepted p.0, (read.accepted, p.0, p.1))
  judged_ranking bytes (Err e) (Ok tt) P w k said = absurd k
  judged_ranking bytes (Err e) (Err d) P w k said = ((rw (said e d k) (ranking_refused read.accepted (described bytes (Err e) w))), tt)

-- what the reader answers, with its refusal said of the site file
pub said_of_site : (site : List ℕ) (o : Result Task Refusal) (q : Result Task Rejection) (P : Refusal → Rejection → Type 0)
    → MatchResult o (λ t. SiteRead site t) (λ e. Rejected site_file site e)
    → MatchResult o (λ t. q ≡ Ok t) (λ e. IsErrAnd q (P e)) → ((e : Refusal) (d : Rejection) → P e d → d ≡ rejection.Site e)
    → MatchResult q (λ t. SiteRead site t) (λ d. (e : Refusal) × (d ≡ rejection.Site e) × Rejected site_file site e)
said_of_site site (Ok t) q P w e said = rw e w
said_of_site site (Err e) (Ok t) P w k said = absurd k
said_of_site site (Err e) (Err d) P w k said = (e, said e d k, w)
