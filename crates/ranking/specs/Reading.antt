-- What the tables of a ranking hold while its file is read, and after. Assumes nothing.
use Rattle.std.specs.Prelude.{◌≡◌, ℕ, ◌<◌, ◌⊎◌, List, Decides}
use Rattle.task.specs.Limits.{factor_limit, fact_limit}
use Rattle.task.specs.Meaning.{meaning}
use Rattle.task.specs.declared.task.Task.{Task}
use Rattle.site.specs.Files.{Accepted, Among}
use Rattle.ranking.specs.Meaning.{relation}
use Rattle.ranking.specs.RankingFile.{ranking_file, Lists}
use Rattle.ranking.specs.declared.listing.Listing.{Listing}
use Rattle.ranking.specs.declared.listing.Listing.TheVariants.{Pair}
use Rattle.ranking.specs.declared.order.Ranking.{Ranking}

-- A ranking file that is accepted for a task, and the ranking that it lists.
pub record RankingRead (t : Task) (bytes : List ℕ) (r : Ranking) : Type 0 where
  pub accepted : Accepted (ranking_file (meaning t)) bytes
  pub means : Lists (meaning t) accepted.ended.before (relation r)

-- In the tables a fact stands under another exactly if they are the same or the pair is listed.
abbrev pub Listed : List Listing → Ranking → Type 0
Listed cs r = (j a b : ℕ) → j < factor_limit → a < fact_limit → Decides (relation r j a b) ((a ≡ b) ⊎ Among (Pair j a b) cs)
