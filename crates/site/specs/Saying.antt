-- What the commands of a site file say of a task, in so many words. Assumes nothing.
use Rattle.std.specs.Prelude.{◌≡◌, ℕ, ◌<◌, ◌≤◌, ◌⊎◌, List, Some, Decides}
use Rattle.site.specs.Files.{Accepted, Among}
use Rattle.site.specs.SiteFile.{site_file, describes, task}
use Rattle.task.specs.Task.{FactoredTask}
use Rattle.task.specs.Meaning.{meaning}
use Rattle.task.specs.declared.task.Task.{Task}
use Rattle.site.specs.declared.command.Command.{Command}
use Rattle.site.specs.declared.command.Command.TheVariants.{Sizes, Facts, Goal, Cost, Move, Loop}

-- some command gives the factor j, which has n facts, the transition by l from x to y: as such, or as a self-loop at every fact
abbrev pub Moved : List Command → ℕ → ℕ → ℕ → ℕ → ℕ → Type 0
Moved cs n j l x y = Among (Move j l x y) cs ⊎ (Among (Loop j l) cs × (x < n) × (y ≡ x))

-- each part of the task is given by a command, and what no command gives is not there
pub record Says (cs : List Command) (t : FactoredTask) : Type 0 where
  pub sizes : Among (Sizes t.factors t.labels) cs
  pub facts : (j : ℕ) → j < t.factors → Among (Facts j (t.facts j) (t.start j)) cs
  pub goal : (j x : ℕ) → Decides (t.goal j x) (Among (Goal j x) cs)
  pub cost : (l : ℕ) → 1 ≤ l → l ≤ t.labels → Among (Cost l (t.cost l)) cs
  pub moved : (j l x y : ℕ) → t.moves j l x ≡ Some y → Moved cs (t.facts j) j l x y
  pub moves : (j l x y : ℕ) → Moved cs (t.facts j) j l x y → t.moves j l x ≡ Some y

-- the task that the commands of an accepted site file describe
abbrev pub task_of : {bytes : List ℕ} → Accepted site_file bytes → FactoredTask
task_of a = task (describes a.ended.before)

-- a site file that is accepted, and its task
pub record SiteRead (bytes : List ℕ) (t : Task) : Type 0 where
  pub accepted : Accepted site_file bytes
  pub means : meaning t ≡ task_of accepted
  pub says : Says accepted.ended.before (meaning t)
