-- What is read of a site file that is accepted.
use Rattle.std.proofs.Common.{◌≡◌, ℕ, List, sym, ap, ◌∙◌, subst}
use Rattle.task.specs.Meaning.{meaning}
use Rattle.task.specs.declared.task.Task.{Task}
use Rattle.site.specs.Files.{Accepted}
use Rattle.site.specs.SiteFile.{Described, site_file, describes, task}
use Rattle.site.specs.Saying.{Says, SiteRead}
use Rattle.site.proofs.Telling.{says as told}

pub site_read : (bytes : List ℕ) (x : Task) (t : Described) (a : Accepted site_file bytes) → t ≡ describes a.ended.before → meaning x ≡ task t → SiteRead bytes x
site_read bytes x t a p m =
    let means = m ∙ ap task p in
    record { accepted = a; means = means; says = subst (λ u. Says a.ended.before u) (sym means) (told a.ended.before a.ended.came.sound a.ended.ends a.whole) }
