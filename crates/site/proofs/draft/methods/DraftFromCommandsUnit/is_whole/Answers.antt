use Rattle.std.proofs.Common.{Decides, subst}
use Rattle.site.specs.SiteFile.{Priced}
use Rattle.site.proofs.draft.methods.DraftFromCommandsUnit.is_whole.Goals as goal

pub returns : goal.returns
returns c = λ before e. subst (λ t. Decides c.priced.result (Priced t)) e c.priced.ensures
