use Rattle.std.proofs.Common.{◌≡◌, false, is_some}
use Rattle.site.specs.SiteFile.{some}
use Rattle.site.specs.Drafts.{described}
use Rattle.site.proofs.draft.Draft.moves_some.Given as goal

abbrev pub invariant-loop-row : goal.invariant-loop-row
invariant-loop-row l = some (λ x. is_some ((described l.self.tables).moves l.factor l.label x)) l.row-index ≡ false
