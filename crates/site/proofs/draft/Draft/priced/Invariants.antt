use Rattle.std.proofs.Common.{◌≡◌, ℕ, ◌<◌, ◌≤◌, true, is_some}
use Rattle.site.specs.Drafts.{described}
use Rattle.site.proofs.draft.Draft.priced.Given as goal

abbrev pub invariant-loop-label : goal.invariant-loop-label
invariant-loop-label l = (k : ℕ) → 1 ≤ k → k < l.label → is_some ((described l.self.tables).cost k) ≡ true
