use Rattle.std.proofs.Common.{sym, ◌∙◌}
use Rattle.site.proofs.Limiting.{kept}
use Rattle.site.proofs.draft.methods.DraftFromCommandsUnit.take.Goals as goal

pub invariant_of-self : goal.invariant_of-self
invariant_of-self c = record {
  limited = rw c.add.ensures (kept _ c.args.command c.args.self.now.limited (sym c.misplaced.ensures ∙ c.if-misplaced.false) (sym c.outside.ensures ∙ c.if-outside.false));
}
