use Rattle.site.proofs.Limiting.{none_limited}
use Rattle.site.proofs.draft.methods.DraftFromCommandsUnit.new.Goals as goal

pub invariant_of-result : goal.invariant_of-result
invariant_of-result c = record { limited = rw c.new.ensures none_limited }
