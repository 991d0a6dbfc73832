use Rattle.std.proofs.Common.{◌≡◌}
use Rattle.site.specs.Drafts.{described}
use Rattle.site.proofs.Drafting.{keeps}
use Rattle.site.proofs.tables.Tables.keep.Given as goal

abbrev pub invariant-loop-fact : goal.invariant-loop-fact
invariant-loop-fact l = described l.self ≡ keeps (described l.initial.self) l.factor l.label l.fact
