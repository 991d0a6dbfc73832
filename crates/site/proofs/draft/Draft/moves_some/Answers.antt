use Rattle.std.proofs.Common.{◌≡◌, is_some, sym, arith}
use Rattle.std.proofs.lemmas.List.{length-take}
use Rattle.task.specs.Tables.{part}
use Rattle.task.specs.declared.row.Row.{Row}
use Rattle.site.specs.Drafts.{described}
use Rattle.site.proofs.Drafting.{some_at, some_more, some_none, row_low, row_at}
use Rattle.site.proofs.draft.Draft.moves_some.Goals as goal

pub returns-then-is_some : goal.returns-then-is_some
returns-then-is_some c =
    let f = part c.args.self.now.tables.parts c.args.factor in
    let low = row_low f c.loop-row.row-index c.loop-row-test.true in
    sym (some_at _ _ c.loop-row.row-index low (row_at f c.args.label c.loop-row.row-index c.is_some.result _ c.loop-row-test.true c.is_some.ensures c.if-is_some.true))

pub loop-row-preserved : goal.loop-row-preserved
loop-row-preserved c =
    let f = part c.args.self.now.tables.parts c.args.factor in
    some_more (λ x. is_some ((described c.args.self.now.tables).moves c.args.factor c.args.label x)) c.loop-row.row-index c.loop-row.invariant
    (row_at f c.args.label c.loop-row.row-index c.is_some.result _ c.loop-row-test.true c.is_some.ensures c.if-is_some.false)

pub returns : goal.returns
returns c =
    let all : c.loop-row.row-index ≡ (part c.args.self.now.tables.parts c.args.factor).facts = omega (arith, length-take {A = Row}, c.args.self.now.limited.small c.args.factor) in
    some_none _ _ _ all c.loop-row.invariant
