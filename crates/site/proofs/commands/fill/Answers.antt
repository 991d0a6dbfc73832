use Rattle.std.proofs.Common.{subst}
use Rattle.std.proofs.lemmas.Bool.{both_ways}
use Rattle.site.specs.Files.{TakenFirst}
use Rattle.site.proofs.Reading.{ok_from_map_err, taken_more, taken_end}
use Rattle.site.proofs.commands.fill.Goals as goal

pub returns-then-is_end : goal.returns-then-is_end
returns-then-is_end g c =
    let f = g.R.FromCommands in
    let i = c.loop-command.invariant in
    let ok = ok_from_map_err _ c.take_first.result c.map_err.result _ c.map_err.ensures.cases c.in_ok-command.was in
    let w = subst (λ r. TakenFirst (f.format c.args.of.now) f.holds i.0 c.loop-command.rest.now c.take_first.new.read r) ok (c.take_first.ensures i.0 i.2) in
    taken_end (f.format c.args.of.now) f.holds _ _ i.0 i.1 _ _ c.take_first.new.read w ((c.is_end.ensures c.args.of.now).0 c.if-is_end.true)

pub loop-command-preserved : goal.loop-command-preserved
loop-command-preserved g c =
    let f = g.R.FromCommands in
    let i = c.loop-command.invariant in
    let ok = ok_from_map_err _ c.take_first.result c.map_err.result _ c.map_err.ensures.cases c.in_ok-command.was in
    let w = subst (λ r. TakenFirst (f.format c.args.of.now) f.holds i.0 c.loop-command.rest.now c.take_first.new.read r) ok (c.take_first.ensures i.0 i.2) in
    taken_more (f.format c.args.of.now) f.holds _ _ i.0 i.1 _ _ c.take_first.new.read w
    (λ e. both_ways _ c.if-is_end.false ((c.is_end.ensures c.args.of.now).1 e))
