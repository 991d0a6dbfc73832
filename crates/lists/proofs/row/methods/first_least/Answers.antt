use Rattle.std.proofs.Common.{None, sym, rules}
use Rattle.std.proofs.lemmas.List.{get_or_read}
use Rattle.lists.proofs.Scanning.{best_more, scanned}
use Rattle.lists.proofs.row.methods.first_least.Goals as goal

pub loop-number-preserved : goal.loop-number-preserved
loop-number-preserved g c =
    let laws = g.met.K.Key.laws in
    let keys = c.args.keys.now in
    let i = c.loop-number.number in
    let key = c.index-keys-number.result in
    let here = sym (get_or_read keys i key c.loop-number-test.true c.index-keys-number.is None) in
    let next = best_more laws keys i c.loop-number.best key c.loop-number.invariant here in
    rw c.better-best.ensures next

pub returns : goal.returns
returns g c =
    let laws = g.met.K.Key.laws in
    scanned laws c.args.keys.now c.loop-number.number c.loop-number.best c.map.result
    c.loop-number-test.false c.loop-number.invariant (search rules)
