use Rattle.std.proofs.Common.{◌<◌, sym, refl, arith, rules}
use borrow.Author.Tests.{both_ways}
use Rattle.task.specs.Tables.{part}
use Rattle.task.specs.Meaning.{meaning}
use Rattle.ranking.specs.Meaning.{relation}
use Rattle.ranking.proofs.Serving.{seen, serves_not, none_some, at_same}
use Rattle.ranking.proofs.Replying.{passed, too_dear, moves_none, too_low, serves_none, found_none}
use Rattle.ranking.proofs.check.Check.find_reply.Goals as goal

pub labels-preserved-then-price : goal.labels-preserved-then-price
labels-preserved-then-price c =
    let t = meaning c.args.self.now.task.now in
    let r = relation c.args.self.now.ranking.now in
    (c.labels.invariant.0, passed t r c.args.wanted _ c.labels.invariant.1 (too_dear t r c.args.wanted _ (omega arith)))

pub labels-preserved-in_default : goal.labels-preserved-in_default
labels-preserved-in_default c =
    let t = meaning c.args.self.now.task.now in
    let r = relation c.args.self.now.ranking.now in
    (c.labels.invariant.0, passed t r c.args.wanted _ c.labels.invariant.1 (moves_none t r c.args.wanted _ (sym c.in_default.ensures)))

pub labels-preserved-then-not-ranks : goal.labels-preserved-then-not-ranks
labels-preserved-then-not-ranks c =
    let t = meaning c.args.self.now.task.now in
    let r = relation c.args.self.now.ranking.now in
    (c.labels.invariant.0, passed t r c.args.wanted _ c.labels.invariant.1 (too_low t r c.args.wanted _ _ (sym c.in-Some.ensures) (sym c.if-not-ranks.ensures)))

pub labels-preserved-in_default-target-2 : goal.labels-preserved-in_default-target-2
labels-preserved-in_default-target-2 c =
    let t = c.args.self.now.task.now in
    let r = relation c.args.self.now.ranking.now in
    let j = c.loop-j.j in
    let x = c.loop-x.x in
    let h : x < (part t.parts j).facts = search rules in
    let p = seen t j c.args.wanted.label x _ h c.in-Some-target.ensures in
    let q = seen t j c.labels.other x _ h c.in_default-target-2.ensures in
    let n = serves_not (meaning t) r j _ c.labels.other x c.in-Some-target.y h p (λ z e b. none_some q e) in
    (c.labels.invariant.0, passed (meaning t) r c.args.wanted _ c.labels.invariant.1 (serves_none (meaning t) r c.args.wanted _ j c.loop-j-test.true c.if-j-factor.false n))

pub labels-preserved : goal.labels-preserved
labels-preserved c =
    let t = c.args.self.now.task.now in
    let r = relation c.args.self.now.ranking.now in
    let j = c.loop-j.j in
    let x = c.loop-x.x in
    let h : x < (part t.parts j).facts = search rules in
    let p = seen t j c.args.wanted.label x _ h c.in-Some-target.ensures in
    let q = seen t j c.labels.other x _ h c.in-Some-target-2.ensures in
    let n = serves_not (meaning t) r j _ c.labels.other x c.in-Some-target.y h p (λ z e b. both_ways _ c.if-not-above-y.true (at_same (r j _) q e b)) in
    (c.labels.invariant.0, passed (meaning t) r c.args.wanted _ c.labels.invariant.1 (serves_none (meaning t) r c.args.wanted _ j c.loop-j-test.true c.if-j-factor.false n))

pub returns-after-labels : goal.returns-after-labels
returns-after-labels c =
    let t = meaning c.args.self.now.task.now in
    let r = relation c.args.self.now.ranking.now in
    found_none t r c.args.wanted _ c.labels.invariant.0 (λ q. let l = c.labels.invariant.1 q in let k = q.known in omega arith)

pub returns-after-loop-j : goal.returns-after-loop-j
returns-after-loop-j c = (
  (
    record {
      label = c.labels.other;
      into = c.in-Some.into;
      known = omega arith;
      cheap = omega arith;
      moves = sym c.in-Some.ensures;
      better = sym c.if-not-ranks.ensures;
      serves = λ j h n. c.loop-j.invariant j (omega arith) n;
    },
    refl,
    refl,
  ),
  c.labels.invariant.1,
)
