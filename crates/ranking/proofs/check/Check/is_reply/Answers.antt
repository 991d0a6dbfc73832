use Rattle.std.proofs.Common.{sym, arith, rules}
use borrow.Author.Tests.{tests}
use Rattle.task.specs.Meaning.{meaning}
use Rattle.ranking.specs.Meaning.{relation}
use Rattle.ranking.proofs.Replying.{reply_by, beside_from}
use Rattle.ranking.proofs.check.Check.is_reply.Goals as goal

pub returns : goal.returns
returns c =
    let t = meaning c.args.self.now.task.now in
    let r = relation c.args.self.now.ranking.now in (
      λ e. reply_by t r c.args.wanted c.args.reply (omega arith) (omega arith) (search (rules, tests)) (sym c.if-not-ranks.ensures) (c.serves_beside.ensures.0 e),
      λ q. c.serves_beside.ensures.1 (beside_from t r c.args.wanted c.args.reply q),
    )
