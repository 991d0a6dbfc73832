use Rattle.std.proofs.Common.{rules}
use Rattle.std.proofs.lemmas.Result.{err_from_is_err_and}
use Rattle.task.specs.Meaning.{meaning}
use Rattle.ranking.specs.Meaning.{relation}
use Rattle.task.proofs.Moving.{lawful}
use Rattle.ranking.proofs.Judging.{chains_end, goals_end, replies_end}
use Rattle.ranking.proofs.Linking.{self}
use Rattle.ranking.proofs.Rising.{chains_first, goals_first, replies_first}
use Rattle.ranking.proofs.order.Ranking.check.Goals as goal

pub returns-in_err-try_pairs : goal.returns-in_err-try_pairs
returns-in_err-try_pairs c =
    let t = meaning c.args.task.now in
    let r = relation c.args.self.now in
    let p = err_from_is_err_and c.from_residual.result c.from_residual.ensures.1 in
    rw (p.1, p.2) (chains_end t r (lawful c.args.task.now) _ (chains_first t _ r _ c.in_err-try_pairs.ensures (λ i a b o w. search rules)))

pub returns-in_err-try_pairs-2 : goal.returns-in_err-try_pairs-2
returns-in_err-try_pairs-2 c =
    let t = meaning c.args.task.now in
    let r = relation c.args.self.now in
    let p = err_from_is_err_and c.from_residual-in_err-try_pairs-2.result c.from_residual-in_err-try_pairs-2.ensures.1 in
    let chains = chains_first t _ r _ c.in_ok-try_pairs.ensures (λ i a b o w. search rules) in
    rw (p.1, p.2) (goals_end t r (lawful c.args.task.now) _ chains (goals_first t _ r _ c.in_err-try_pairs-2.ensures (λ i a b o w. search rules)))

pub returns : goal.returns
returns c =
    let t = meaning c.args.task.now in
    let r = relation c.args.self.now in
    let chains = chains_first t _ r _ c.in_ok-try_pairs.ensures (λ i a b o w. search rules) in
    let goals = goals_first t _ r _ c.in_ok-try_pairs-2.ensures (λ i a b o w. search rules) in
    replies_end t r (lawful c.args.task.now) c.try_pairs-3.result (self c.args.task.now c.args.self.now) chains goals (replies_first t _ r _ c.try_pairs-3.ensures (λ i a b o w. search rules))
