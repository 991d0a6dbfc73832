use Rattle.std.proofs.Common.{◌≡◌, true, false, get_or, rules}
use borrow.Author.Tests.{tests}
use Rattle.ranking.specs.Meaning.{relation}
use Rattle.ranking.proofs.Comparing.{under_by}
use Rattle.ranking.proofs.Ranges.{all_below}
use Rattle.ranking.proofs.order.Ranking.is_under.Goals as goal

pub returns : goal.returns
returns c =
    let t = c.args.task.now in
    let r = relation c.args.self.now in
    let s = c.args.s.now in
    let u = c.args.u.now in
    under_by t r s u c.all.result
    (all_below t.factors _ _ _ (λ k. r k (get_or s.facts k 0) (get_or u.facts k 0) ≡ true) (λ k. r k (get_or s.facts k 0) (get_or u.facts k 0) ≡ false) c.all.ensures.ran
    (λ x q k. search (rules, tests)) (λ x q k. search (rules, tests)))
