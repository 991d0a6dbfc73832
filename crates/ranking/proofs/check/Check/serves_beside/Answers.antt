use Rattle.std.proofs.Common.{◌≡◌, rules}
use borrow.Author.Tests.{tests}
use Rattle.task.specs.Meaning.{meaning}
use Rattle.ranking.specs.Meaning.{relation}
use Rattle.ranking.specs.Ranking.{Serves}
use Rattle.ranking.proofs.Ranges.{all_below}
use Rattle.ranking.proofs.Serving.{beside_by}
use Rattle.ranking.proofs.check.Check.serves_beside.Goals as goal

pub returns : goal.returns
returns c =
    let t = meaning c.args.self.now.task.now in
    let r = relation c.args.self.now.ranking.now in
    let i = c.args.factor in
    let k = c.args.label in
    let m = c.args.other in
    beside_by t r i k m c.all.result
    (all_below t.factors _ _ _ (λ j. (j ≡ i → ⊥) → Serves t r j k m) (λ j. (j ≡ i → ⊥) × (Serves t r j k m → ⊥)) c.all.ensures.ran
    (λ x q k. search (rules, tests)) (λ x q k. search (rules, tests)))
