use Rattle.std.proofs.Common.{sym, ◌∙◌, rules}
use Rattle.task.specs.Meaning.{meaning}
use Rattle.ranking.specs.Meaning.{relation}
use Rattle.ranking.proofs.Pairs.{rank_listed, own_kept, known_fine, pair_more}
use Rattle.ranking.proofs.read.RankingFromCommandsTask.take.Goals as goal

pub returns-else-not-has_fact-2 : goal.returns-else-not-has_fact-2
returns-else-not-has_fact-2 c = λ before h. (
  rw c.in-Pair.is (known_fine (meaning c.args.task.now) _ _ _ c.if-not-has_fact.ensures c.if-not-has_fact-2.ensures),
  λ e. absurd (let q = sym c.in-Pair.is ∙ e in cc),
  λ _. rw c.in-Pair.is (pair_more before c.in-Pair.factor c.in-Pair.lower c.in-Pair.upper (relation c.args.self.now) _ h
      (rank_listed c.args.self.now.parts c.in-Pair.factor c.in-Pair.lower c.in-Pair.upper c.list.new.self (search rules) c.list.ensures)),
)

pub invariant_of-self : goal.invariant_of-self
invariant_of-self c = record {
  own = own_kept c.args.self.now.parts c.in-Pair.factor c.in-Pair.lower c.in-Pair.upper c.list.new.self (search rules) c.list.ensures
      c.args.self.now.own;
}
