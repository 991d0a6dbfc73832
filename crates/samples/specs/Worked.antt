-- What is to be said of the sample files. Assumes nothing.
use Rattle.std.specs.Prelude.{ℕ, List, [], Some, None, Ok, Err, Option}
use Rattle.site.specs.declared.refusal.Fault.TheVariants.{Truncated, Misplaced, Trailing, Unpriced, OutOfRange}
use Rattle.site.specs.declared.refusal.Refusal.TheVariants.{File, Chain, Goal, Reply}
use Rattle.ranking.specs.Judging.{Judged}
use Rattle.ranking.specs.declared.judge.Rejection.TheVariants.{Site, Ranking}
use Rattle.samples.specs.Samples.{site, dear_site, unpriced_site, long_site, ranking, unclosed, reversed, labelled, ending}

pub record Worked : Type 0 where
  -- the sample ranking may be relied on for the sample site
  pub sample : Judged site (Some ranking) (Ok tt)
  -- without its last pair it has a chain from 0 to 2 that is not closed
  pub open_chain : Judged site (Some unclosed) (Err (Ranking (Chain 1 0 2)))
  -- in factor 0 the goal fact 1 may not stand under 0
  pub goal_lost : Judged site (Some (reversed 0)) (Err (Ranking (Goal 0 1 0)))
  -- in factor 1 the fact 1 may stand under 0: label 1 replies to label 2 at the same cost
  pub answered : Judged site (Some (reversed 1)) (Ok tt)
  -- where label 1 costs one more, it is no reply
  pub unanswered : Judged dear_site (Some (reversed 1)) (Err (Ranking (Reply 1 1 0 2)))
  -- an empty file has no end
  pub empty : (offer : Option (List ℕ)) → Judged [] offer (Err (Site (File Truncated 0)))
  -- an end alone comes too early
  pub bare_end : (offer : Option (List ℕ)) → Judged ending offer (Err (Site (File Misplaced 0)))
  -- whatever byte follows the end is one too many
  pub one_more : (b : ℕ) (offer : Option (List ℕ)) → Judged (long_site b) offer (Err (Site (File Trailing 60)))
  -- a label without a cost is found at the end
  pub unpriced : (offer : Option (List ℕ)) → Judged unpriced_site offer (Err (Site (File Unpriced 55)))
  -- a site may have 63 labels
  pub most_labels : Judged (labelled 63) None (Ok tt)
  -- and no more
  pub one_label_more : (offer : Option (List ℕ)) → Judged (labelled 64) offer (Err (Site (File OutOfRange 0)))
