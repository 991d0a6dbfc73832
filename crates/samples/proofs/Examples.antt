-- The worked examples, each by a test that is computed.
use Rattle.std.proofs.Common.{[], ◌∷◌, refl, inl, inr, lit<, lit≤}
use Rattle.site.specs.Files.{stopped, lacks, trailing}
use Rattle.site.specs.SiteFile.{site_file, describes}
use Rattle.site.specs.declared.command.Command.TheVariants.{Sizes, End}
use Rattle.site.specs.declared.refusal.Refusal.TheVariants.{Chain, Goal, Reply}
use Rattle.site.specs.declared.refusal.Fault.TheVariants.{Truncated, Misplaced, OutOfRange}
use Rattle.ranking.specs.Judging.{site_refused, site_alone, ranking_refused, ranking_fit}
use Rattle.ranking.specs.declared.listing.Listing.TheVariants.{Pair}
use Rattle.samples.specs.Samples.{labelled, ending}
use Rattle.std.proofs.lemmas.Bool.Decides.{not_from_Decides}
use Rattle.samples.proofs.Accepting.{ended, stopped_at_once, priced_decides}
use Rattle.samples.proofs.Reading.{site_read, fit, unfit, costing, costless, linked, ranking_listed, freed, sample_read, dear_read}
use Rattle.samples.specs.Worked.{Worked}

pub worked_examples : Worked
worked_examples = record {
  sample = ranking_fit sample_read (fit _ ranking_listed refl refl);
  open_chain = ranking_refused sample_read (unfit _ linked refl (Chain 1 0 2) refl);
  goal_lost = ranking_refused sample_read (unfit _ (Pair 0 1 0 ∷ []) refl (Goal 0 1 0) refl);
  answered = ranking_fit sample_read (fit _ (Pair 1 1 0 ∷ []) refl refl);
  unanswered = ranking_refused dear_read (unfit _ (Pair 1 1 0 ∷ []) refl (Reply 1 1 0 2) refl);
  empty = λ _. site_refused (stopped (lit≤ tt) (stopped_at_once site_file [] Truncated (inl refl)));
  bare_end = λ _. site_refused (stopped (lit≤ tt) (stopped_at_once site_file ending Misplaced (inr (End, [], refl, refl))));
  one_more = λ b _. site_refused (trailing (lit≤ tt) (ended site_file refl (costing 30) (b ∷ []) refl) ((priced_decides (describes (costing 30))).0 refl) (lit< tt));
  unpriced = λ _. site_refused (lacks (lit≤ tt) (ended site_file refl costless [] refl) (not_from_Decides _ (priced_decides (describes costless)) refl));
  most_labels = site_alone (site_read (freed 63) refl refl);
  one_label_more = λ _. site_refused (stopped (lit≤ tt) (stopped_at_once site_file (labelled 64) OutOfRange (inr (Sizes 1 64, _, refl, refl))));
}
