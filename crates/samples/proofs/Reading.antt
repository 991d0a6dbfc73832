-- The sample files by their commands, and what is to be read in them, each by a test that is computed.
use Rattle.std.proofs.Common.{◌≡◌, ℕ, zero, suc, true, ◌&&◌, leb, List, [], ◌∷◌, ◌++◌, length, refl}
use Rattle.std.proofs.lemmas.Bool.{and_parts, leb-true}
use Rattle.task.specs.Task.{FactoredTask}
use Rattle.site.specs.Files.{Accepted, file_limit, written}
use Rattle.site.specs.SiteFile.{site_file, describes}
use Rattle.site.specs.declared.command.Command.{Command}
use Rattle.site.specs.declared.command.Command.TheVariants.{Sizes, Facts, Goal, Cost, Move, Loop}
use Rattle.site.specs.declared.refusal.Refusal.{Refusal}
use Rattle.ranking.specs.RankingFile.{ranking_file}
use Rattle.ranking.specs.Judging.{Offered, Fit, Unfit, broken}
use Rattle.ranking.specs.declared.listing.Listing.{Listing}
use Rattle.ranking.specs.declared.listing.Listing.TheVariants.{Pair}
use Rattle.samples.specs.Samples.{site, dear_site, closed_site, open_site, ending}
use Rattle.samples.proofs.Listing.{ranked, ranked_lists, ranked_self}
use Rattle.samples.proofs.Rules.{breaks, clear, clear_before, first_broken, simulation}
use Rattle.samples.proofs.Accepting.{reads, ended, priced, priced_decides}

-- ---- a site file that is accepted, by its commands, of which the last comes first
abbrev pub site_read : (cs : List Command) → leb (length (written site_file cs ++ ending)) file_limit ≡ true → (reads site_file cs && priced (describes cs)) ≡ true
    → Accepted site_file (written site_file cs ++ ending)
site_read cs small e = record {
  fits = leb-true _ file_limit small;
  place = length (written site_file cs);
  ended = ended site_file refl cs [] (and_parts (reads site_file cs) _ e).0;
  whole = (priced_decides (describes cs)).0 (and_parts (reads site_file cs) _ e).1;
  nothing = refl;
}

-- ---- a ranking for a task, by its commands
module _ (t : FactoredTask) (cs : List Listing) (small : leb (length (written (ranking_file t) cs ++ ending)) file_limit ≡ true) where
  abbrev pub offered : reads (ranking_file t) cs ≡ true → Offered t (written (ranking_file t) cs ++ ending)
  offered e = record {
    file = record {
      fits = leb-true _ file_limit small;
      place = length (written (ranking_file t) cs);
      ended = ended (ranking_file t) refl cs [] e;
      whole = tt;
      nothing = refl;
    };
    relation = ranked cs;
    lists = ranked_lists t cs;
  }

  pub fit : (reads (ranking_file t) cs && clear t (ranked cs)) ≡ true → Fit t (written (ranking_file t) cs ++ ending)
  fit e =
      let w = and_parts (reads (ranking_file t) cs) _ e in
      record { offered = offered w.0; simulation = simulation t (ranked cs) (ranked_self cs) w.1 }

  pub unfit : (f : Refusal) → (reads (ranking_file t) cs && (breaks t (ranked cs) f && clear_before t (ranked cs) f)) ≡ true
      → Unfit t (written (ranking_file t) cs ++ ending) f
  unfit f e =
      let w = and_parts (reads (ranking_file t) cs) _ e in
      broken (offered w.0) (first_broken t (ranked cs) f w.1)

-- ---- the commands of the sample files
-- the facts, with this start in factor 0
abbrev starting : ℕ → List Command
starting x = Facts 1 3 2 ∷ Facts 0 2 x ∷ Sizes 2 2 ∷ []

abbrev anywhere : List Command → List Command
anywhere cs = Goal 1 2 ∷ Goal 1 1 ∷ Goal 1 0 ∷ cs

abbrev begun : ℕ → List Command
begun x = anywhere (Goal 0 1 ∷ starting x)

abbrev moved : List Command → List Command
moved cs = Move 1 2 1 0 ∷ Move 1 2 2 1 ∷ Move 0 2 0 1 ∷ Loop 1 1 ∷ Move 0 1 1 0 ∷ Move 0 1 0 1 ∷ cs

-- label 1 at this cost
abbrev pub costing : ℕ → List Command
costing n = moved (Cost 2 30 ∷ Cost 1 n ∷ begun 0)

-- label 2 without one
abbrev pub costless : List Command
costless = moved (Cost 1 30 ∷ begun 0)

-- factor 0 without a goal fact
abbrev goalless : List Command
goalless = moved (Cost 2 30 ∷ Cost 1 30 ∷ anywhere (starting 0))

-- factor 0 at its goal fact from the start
abbrev at_goal : List Command
at_goal = moved (Cost 2 30 ∷ Cost 1 30 ∷ begun 1)

abbrev pub linked : List Listing
linked = Pair 1 1 2 ∷ Pair 1 0 1 ∷ Pair 0 0 1 ∷ []

-- the ranking with the pair that closes the chain
abbrev pub ranking_listed : List Listing
ranking_listed = Pair 1 0 2 ∷ linked

abbrev pub freed : ℕ → List Command
freed zero = Facts 0 1 0 ∷ Sizes 1 63 ∷ []
freed (suc l) = Cost (suc l) 0 ∷ freed l

-- ---- the sample sites
abbrev pub sample_read : Accepted site_file site
sample_read = site_read (costing 30) refl refl

abbrev pub dear_read : Accepted site_file dear_site
dear_read = site_read (costing 31) refl refl

abbrev pub closed_read : Accepted site_file closed_site
closed_read = site_read goalless refl refl

abbrev pub open_read : Accepted site_file open_site
open_read = site_read at_goal refl refl
