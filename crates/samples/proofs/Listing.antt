-- The relation that a row of listings lists, as a test.
use Rattle.std.proofs.Common.{◌≡◌, ℕ, Bool, true, false, ◌&&◌, ◌||◌, eqb, List, [], ◌∷◌, Decides, arith}
use borrow.Author.Tests.{clash}
use Rattle.std.proofs.lemmas.Bool.Decides.{nat_tests, Decides-eqb, Decides-or}
use Rattle.task.specs.Task.{FactoredTask}
use Rattle.site.specs.Files.{Among}
use Rattle.ranking.specs.Ranking.{Ranking}
use Rattle.ranking.specs.RankingFile.{Lists}
use Rattle.ranking.specs.declared.listing.Listing.{Listing}
use Rattle.ranking.specs.declared.listing.Listing.TheVariants.{Pair, End}

-- the command lists this pair
abbrev pair_is : Listing → ℕ → ℕ → ℕ → Bool
pair_is (Pair i x y) j a b = eqb i j && (eqb x a && eqb y b)
pair_is End j a b = false

abbrev listed : List Listing → ℕ → ℕ → ℕ → Bool
listed [] j a b = false
listed (c ∷ cs) j a b = pair_is c j a b || listed cs j a b

-- a fact stands under itself, and under what it is listed under
abbrev pub ranked : List Listing → Ranking
ranked cs j a b = eqb a b || listed cs j a b

pair_decides : (c : Listing) (j a b : ℕ) → Decides (pair_is c j a b) (c ≡ Pair j a b)
pair_decides (Pair i x y) j a b = (λ e. grind (arith, nat_tests), λ e. grind (arith, nat_tests))
pair_decides End j a b = (λ e. cc, λ e. cc)

listed_decides : (cs : List Listing) (j a b : ℕ) → Decides (listed cs j a b) (Among (Pair j a b) cs)
listed_decides [] j a b = (λ e. absurd (clash e), λ w. absurd w)
listed_decides (c ∷ cs) j a b = Decides-or _ _ (pair_decides c j a b) (listed_decides cs j a b)

pub ranked_lists : (t : FactoredTask) (cs : List Listing) → Lists t cs (ranked cs)
ranked_lists t cs j a b jl al bl = Decides-or _ _ (Decides-eqb a b) (listed_decides cs j a b)

pub ranked_self : (cs : List Listing) (i a : ℕ) → ranked cs i a a ≡ true
ranked_self cs i a = grind (arith, nat_tests)
