-- The commands of a ranking file: their bytes, what they list, and which of them are refused. Assumes nothing.
use Rattle.std.specs.Prelude.{◌≡◌, ℕ, ◌<◌, Bool, true, false, cond, not, ◌&&◌, ◌⊎◌, List, [], ◌∷◌, length, Some, None, Decides, Option, ◌==◌, nat_lt, refl}
use Rattle.task.specs.Task.{FactoredTask}
use Rattle.site.specs.Changes.{put}
use Rattle.std.proofs.Common.{lit<}
use Rattle.site.specs.Files.{Format, Among, Spelled}
use Rattle.site.specs.declared.refusal.Fault.{Fault}
use Rattle.site.specs.declared.refusal.Fault.TheVariants.{PairOutOfRange}
use Rattle.ranking.specs.Ranking.{Ranking}
use Rattle.ranking.specs.declared.listing.Listing.{Listing}
use Rattle.ranking.specs.declared.listing.Listing.TheVariants.{Pair, End}

abbrev pub bytes_of : Listing → List ℕ
bytes_of (Pair factor lower upper) = 80 ∷ factor ∷ lower ∷ upper ∷ []
bytes_of End = 69 ∷ []

-- how many operand bytes follow a letter, if a command has it
abbrev pub operands : ℕ → Option ℕ
operands letter = cond (letter == 80) (Some 3) (cond (letter == 69) (Some 0) None)

-- the task has the factor j, and it the fact x
abbrev pub knows : FactoredTask → ℕ → ℕ → Bool
knows t j x = nat_lt j t.factors && nat_lt x (t.facts j)

abbrev pub outside : FactoredTask → Listing → Bool
outside t (Pair j a b) = not (knows t j a && knows t j b)
outside t End = false

abbrev pub fault_of : FactoredTask → Listing → Option Fault
fault_of t c = cond (outside t c) (Some PairOutOfRange) None

abbrev pub ranking_file : FactoredTask → Format Listing
ranking_file t = record { bytes_of = bytes_of; operands = operands; end = End; fault_of = λ _ c. fault_of t c; whole = λ _. Unit {0} }

-- what a command adds to a ranking
abbrev pub lists : Listing → Ranking → Ranking
lists (Pair j a b) r = put j (put a (put b true (r j a)) (r j)) r
lists End r = r

-- Of the task's facts, one stands under another exactly if they are the same or the pair is listed.
abbrev pub Lists : FactoredTask → List Listing → Ranking → Type 0
Lists t cs r = (j a b : ℕ) → j < t.factors → a < t.facts j → b < t.facts j → Decides (r j a b) ((a ≡ b) ⊎ Among (Pair j a b) cs)

-- no command is without bytes, and the end is one byte
some_bytes : (c : Listing) → 0 < length (bytes_of c)
some_bytes (Pair factor lower upper) = lit< tt
some_bytes End = lit< tt

pub spelled : (t : FactoredTask) → Spelled (ranking_file t)
spelled t = record { one = refl; some = some_bytes }
