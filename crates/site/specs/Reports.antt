-- The number, the layer and the place of each refusal. Assumes nothing.
use Rattle.std.specs.Prelude.{ℕ}
use Rattle.site.specs.declared.refusal.Fault.TheVariants.{TooLong, UnknownLetter, Truncated, Trailing, Misplaced, OutOfRange, PairOutOfRange, Repeated, Unpriced}
use Rattle.site.specs.declared.refusal.Layer.{Layer}
use Rattle.site.specs.declared.refusal.Layer.TheVariants.{Reader, Site, Ranking}
use Rattle.site.specs.declared.refusal.Place.{Place}
use Rattle.site.specs.declared.refusal.Place.TheVariants.{Offset, Facts}
use Rattle.site.specs.declared.refusal.Refusal.{Refusal}
use Rattle.site.specs.declared.refusal.Refusal.TheVariants.{File, Chain, Goal, Reply}
use Rattle.site.specs.declared.refusal.Report.{Report}

abbrev pub number_of : Refusal → ℕ
number_of (File TooLong at) = 1
number_of (File UnknownLetter at) = 2
number_of (File Truncated at) = 3
number_of (File Trailing at) = 4
number_of (File Misplaced at) = 5
number_of (File OutOfRange at) = 6
number_of (File PairOutOfRange at) = 6
number_of (File Repeated at) = 7
number_of (File Unpriced at) = 8
number_of (Chain factor a b) = 9
number_of (Goal factor a b) = 10
number_of (Reply factor a b label) = 11

abbrev pub layer_of : Refusal → Layer
layer_of (File TooLong at) = Reader
layer_of (File UnknownLetter at) = Reader
layer_of (File Truncated at) = Reader
layer_of (File Trailing at) = Reader
layer_of (File Misplaced at) = Site
layer_of (File OutOfRange at) = Site
layer_of (File PairOutOfRange at) = Ranking
layer_of (File Repeated at) = Site
layer_of (File Unpriced at) = Site
layer_of (Chain factor a b) = Ranking
layer_of (Goal factor a b) = Ranking
layer_of (Reply factor a b label) = Ranking

-- an offset, or factor, a, b and label
abbrev pub place_of : Refusal → Place
place_of (File fault at) = Offset at
place_of (Chain factor a b) = Facts factor a b 0
place_of (Goal factor a b) = Facts factor a b 0
place_of (Reply factor a b label) = Facts factor a b label

abbrev pub report_of : Refusal → Report
report_of r = record { number = number_of r; layer = layer_of r; place = place_of r }
