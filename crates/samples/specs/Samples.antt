-- The bytes of the sample files, piece by piece. Assumes nothing.
use Rattle.std.specs.Prelude.{ℕ, zero, suc, List, [], ◌∷◌, ◌++◌}

-- ---- the commands, by their operands
abbrev pub sizes : ℕ → ℕ → List ℕ
sizes factors labels = 0x54 ∷ factors ∷ labels ∷ []

abbrev pub facts : ℕ → ℕ → ℕ → List ℕ
facts factor count start = 0x46 ∷ factor ∷ count ∷ start ∷ []

abbrev pub goal : ℕ → ℕ → List ℕ
goal factor fact = 0x47 ∷ factor ∷ fact ∷ []

-- a cost below 256
abbrev pub cost : ℕ → ℕ → List ℕ
cost label low = 0x43 ∷ label ∷ 0 ∷ low ∷ []

abbrev pub transition : ℕ → ℕ → ℕ → ℕ → List ℕ
transition factor label from to = 0x4D ∷ factor ∷ label ∷ from ∷ to ∷ []

abbrev pub self_loop : ℕ → ℕ → List ℕ
self_loop factor label = 0x53 ∷ factor ∷ label ∷ []

abbrev pub pair : ℕ → ℕ → ℕ → List ℕ
pair factor lower upper = 0x50 ∷ factor ∷ lower ∷ upper ∷ []

abbrev pub ending : List ℕ
ending = 0x45 ∷ []

-- ---- the sample site
-- with this start fact in factor 0
abbrev pub opening : ℕ → List ℕ
opening start = sizes 2 2 ++ facts 0 2 start ++ facts 1 3 2

-- every fact of factor 1
abbrev pub anywhere : List ℕ
anywhere = goal 1 0 ++ goal 1 1 ++ goal 1 2

abbrev pub goals : List ℕ
goals = goal 0 1 ++ anywhere

-- where label 1 leads, and where label 2 does
abbrev pub by_one : List ℕ
by_one = transition 0 1 0 1 ++ transition 0 1 1 0 ++ self_loop 1 1

abbrev pub by_two : List ℕ
by_two = transition 0 2 0 1 ++ transition 1 2 2 1 ++ transition 1 2 1 0

-- the sample site that starts so, with these goals and these costs
abbrev pub site_of : ℕ → List ℕ → List ℕ → List ℕ
site_of start wanted costs = opening start ++ wanted ++ costs ++ by_one ++ by_two ++ ending

abbrev pub site_with : List ℕ → List ℕ
site_with costs = site_of 0 goals costs

abbrev pub costs : List ℕ
costs = cost 1 30 ++ cost 2 30

abbrev pub site : List ℕ
site = site_with costs

-- label 1 at cost 31
abbrev pub dear_site : List ℕ
dear_site = site_with (cost 1 31 ++ cost 2 30)

-- label 2 without a cost
abbrev pub unpriced_site : List ℕ
unpriced_site = site_with (cost 1 30)

-- factor 0 without a goal fact
abbrev pub closed_site : List ℕ
closed_site = site_of 0 anywhere costs

-- factor 0 at its goal fact from the start
abbrev pub open_site : List ℕ
open_site = site_of 1 goals costs

-- one byte more
abbrev pub long_site : ℕ → List ℕ
long_site b = site ++ b ∷ []

-- ---- the sample ranking
abbrev pub links : List ℕ
links = pair 0 0 1 ++ pair 1 0 1 ++ pair 1 1 2

abbrev pub ranking : List ℕ
ranking = links ++ pair 1 0 2 ++ ending

-- without the pair that closes the chain
abbrev pub unclosed : List ℕ
unclosed = links ++ ending

-- only 1 under 0, in one factor
abbrev pub reversed : ℕ → List ℕ
reversed factor = pair factor 1 0 ++ ending

-- ---- a site with one factor of one fact, and many labels that cost nothing
abbrev pub free : ℕ → List ℕ
free zero = []
free (suc l) = free l ++ cost (suc l) 0

abbrev pub labelled : ℕ → List ℕ
labelled labels = sizes 1 labels ++ facts 0 1 0 ++ free labels ++ ending
