-- The two files of one input. Assumes nothing.
use Rattle.std.specs.Prelude.{ℕ, ◌+◌, ◌*◌, List, [], ◌∷◌, take, drop}

-- The file at the front of an input, and what follows it: two bytes of length, the high byte first, and as many bytes as
-- they say, or all that there are. An incomplete length is 0, and nothing follows it.
abbrev pub front : List ℕ → List ℕ × List ℕ
front [] = ([], [])
front (high ∷ []) = ([], [])
front (high ∷ low ∷ rest) = (take (high * 256 + low) rest, drop (high * 256 + low) rest)

abbrev pub site_part : List ℕ → List ℕ
site_part input = (front input).0

abbrev pub ranking_part : List ℕ → List ℕ
ranking_part input = (front (front input).1).0
