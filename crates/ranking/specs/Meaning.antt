-- The relation that a ranking of the code means. Assumes nothing.
use Rattle.ranking.specs.Ranking as subject
use Rattle.ranking.specs.Tables.{rank}
use Rattle.ranking.specs.declared.order.Ranking.{Ranking}

abbrev pub relation : Ranking → subject.Ranking
relation r = rank r.parts
