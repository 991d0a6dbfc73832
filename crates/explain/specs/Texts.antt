-- The line of a judgement, and how the place of a refusal is told. Assumes nothing.
use Rattle.std.specs.Prelude.{ℕ, List, ◌++◌, Ok, Err, codes, decimal}
use Rattle.site.specs.Reports.{report_of}
use Rattle.site.specs.Words.{report_text}
use Rattle.site.specs.declared.refusal.Refusal.{Refusal}
use Rattle.site.specs.declared.refusal.Refusal.TheVariants.{File, Chain, Goal, Reply}
use Rattle.ranking.specs.Judging.{Judgement}
use Rattle.ranking.specs.declared.judge.Rejection.TheVariants.{Site, Ranking}

abbrev pub line_text : Judgement → List ℕ
line_text (Ok _) = codes "accepted"
line_text (Err (Site e)) = report_text (report_of e)
line_text (Err (Ranking e)) = report_text (report_of e)

-- a fact that stands under another
abbrev pub pair_text : ℕ → ℕ → ℕ → List ℕ
pair_text factor a b = codes "factor " ++ (decimal factor ++ (codes ", fact " ++ (decimal a ++ (codes " under fact " ++ decimal b))))

abbrev pub location_text : Refusal → List ℕ
location_text (File fault at) = codes "byte " ++ decimal at
location_text (Chain factor a b) = pair_text factor a b
location_text (Goal factor a b) = pair_text factor a b
location_text (Reply factor a b label) = codes "factor " ++ (decimal factor ++ (codes ", fact " ++ (decimal a ++ (codes " under fact " ++ (decimal b ++ (codes ", label " ++ decimal label))))))
