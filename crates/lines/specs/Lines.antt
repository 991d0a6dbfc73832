-- The text of a line: its items, parted by spaces, and the byte that ends it. Assumes nothing.
use Rattle.std.specs.Prelude.{ℕ, List, [], ◌∷◌, ◌++◌, codes, decimal}
use Rattle.site.specs.Words.{report_text}
use Rattle.astar.specs.declared.refusal.CallReport.{CallReport}
use Rattle.astar.specs.declared.refusal.CallReport.TheVariants.{File, Own}
use Rattle.lines.specs.declared.Verdict.{Verdict}
use Rattle.lines.specs.declared.Verdict.TheVariants.{Plan, NoPlan, Full}
use Rattle.lines.specs.declared.Line.{Line}
use Rattle.lines.specs.declared.Line.TheVariants.{Verdict as Ends, Cost, Step, Taken, Entries, Tried, Refused}

-- how many bytes a row has
abbrev pub row_limit : ℕ
row_limit = 64

abbrev pub verdict_text : Verdict → List ℕ
verdict_text Plan = codes "plan"
verdict_text NoPlan = codes "none"
verdict_text Full = codes "full"

-- a refusal of a call; the planner's own have the layer `planner` and the place 0
abbrev pub call_report_text : CallReport → List ℕ
call_report_text (File r) = report_text r
call_report_text (Own number) = codes "refused " ++ (decimal number ++ codes " planner 0")

-- the line but for its end
abbrev pub items_text : Line → List ℕ
items_text (Ends v) = codes "verdict " ++ verdict_text v
items_text (Cost n) = codes "cost " ++ decimal n
items_text (Step n) = codes "step " ++ decimal n
items_text (Taken n) = codes "taken " ++ decimal n
items_text (Entries n) = codes "entries " ++ decimal n
items_text (Tried n) = codes "tried " ++ decimal n
items_text (Refused r) = call_report_text r

abbrev pub line_text : Line → List ℕ
line_text l = items_text l ++ (0x0A ∷ [])
