-- How each refusal of a call is reported: that of its file as its file's, and each of the planner's own by its number. Assumes nothing.
use Rattle.site.specs.Reports.{report_of}
use Rattle.astar.specs.declared.refusal.CallRefusal.{CallRefusal}
use Rattle.astar.specs.declared.refusal.CallReport.{CallReport}
use Rattle.astar.specs.declared.refusal.CallReport.TheVariants.{File, Own}
use Rattle.astar.specs.declared.refusal.CallRefusal.TheVariants.{Input, NoTakes, PastPlan, Empty, Busy, Idle, NoPlan}

abbrev pub call_report_of : CallRefusal → CallReport
call_report_of (Input r) = File (report_of r)
call_report_of NoTakes = Own 12
call_report_of PastPlan = Own 13
call_report_of Empty = Own 21
call_report_of Busy = Own 22
call_report_of Idle = Own 23
call_report_of NoPlan = Own 24
