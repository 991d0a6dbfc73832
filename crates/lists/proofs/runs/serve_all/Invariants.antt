use Rattle.std.proofs.Common.{◌≡◌, take, drop}
use Rattle.lists.specs.Runs.{Runs}
use Rattle.lists.proofs.runs.serve_all.Given as goal

abbrev pub invariant-loop-at : goal.invariant-loop-at
invariant-loop-at g l =
    let list = g.L.WaitingList in
    record {
      capacity : list.capacity l.list ≡ list.capacity l.initial.list;
      answers : Runs g.K.Key.sooner (list.capacity l.initial.list) (list.holds l.initial.list) (take l.at l.requests) (take l.at l.answers) (list.holds l.list);
      rest : drop l.at l.answers ≡ drop l.at l.initial.answers;
    }
