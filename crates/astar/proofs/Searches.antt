-- What every search comes to. Assumes nothing.
use Rattle.std.proofs.Common.{◌≡◌, ℕ, ◌≤◌, Bool, List, length, Some, Option, arith}
use Rattle.task.specs.Task.{FactoredTask, Lawful, Goal, Plan, Cheapest, start_state, total}
use Rattle.estimators.specs.Estimates.{Consistent}
use Rattle.ranking.specs.Comparison.{Comparison}
use Rattle.astar.specs.Boards.{Board, entry, Next, took, Searching, EndsPlan, reaches, nobody}
use Rattle.astar.specs.Laws.{Chain, Finds, Exhausts, Hopeless, Bounded, SearchesWell}
use Rattle.astar.proofs.Options.{not_both}
use Rattle.astar.proofs.Runs.{start_is_state, estimated}
use Rattle.astar.proofs.Counting.{count_low}
use Rattle.astar.proofs.Ways.{way_runs, way_total, way_chain}
use Rattle.astar.proofs.Invariant.{Between}
use Rattle.astar.proofs.Taking.{Lowest, lowest, way_took, searching as searches}
use Rattle.astar.proofs.Optimal.{waits_for}
use Rattle.astar.proofs.Overflow.{overflows}

module _ (t : FactoredTask) (below : List ℕ → List ℕ → Bool) (h : List ℕ → Option ℕ) (lawful : Lawful t) (compares : Comparison t below) (consistent : Consistent t h) where
  -- the search ends at entry i, whose state is a goal state
  module _ (b : Board) (n i : ℕ) (searching : Searching t below h b n) (least : Next b i) (goal : Goal t (entry b i).state) where
    c : Between t below h b n
    c = searches t below h lawful consistent searching

    low : Lowest h b c.floor i
    low = lowest t h b c.floor i c.sound least

    -- no plan costs less than entry i
    cheapest : (ls : List ℕ) → Plan t ls → (entry b i).cost ≤ total t ls
    cheapest ls plan =
        let w = waits_for t below h lawful compares consistent b n c ls plan in
        omega (arith, low.least w.place w.key w.here, w.low)

    found : Cheapest t (Some (entry b i).cost) × ((ls : List ℕ) × Chain (took b i) i ls × Plan t ls × (total t ls ≡ (entry b i).cost) × (length ls ≤ n))
    found =
        let (ls, before, short) = c.sound.ways i low.inside in
        let way = way_took t h b c.floor i c.sound low before low.inside in
        let plan : Plan t ls = record { last = (entry b i).state; runs = way_runs way; goal = goal } in
        (((ls, plan, way_total way), cheapest), (ls, way_chain way, plan, way_total way, omega (arith, c.takes)))

  finds : Finds t below h
  finds b b' n j searching ends = go j b' ends
    where
      go : (i : ℕ) (b' : Board) → EndsPlan t below h b i b' → Cheapest t (Some (entry b' i).cost) × ((ls : List ℕ) × Chain b' i ls × Plan t ls × (total t ls ≡ (entry b' i).cost) × (length ls ≤ n))
      go j b' (reaches i least goal) = found b n i searching least goal

  exhausts : Exhausts t below h
  exhausts b b' n searching (nobody none) ls plan =
      let w = waits_for t below h lawful compares consistent b n (searches t below h lawful consistent searching) ls plan in
      not_both w.here (none w.place)

  hopeless : Hopeless t below h
  hopeless none ls plan = not_both (estimated t h lawful consistent (start_state t) ls (start_is_state t lawful) plan).1 none

  bounded : Bounded t below h
  bounded b n searching =
      let c = searches t below h lawful consistent searching in
      let few = count_low b.waiting (length b.entries) in
      (c.takes, omega (arith, c.takes, c.sound.counts), c.sound.room)

pub searches_well : SearchesWell
searches_well t below h lawful compares consistent = record {
  finds = finds t below h lawful compares consistent;
  exhausts = exhausts t below h lawful compares consistent;
  hopeless = hopeless t below h lawful compares consistent;
  bounded = bounded t below h lawful compares consistent;
  overflows = overflows t below h lawful consistent;
}
