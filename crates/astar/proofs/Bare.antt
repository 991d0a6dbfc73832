-- The ranking under which every fact stands under itself alone is a simulation. Assumes nothing.
use Rattle.std.proofs.Common.{◌≡◌, ℕ, ◌≤◌, Some, sym, refl, ap, ◌∙◌, arith}
use Rattle.std.proofs.lemmas.Bool.{eq-eqb, eqb-true}
use Rattle.task.specs.Task.{FactoredTask, move}
use Rattle.ranking.specs.Ranking.{Reply, Simulation}
use Rattle.astar.specs.Planner.{bare}

-- a fact answers by the same label
bare_reply : (t : FactoredTask) (i b k a' : ℕ) → k ≤ t.labels → move t i k b ≡ Some a' → Reply t bare i k a' b
bare_reply t i b k a' known moves = record {
  label = k;
  into = a';
  known = known;
  cheap = omega arith;
  moves = moves;
  better = eq-eqb a' a' refl;
  serves = λ j inside apart x y fact moves. (y, moves, eq-eqb y y refl);
}

pub bare_simulation : (t : FactoredTask) → Simulation t bare
bare_simulation t = record {
  self = λ i a inside fact. eq-eqb a a refl;
  chain = λ i a b c inside fa fb fc ab bc. eq-eqb a c (eqb-true a b ab ∙ eqb-true b c bc);
  goal = λ i a b inside fa fb ab goal. ap (t.goal i) (sym (eqb-true a b ab)) ∙ goal;
  reply = λ i a b k a' inside fa fb known ab moves. bare_reply t i b k a' known (ap (move t i k) (sym (eqb-true a b ab)) ∙ moves);
}
