-- A ranking's facts are each at least as good as themselves.
use Rattle.std.proofs.Common.{◌≡◌, ℕ, ◌<◌, Bool, true, false, T, refl, arith}
use Rattle.task.specs.Meaning.{meaning}
use Rattle.ranking.specs.Meaning.{relation}
use Rattle.task.specs.declared.task.Task.{Task}
use Rattle.ranking.specs.declared.order.Ranking.{Ranking}

is_true : (b : Bool) → T b → b ≡ true
is_true true h = refl
is_true false h = absurd h

pub self : (t : Task) (k : Ranking) (i a : ℕ) → i < (meaning t).factors → a < (meaning t).facts i → relation k i a a ≡ true
self t k i a hi ha = let few = t.few in let small = t.small i hi in is_true _ (k.own i a (omega arith) (omega arith))
