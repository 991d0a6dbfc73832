-- What a ranking is, and when it is a label-dominance simulation. Assumes nothing.
use Rattle.std.specs.Prelude.{◌≡◌, ℕ, zero, suc, ◌<◌, ◌≤◌, Bool, true, ◌&&◌, List, Some, ◌≢◌, slice_index}
use Rattle.task.specs.Task.{FactoredTask, State, PlanFrom, move, price, total}
use Rattle.ranking.specs.Comparison.{Comparison}

-- by factor: whether the first fact stands under the second, which is then at least as good
abbrev pub Ranking : Type 0
Ranking = ℕ → ℕ → ℕ → Bool

-- Label m serves for label k in factor j: at each fact it does at least as well.
abbrev pub Serves : FactoredTask → Ranking → ℕ → ℕ → ℕ → Type 0
Serves t r j k m = (x y : ℕ) → x < t.facts j → move t j k x ≡ Some y → (z : ℕ) × (move t j m x ≡ Some z) × (r j y z ≡ true)

-- A reply from b to a transition by label k to the fact a' in factor i: a label that costs no more, leads from b to a fact
-- that a' stands under, and serves for k in every other factor.
pub record Reply (t : FactoredTask) (r : Ranking) (i k a' b : ℕ) : Type 0 where
  pub label : ℕ
  pub into : ℕ
  pub known : label ≤ t.labels
  pub cheap : price t label ≤ price t k
  pub moves : move t i label b ≡ Some into
  pub better : r i a' into ≡ true
  pub serves : (j : ℕ) → j < t.factors → (j ≢ i) → Serves t r j k label

-- a label-dominance simulation
pub record Simulation (t : FactoredTask) (r : Ranking) : Type 0 where
  pub self : (i a : ℕ) → i < t.factors → a < t.facts i → r i a a ≡ true
  pub chain : (i a b c : ℕ) → i < t.factors → a < t.facts i → b < t.facts i → c < t.facts i → r i a b ≡ true → r i b c ≡ true → r i a c ≡ true
  pub goal : (i a b : ℕ) → i < t.factors → a < t.facts i → b < t.facts i → r i a b ≡ true → t.goal i a ≡ true → t.goal i b ≡ true
  pub reply : (i a b k a' : ℕ) → i < t.factors → a < t.facts i → b < t.facts i → k ≤ t.labels → r i a b ≡ true → move t i k a ≡ Some a' → Reply t r i k a' b

-- the test p passes at each number below n
abbrev pub every : (ℕ → Bool) → ℕ → Bool
every p zero = true
every p (suc n) = every p n && p n

-- one state is under another if each of its facts is
abbrev pub under : FactoredTask → Ranking → List ℕ → List ℕ → Bool
under t r s u = every (λ j. r j (slice_index s j) (slice_index u j)) t.factors

-- What an accepted ranking is good for: states compare by it, and whatever is done from a state can be done, at no
-- higher cost, from any state that it is under.
pub record Dominates (t : FactoredTask) (r : Ranking) : Type 0 where
  pub compares : Comparison t (under t r)
  pub plans : (s u ls : List ℕ) → State t s → State t u → under t r s u ≡ true → PlanFrom t s ls → (ms : List ℕ) × PlanFrom t u ms × (total t ms ≤ total t ls)
