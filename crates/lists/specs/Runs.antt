-- What is answered to a call, and to a row of calls, by the table alone. Assumes nothing.
use Rattle.std.specs.Prelude.{◌≡◌, ℕ, Bool, cond, if◌then◌else◌, Ok, Err, List, [], ◌∷◌, Some, None, Option, nat_eq, nat_lt}
use Rattle.std.specs.Map.{update}
use Rattle.lists.specs.declared.runs.Answer.{Answer}
use Rattle.lists.specs.declared.runs.Answer.TheVariants.{Emptied, Placed, Taken}
use Rattle.lists.specs.declared.runs.Request.{Request}
use Rattle.lists.specs.declared.runs.Request.TheVariants.{Empty, Put, Take}
use Rattle.lists.specs.Least.{Chosen, Without}

-- the answer to one call at a table, and the table after it
abbrev pub Answers : {K : Type 0} → (K → K → Bool) → ℕ → (ℕ → Option K) → Request K → Answer → (ℕ → Option K) → Type 0
Answers sooner capacity table Empty answer after = (answer ≡ Emptied) × ((n : ℕ) → after n ≡ None)
Answers sooner capacity table (Put number key) answer after =
    (answer ≡ Placed (if nat_lt number capacity then Ok tt else Err (record {})))
    × ((n : ℕ) → after n ≡ cond (nat_lt number capacity) (update nat_eq table number (Some key) n) (table n))
Answers sooner capacity table Take answer after =
    (r : Option ℕ) × (answer ≡ Taken r) × Chosen sooner table r × Without table after r

-- the answers to a row of calls, one after the other
pub data Runs {K : Type 0} (sooner : K → K → Bool) (capacity : ℕ) : (ℕ → Option K) → List (Request K) → List Answer → (ℕ → Option K) → Type 0 where
  ends : (table after : ℕ → Option K) → ((n : ℕ) → after n ≡ table n) → Runs sooner capacity table [] [] after
  goes_on : (table next after : ℕ → Option K) (request : Request K) (answer : Answer) (requests : List (Request K)) (answers : List Answer)
      → Answers sooner capacity table request answer next → Runs sooner capacity next requests answers after
      → Runs sooner capacity table (request ∷ requests) (answer ∷ answers) after

-- the table decides: any answers to the same calls, from a table that agrees at every number, are these, and leave a table that agrees
abbrev pub Decided : {K : Type 0} → (K → K → Bool) → ℕ → (ℕ → Option K) → List (Request K) → List Answer → (ℕ → Option K) → Type 0
Decided {K} sooner capacity table requests answers after =
    (table' after' : ℕ → Option K) (answers' : List Answer)
    → ((n : ℕ) → table' n ≡ table n) → Runs sooner capacity table' requests answers' after'
    → (answers' ≡ answers) × ((n : ℕ) → after' n ≡ after n)
