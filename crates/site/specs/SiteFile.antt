-- The commands of a site file: their bytes, what they describe, and which of them are refused. Assumes nothing.
use Rattle.std.specs.Prelude.{◌≡◌, ℕ, zero, suc, ◌+◌, ◌/◌, ◌%◌, ◌<◌, ◌≤◌, Bool, true, false, cond, not, ◌&&◌, ◌||◌, List, [], ◌∷◌, length, is_some, Some, None, Option, ◌==◌, nat_le, nat_lt, refl}
use Rattle.std.specs.Option.{unwrap_or}
use Rattle.task.specs.Task.{FactoredTask}
use Rattle.task.specs.Limits.{factor_limit, fact_limit, label_limit}
use Rattle.site.specs.Changes.{put}
use Rattle.std.proofs.Common.{lit<}
use Rattle.site.specs.Files.{Format, Spelled}
use Rattle.site.specs.declared.refusal.Fault.{Fault}
use Rattle.site.specs.declared.refusal.Fault.TheVariants.{Misplaced, OutOfRange, Repeated}
use Rattle.site.specs.declared.command.Command.{Command}
use Rattle.site.specs.declared.command.Command.TheVariants.{Sizes, Facts, Goal, Cost, Move, Loop, End}

-- the bytes of a command
abbrev pub bytes_of : Command → List ℕ
bytes_of (Sizes factors labels) = 84 ∷ factors ∷ labels ∷ []
bytes_of (Facts factor facts start) = 70 ∷ factor ∷ facts ∷ start ∷ []
bytes_of (Goal factor fact) = 71 ∷ factor ∷ fact ∷ []
bytes_of (Cost label cost) = 67 ∷ label ∷ cost / 256 ∷ cost % 256 ∷ []
bytes_of (Move factor label from to) = 77 ∷ factor ∷ label ∷ from ∷ to ∷ []
bytes_of (Loop factor label) = 83 ∷ factor ∷ label ∷ []
bytes_of End = 69 ∷ []

-- how many operand bytes follow a letter, if a command has it
abbrev pub operands : ℕ → Option ℕ
operands letter =
    cond (letter == 84) (Some 2)
    (cond (letter == 70) (Some 3)
    (cond (letter == 71) (Some 2)
    (cond (letter == 67) (Some 3)
    (cond (letter == 77) (Some 4)
    (cond (letter == 83) (Some 2)
    (cond (letter == 69) (Some 0) None))))))

-- What the commands so far describe. Before the first there are no factors, and `declared` counts the factors whose facts are given.
pub record Described : Type 0 where
  pub factors : ℕ
  pub labels : ℕ
  pub declared : ℕ
  pub facts : ℕ → ℕ
  pub start : ℕ → ℕ
  pub goal : ℕ → ℕ → Bool
  pub cost : ℕ → Option ℕ
  pub moves : ℕ → ℕ → ℕ → Option ℕ

abbrev pub nothing : Described
nothing = record { factors = 0; labels = 0; declared = 0; facts = λ _. 0; start = λ _. 0; goal = λ _ _. false; cost = λ _. None; moves = λ _ _ _. None }

-- the label l leads from the fact x of the factor j where `to` says
abbrev pub leads : ℕ → ℕ → (ℕ → Option ℕ) → Described → Described
leads j l to t = record {
  factors = t.factors;
  labels = t.labels;
  declared = t.declared;
  facts = t.facts;
  start = t.start;
  goal = t.goal;
  cost = t.cost;
  moves = put j (put l to (t.moves j)) t.moves;
}

-- what a command adds
abbrev pub adds : Command → Described → Described
adds (Sizes n m) t = record { factors = n; labels = m; declared = t.declared; facts = t.facts; start = t.start; goal = t.goal; cost = t.cost; moves = t.moves }
adds (Facts j n s) t = record {
  factors = t.factors;
  labels = t.labels;
  declared = t.declared + 1;
  facts = put j n t.facts;
  start = put j s t.start;
  goal = t.goal;
  cost = t.cost;
  moves = t.moves;
}
adds (Goal j x) t = record {
  factors = t.factors;
  labels = t.labels;
  declared = t.declared;
  facts = t.facts;
  start = t.start;
  goal = put j (put x true (t.goal j)) t.goal;
  cost = t.cost;
  moves = t.moves;
}
adds (Cost l n) t = record {
  factors = t.factors;
  labels = t.labels;
  declared = t.declared;
  facts = t.facts;
  start = t.start;
  goal = t.goal;
  cost = put l (Some n) t.cost;
  moves = t.moves;
}
adds (Move j l x y) t = leads j l (put x (Some y) (t.moves j l)) t
adds (Loop j l) t = leads j l (λ x. cond (nat_lt x (t.facts j)) (Some x) (t.moves j l x)) t
adds End t = t

-- what commands describe, of which the last comes first in the list
abbrev pub describes : List Command → Described
describes [] = nothing
describes (c ∷ cs) = adds c (describes cs)

-- the task that is described
abbrev pub task : Described → FactoredTask
task t = record {
  factors = t.factors;
  labels = t.labels;
  facts = t.facts;
  start = t.start;
  goal = t.goal;
  cost = λ l. unwrap_or (t.cost l) 0;
  moves = t.moves;
}

-- the test p passes at some number below n
abbrev pub some : (ℕ → Bool) → ℕ → Bool
some p zero = false
some p (suc n) = some p n || p n

-- the sizes come first, then the facts of each factor in turn, then all else
abbrev pub early : Described → Bool
early t = t.factors == 0 || nat_lt t.declared t.factors

abbrev pub misplaced : Described → Command → Bool
misplaced t (Sizes n m) = not (t.factors == 0)
misplaced t (Facts j n s) = not (j == t.declared) || nat_le t.factors j
misplaced t (Goal j x) = early t
misplaced t (Cost l n) = early t
misplaced t (Move j l x y) = early t
misplaced t (Loop j l) = early t
misplaced t End = early t

abbrev pub has_label : Described → ℕ → Bool
has_label t l = nat_le 1 l && nat_le l t.labels

abbrev pub has_fact : Described → ℕ → ℕ → Bool
has_fact t j x = nat_lt j t.factors && nat_lt x (t.facts j)

abbrev pub outside : Described → Command → Bool
outside t (Sizes n m) = not ((nat_le 1 n && nat_le n factor_limit) && (nat_le 1 m && nat_le m label_limit))
outside t (Facts j n s) = not (nat_le n fact_limit && nat_lt s n)
outside t (Goal j x) = not (has_fact t j x)
outside t (Cost l n) = not (has_label t l)
outside t (Move j l x y) = not (has_label t l && (has_fact t j x && has_fact t j y))
outside t (Loop j l) = not (has_label t l && nat_lt j t.factors)
outside t End = false

abbrev pub repeated : Described → Command → Bool
repeated t (Sizes n m) = false
repeated t (Facts j n s) = false
repeated t (Goal j x) = t.goal j x
repeated t (Cost l n) = is_some (t.cost l)
repeated t (Move j l x y) = is_some (t.moves j l x)
repeated t (Loop j l) = some (λ x. is_some (t.moves j l x)) (t.facts j)
repeated t End = false

-- the fault of a command, if it has one: the first in this order
abbrev pub fault_of : Described → Command → Option Fault
fault_of t c = cond (misplaced t c) (Some Misplaced) (cond (outside t c) (Some OutOfRange) (cond (repeated t c) (Some Repeated) None))

-- each label has a cost
abbrev pub Priced : Described → Type 0
Priced t = (l : ℕ) → 1 ≤ l → l ≤ t.labels → is_some (t.cost l) ≡ true

abbrev pub site_file : Format Command
site_file = record
    { bytes_of = bytes_of; operands = operands; end = End; fault_of = λ before c. fault_of (describes before) c; whole = λ before. Priced (describes before) }

-- no command is without bytes, and the end is one byte
some_bytes : (c : Command) → 0 < length (bytes_of c)
some_bytes (Sizes factors labels) = lit< tt
some_bytes (Facts factor facts start) = lit< tt
some_bytes (Goal factor fact) = lit< tt
some_bytes (Cost label cost) = lit< tt
some_bytes (Move factor label from to) = lit< tt
some_bytes (Loop factor label) = lit< tt
some_bytes End = lit< tt

pub spelled : Spelled site_file
spelled = record { one = refl; some = some_bytes }
