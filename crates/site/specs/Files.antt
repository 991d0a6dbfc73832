-- What it is to read a file of commands, and when and where a file is refused. Assumes nothing.
use Rattle.std.specs.Prelude.{◌≡◌, ℕ, ◌+◌, ◌<◌, ◌≤◌, cond, ◌⊎◌, List, [], ◌∷◌, ◌++◌, length, Some, None, Ok, Err, Option, Result, ◌≢◌, nat_lt}
use Rattle.std.specs.Borrow.{Bor}
use Rattle.site.specs.declared.refusal.Fault.{Fault}
use Rattle.site.specs.declared.refusal.Fault.TheVariants.{TooLong, UnknownLetter, Truncated, Trailing, Unpriced}
use Rattle.site.specs.declared.refusal.Refusal.{Refusal}
use Rattle.site.specs.declared.refusal.Refusal.TheVariants.{File, Chain, Goal, Reply}

-- how long a file may be, in bytes
abbrev pub file_limit : ℕ
file_limit = 65535

-- A kind of file, by its commands. In a list of the commands so far the last comes first.
pub record Format (C : Type 0) : Type 1 where
  -- a command's letter and its operands
  pub bytes_of : C → List ℕ
  -- how many operand bytes follow a letter, if a command has it
  pub operands : ℕ → Option ℕ
  -- the command that ends a file
  pub end : C
  -- the fault of a command, if it has one, after those so far
  pub fault_of : List C → C → Option Fault
  -- the commands so far lack nothing
  pub whole : List C → Type 0

-- why no command stands at the front of the bytes, if none does
abbrev pub lacking : Option ℕ → List ℕ → Option Fault
lacking None more = Some UnknownLetter
lacking (Some n) more = cond (nat_lt (length more) n) (Some Truncated) None

abbrev pub unreadable : (ℕ → Option ℕ) → List ℕ → Option Fault
unreadable operands [] = Some Truncated
unreadable operands (letter ∷ more) = lacking (operands letter) more

-- What is read after a letter with n operands: a command that begins with the letter, unless there are too few bytes.
abbrev pub Took : {C : Type 0} → (C → List ℕ) → ℕ → ℕ → List ℕ → Result (C × Bor (List ℕ)) Fault → Type 0
Took bytes_of letter n bytes (Ok p) = letter ∷ bytes ≡ bytes_of p.0 ++ p.1.now
Took bytes_of letter n bytes (Err fault) = (fault ≡ Truncated) × (length bytes < n)

-- a command is one of these
abbrev pub Among : {C : Type 0} → C → List C → Type 0
Among c [] = ⊥
Among c (d ∷ ds) = (d ≡ c) ⊎ Among c ds

module _ {C : Type 0} (F : Format C) where
  -- the bytes of the commands so far
  abbrev pub written : List C → List ℕ
  written [] = []
  written (c ∷ cs) = written cs ++ F.bytes_of c

  -- each command is fine after those before it, and none ends the file
  abbrev pub Sound : List C → Type 0
  Sound [] = Unit {0}
  Sound (c ∷ cs) = (F.fault_of cs c ≡ None) × (c ≢ F.end) × Sound cs

  -- the bytes begin with these commands, all of them fine, and then come to the rest
  pub record Came (bytes : List ℕ) (before : List C) (rest : List ℕ) : Type 0 where
    pub text : bytes ≡ written before ++ rest
    pub sound : Sound before

  -- at the front of the bytes stands no command, or one that has a fault by this judge
  abbrev pub Faulty : (C → Option Fault) → List ℕ → Fault → Type 0
  Faulty judge bytes fault =
      (unreadable F.operands bytes ≡ Some fault)
      ⊎ ((c : C) × (rest : List ℕ) × (bytes ≡ F.bytes_of c ++ rest) × (judge c ≡ Some fault))

  -- a file whose commands are fine up to a place, and then not: what stands there has a fault
  pub record Stopped (bytes : List ℕ) (fault : Fault) (place : ℕ) : Type 0 where
    pub before : List C
    pub rest : List ℕ
    pub came : Came bytes before rest
    pub at : place ≡ length (written before)
    pub faulty : Faulty (F.fault_of before) rest fault

  -- the same of a refusal, which is one of a file
  abbrev pub StoppedBy : List ℕ → Refusal → Type 0
  StoppedBy bytes (File fault place) = Stopped bytes fault place
  StoppedBy bytes (Chain factor a b) = ⊥
  StoppedBy bytes (Goal factor a b) = ⊥
  StoppedBy bytes (Reply factor a b label) = ⊥

  -- a file whose commands are fine up to its end, whose letter stands at a place
  pub record Ended (bytes : List ℕ) (place : ℕ) : Type 0 where
    pub before : List C
    pub rest : List ℕ
    pub came : Came bytes before (F.bytes_of F.end ++ rest)
    pub at : place ≡ length (written before)
    pub ends : F.fault_of before F.end ≡ None

  -- a file that is accepted
  pub record Accepted (bytes : List ℕ) : Type 0 where
    pub fits : length bytes ≤ file_limit
    pub place : ℕ
    pub ended : Ended bytes place
    pub whole : F.whole ended.before
    pub nothing : ended.rest ≡ []

  -- a file that is refused: it is too long, or stops at a fault, or, at its end, lacks something or goes on
  pub data Rejected (bytes : List ℕ) : Refusal → Type 0 where
    long : file_limit < length bytes → Rejected bytes (File TooLong 0)
    stopped : {fault : Fault} {place : ℕ} → length bytes ≤ file_limit → Stopped bytes fault place → Rejected bytes (File fault place)
    lacks : {place : ℕ} → length bytes ≤ file_limit → (e : Ended bytes place) → (F.whole e.before → ⊥) → Rejected bytes (File Unpriced place)
    trailing : {place : ℕ} → length bytes ≤ file_limit → (e : Ended bytes place) → F.whole e.before → 0 < length e.rest → Rejected bytes (File Trailing (place + 1))

  -- the end is one byte, and no command is without bytes
  pub record Spelled : Type 0 where
    pub one : length (F.bytes_of F.end) ≡ 1
    pub some : (c : C) → 0 < length (F.bytes_of c)

  -- While a file is read, something holds what its commands so far say. What comes of the next command: it is fine, and is
  -- held as well unless it ends the file; or it has a fault.
  abbrev pub Taken : {S : Type 0} → (S → List C → Type 0) → List C → C → S → Result Unit Fault → Type 0
  Taken Holds before c s (Ok _) = (F.fault_of before c ≡ None) × (c ≡ F.end → Holds s before) × (c ≢ F.end → Holds s (c ∷ before))
  Taken Holds before c s (Err fault) = F.fault_of before c ≡ Some fault

  -- the same of the first command of some bytes
  abbrev pub TakenFirst : {S : Type 0} → (S → List C → Type 0) → List C → List ℕ → S → Result (C × Bor (List ℕ)) Fault → Type 0
  TakenFirst Holds before bytes s (Ok p) = (bytes ≡ F.bytes_of p.0 ++ p.1.now) × Taken Holds before p.0 s (Ok tt)
  TakenFirst Holds before bytes s (Err fault) = Faulty (F.fault_of before) bytes fault

  -- the same of a file up to its end, whose letter stands at a place
  abbrev pub Filled : {S : Type 0} → (S → List C → Type 0) → List ℕ → S → Result ℕ Refusal → Type 0
  Filled Holds bytes s (Ok place) = (e : Ended bytes place) × Holds s e.before
  Filled Holds bytes s (Err refusal) = StoppedBy bytes refusal

  -- the same of a whole file
  abbrev pub ReadInto : {S : Type 0} → (S → List C → Type 0) → List ℕ → Result S Refusal → Type 0
  ReadInto Holds bytes (Ok s) = (a : Accepted bytes) × Holds s a.ended.before
  ReadInto Holds bytes (Err refusal) = Rejected bytes refusal
