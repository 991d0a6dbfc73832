-- A file of bytes is accepted or refused. Assumes nothing.
use Rattle.std.proofs.Common.{◌≡◌, ℕ, zero, suc, ◌+◌, ◌*◌, ◌<◌, ◌≤◌, true, false, ◌⊎◌, List, [], ◌∷◌, ◌++◌, length, get_or, is_some, Some, None, Option, sym, refl, ap, ◌∙◌, subst, inl, inr, ⊎_elim, arith}
use Rattle.std.proofs.lemmas.Bool.{both_ways, cases_Bool, cases_eq, cases_lt, cond-true, lt-ltb}
use Rattle.std.proofs.lemmas.Bool.Decides.{nat_tests}
use Rattle.task.specs.Task.{FactoredTask}
use Rattle.site.specs.Files.{Format, file_limit, unreadable, lacking, Came, Stopped, Ended, Accepted, Rejected, long, stopped, lacks, trailing}
use Rattle.site.specs.SiteFile as site
use Rattle.site.specs.SiteFile.{site_file, describes, Priced}
use Rattle.site.specs.declared.command.Command.{Command}
use Rattle.site.specs.declared.command.Command.TheVariants.{Sizes, Facts, Goal, Cost, Move, Loop, End}
use Rattle.site.specs.declared.refusal.Fault.{Fault}
use Rattle.site.specs.declared.refusal.Fault.TheVariants.{TooLong, UnknownLetter, Truncated, Trailing, Unpriced}
use Rattle.site.specs.declared.refusal.Refusal.{Refusal}
use Rattle.site.specs.declared.refusal.Refusal.TheVariants.{File}
use Rattle.site.proofs.Opening.{after, open2, open3, open4, costed}
use Rattle.site.proofs.Reading.{came_none, came_more, came_end, came_not, taken_less}
use Rattle.ranking.specs.RankingFile as ranking
use Rattle.ranking.specs.RankingFile.{ranking_file}
use Rattle.ranking.specs.declared.listing.Listing.{Listing}
use Rattle.ranking.specs.declared.listing.Listing.TheVariants.{Pair, End as Last}
use Rattle.astar.specs.Promises.{Bytes}
use Rattle.astar.proofs.Deciding.{look, option_cases}

pub bytes_parts : (xs ys : List ℕ) → Bytes (xs ++ ys) → Bytes xs × Bytes ys
bytes_parts [] ys fine = (tt, fine)
bytes_parts (x ∷ xs) ys fine = let (more, rest) = bytes_parts xs ys fine.1 in ((fine.0, more), rest)

-- no command stands in front of the bytes, or one does
abbrev Front : {C : Type 0} → (C → List ℕ) → (ℕ → Option ℕ) → List ℕ → Type 0
Front {C} bytes_of operands bytes = ((fault : Fault) × (unreadable operands bytes ≡ Some fault)) ⊎ ((c : C) × (rest : List ℕ) × (bytes ≡ bytes_of c ++ rest))

-- what reading asks is settled by looking
record Settles {C : Type 0} (F : Format C) : Type 0 where
  front : (bytes : List ℕ) → Bytes bytes → Front F.bytes_of F.operands bytes
  ends : (c : C) → (c ≡ F.end) ⊎ (c ≡ F.end → ⊥)
  some : (c : C) → 0 < length (F.bytes_of c)
  wholes : (before : List C) → F.whole before ⊎ (F.whole before → ⊥)

module _ {C : Type 0} (F : Format C) (settles : Settles F) (bytes : List ℕ) where
  abbrev Halted : Type 0
  Halted = ((fault : Fault) × (place : ℕ) × Stopped F bytes fault place) ⊎ ((place : ℕ) × Ended F bytes place)

  -- the next command is read, and then what comes after it
  halt : (before : List C) (rest : List ℕ) → Bytes rest → Came F bytes before rest
      → ((before : List C) (after : List ℕ) → length after < length rest → Bytes after → Came F bytes before after → Halted) → Halted
  halt before rest fine came next =
      ⊎_elim
      (λ (fault, bad). inl (fault, _, came_not F bytes rest before fault came (inl bad)))
      (λ (c, more, is). command c more is (option_cases (F.fault_of before c)) (settles.ends c))
      (settles.front rest fine)
    where
      command : (c : C) (more : List ℕ) → rest ≡ F.bytes_of c ++ more → ((fault : Fault) × (F.fault_of before c ≡ Some fault)) ⊎ (F.fault_of before c ≡ None) → (c ≡ F.end) ⊎ (c ≡ F.end → ⊥) → Halted
      command c more is (inl (fault, bad)) end = inl (fault, _, came_not F bytes rest before fault came (inr (c, more, is, bad)))
      command c more is (inr ok) (inl end) =
          inr (_, came_end F bytes rest more before came (is ∙ ap (λ x. F.bytes_of x ++ more) end) (ap (F.fault_of before) (sym end) ∙ ok))
      command c more is (inr ok) (inr on) =
          next (c ∷ before) more (taken_less F rest more c (settles.some c) is) (bytes_parts (F.bytes_of c) more (subst Bytes is fine)).1 (came_more F bytes rest more before c came is ok on)

  read : (n : ℕ) (before : List C) (rest : List ℕ) → length rest ≤ n → Bytes rest → Came F bytes before rest → Halted
  read zero before rest short fine came = halt before rest fine came (λ before more less fine came. absurd (omega arith))
  read (suc n) before rest short fine came = halt before rest fine came (λ before more less fine came. read n before more (omega arith) fine came)

  -- at the end of the file
  closes : length bytes ≤ file_limit → (place : ℕ) (e : Ended F bytes place) → F.whole e.before → (rest : List ℕ) → e.rest ≡ rest → Accepted F bytes ⊎ ((r : Refusal) × Rejected F bytes r)
  closes fits place e whole [] is = inl (record { fits = fits; place = place; ended = e; whole = whole; nothing = is })
  closes fits place e whole (x ∷ xs) is = inr (File Trailing (place + 1), trailing fits e whole (let long = ap length is in omega arith))

  halted : length bytes ≤ file_limit → Halted → Accepted F bytes ⊎ ((r : Refusal) × Rejected F bytes r)
  halted fits (inl (fault, place, s)) = inr (File fault place, stopped fits s)
  halted fits (inr (place, e)) = ⊎_elim (λ whole. closes fits place e whole e.rest refl) (λ lack. inr (File Unpriced place, lacks fits e lack)) (settles.wholes e.before)

  file_cases : Bytes bytes → Accepted F bytes ⊎ ((r : Refusal) × Rejected F bytes r)
  file_cases fine = ⊎_elim (λ big. inr (File TooLong 0, long big)) (λ fits. halted fits (read (length bytes) [] bytes (omega arith) fine (came_none F bytes))) (cases_lt file_limit (length bytes))

-- a letter with its operands, unless these are missing
operand_cases : {C : Type 0} (bytes_of : C → List ℕ) (operands : ℕ → Option ℕ) (letter n : ℕ) (more : List ℕ) → operands letter ≡ Some n
    → (n ≤ length more → (c : C) × (rest : List ℕ) × (letter ∷ more ≡ bytes_of c ++ rest)) → Front bytes_of operands (letter ∷ more)
operand_cases bytes_of operands letter n more is make =
    ⊎_elim (λ few. inl (Truncated, ap (λ o. lacking o more) is ∙ cond-true _ _ _ (lt-ltb _ _ few))) (λ all. inr (make all)) (cases_lt (length more) n)

-- ---- the site file
module _ (more : List ℕ) where
  sizes_front : Front site.bytes_of site.operands (84 ∷ more)
  sizes_front = operand_cases site.bytes_of site.operands 84 2 more refl (λ all. (Sizes (get_or more 0 0) (get_or more 1 0), after 2 more, ap (λ m. 84 ∷ m) (open2 more all)))

  facts_front : Front site.bytes_of site.operands (70 ∷ more)
  facts_front = operand_cases site.bytes_of site.operands 70 3 more refl (λ all. (Facts (get_or more 0 0) (get_or more 1 0) (get_or more 2 0), after 3 more, ap (λ m. 70 ∷ m) (open3 more all)))

  goal_front : Front site.bytes_of site.operands (71 ∷ more)
  goal_front = operand_cases site.bytes_of site.operands 71 2 more refl (λ all. (Goal (get_or more 0 0) (get_or more 1 0), after 2 more, ap (λ m. 71 ∷ m) (open2 more all)))

  cost_front : Bytes more → Front site.bytes_of site.operands (67 ∷ more)
  cost_front fine = operand_cases site.bytes_of site.operands 67 3 more refl (λ all. (Cost (get_or more 0 0) (get_or more 1 0 * 256 + get_or more 2 0), after 3 more, ap (λ m. 67 ∷ m) (costed more _ all refl (third more all fine))))
    where
      third : (xs : List ℕ) → 3 ≤ length xs → Bytes xs → get_or xs 2 0 < 256
      third [] all fine = absurd (omega arith)
      third (a ∷ []) all fine = absurd (omega arith)
      third (a ∷ b ∷ []) all fine = absurd (omega arith)
      third (a ∷ b ∷ c ∷ xs) all fine = fine.1.1.0

  move_front : Front site.bytes_of site.operands (77 ∷ more)
  move_front = operand_cases site.bytes_of site.operands 77 4 more refl (λ all. (Move (get_or more 0 0) (get_or more 1 0) (get_or more 2 0) (get_or more 3 0), after 4 more, ap (λ m. 77 ∷ m) (open4 more all)))

  loop_front : Front site.bytes_of site.operands (83 ∷ more)
  loop_front = operand_cases site.bytes_of site.operands 83 2 more refl (λ all. (Loop (get_or more 0 0) (get_or more 1 0), after 2 more, ap (λ m. 83 ∷ m) (open2 more all)))

  end_front : Front site.bytes_of site.operands (69 ∷ more)
  end_front = operand_cases site.bytes_of site.operands 69 0 more refl (λ all. (End, more, refl))

-- the letter is x, or it is another
at_letter : (P : ℕ → Type 0) (letter x : ℕ) → P x → ((letter ≡ x → ⊥) → P letter) → P letter
at_letter P letter x here there = ⊎_elim (λ at. subst P (sym at) here) there (cases_eq letter x)

site_unknown : (letter : ℕ) → (letter ≡ 84 → ⊥) → (letter ≡ 70 → ⊥) → (letter ≡ 71 → ⊥) → (letter ≡ 67 → ⊥) → (letter ≡ 77 → ⊥) → (letter ≡ 83 → ⊥) → (letter ≡ 69 → ⊥) → site.operands letter ≡ None
site_unknown letter a b c d e f g = grind (arith, nat_tests)

site_front : (bytes : List ℕ) → Bytes bytes → Front site.bytes_of site.operands bytes
site_front [] fine = inl (Truncated, refl)
site_front (letter ∷ more) fine =
    let P : ℕ → Type 0 = λ x. Front site.bytes_of site.operands (x ∷ more) in
    at_letter P letter 84 (sizes_front more) (λ a.
    at_letter P letter 70 (facts_front more) (λ b.
    at_letter P letter 71 (goal_front more) (λ c.
    at_letter P letter 67 (cost_front more fine.1) (λ d.
    at_letter P letter 77 (move_front more) (λ e.
    at_letter P letter 83 (loop_front more) (λ f.
    at_letter P letter 69 (end_front more) (λ g.
    inl (UnknownLetter, ap (λ o. lacking o more) (site_unknown letter a b c d e f g)))))))))

-- one command is not another
site_ends : (c : Command) → (c ≡ End) ⊎ (c ≡ End → ⊥)
site_ends (Sizes n m) = inr (λ e. let z : ◌≡◌ {A = ℕ} 0 1 = cc in omega arith)
site_ends (Facts j n s) = inr (λ e. let z : ◌≡◌ {A = ℕ} 0 1 = cc in omega arith)
site_ends (Goal j x) = inr (λ e. let z : ◌≡◌ {A = ℕ} 0 1 = cc in omega arith)
site_ends (Cost l n) = inr (λ e. let z : ◌≡◌ {A = ℕ} 0 1 = cc in omega arith)
site_ends (Move j l x y) = inr (λ e. let z : ◌≡◌ {A = ℕ} 0 1 = cc in omega arith)
site_ends (Loop j l) = inr (λ e. let z : ◌≡◌ {A = ℕ} 0 1 = cc in omega arith)
site_ends End = inl refl

site_some : (c : Command) → 0 < length (site.bytes_of c)
site_some (Sizes n m) = omega arith
site_some (Facts j n s) = omega arith
site_some (Goal j x) = omega arith
site_some (Cost l n) = omega arith
site_some (Move j l x y) = omega arith
site_some (Loop j l) = omega arith
site_some End = omega arith

priced_cases : (before : List Command) → Priced (describes before) ⊎ (Priced (describes before) → ⊥)
priced_cases before =
    ⊎_elim
    (λ all. inl (λ l real low. all l (omega arith) real))
    (λ (l, low, (real, not)). inr (λ all. both_ways _ not (all l real (omega arith))))
    (look {A = λ l. 1 ≤ l → is_some ((describes before).cost l) ≡ true} {B = λ l. (1 ≤ l) × (is_some ((describes before).cost l) ≡ false)} each ((describes before).labels + 1))
  where
    each : (l : ℕ) → (1 ≤ l → is_some ((describes before).cost l) ≡ true) ⊎ ((1 ≤ l) × (is_some ((describes before).cost l) ≡ false))
    each l = ⊎_elim (λ zeroth. inl (λ real. absurd (omega arith))) (λ real. ⊎_elim (λ yes'. inl (λ _. yes')) (λ no'. inr (real, no')) (cases_Bool (is_some ((describes before).cost l)))) (cases_lt l 1)

pub site_cases : (bytes : List ℕ) → Bytes bytes → Accepted site_file bytes ⊎ ((r : Refusal) × Rejected site_file bytes r)
site_cases = file_cases site_file (record { front = site_front; ends = site_ends; some = site_some; wholes = priced_cases })

-- ---- the ranking file
ranking_unknown : (letter : ℕ) → (letter ≡ 80 → ⊥) → (letter ≡ 69 → ⊥) → ranking.operands letter ≡ None
ranking_unknown letter a b = grind (arith, nat_tests)

ranking_front : (bytes : List ℕ) → Bytes bytes → Front ranking.bytes_of ranking.operands bytes
ranking_front [] fine = inl (Truncated, refl)
ranking_front (letter ∷ more) fine =
    let P : ℕ → Type 0 = λ x. Front ranking.bytes_of ranking.operands (x ∷ more) in
    at_letter P letter 80 (operand_cases ranking.bytes_of ranking.operands 80 3 more refl (λ all. (Pair (get_or more 0 0) (get_or more 1 0) (get_or more 2 0), after 3 more, ap (λ m. 80 ∷ m) (open3 more all)))) (λ a.
    at_letter P letter 69 (operand_cases ranking.bytes_of ranking.operands 69 0 more refl (λ all. (Last, more, refl))) (λ b.
    inl (UnknownLetter, ap (λ o. lacking o more) (ranking_unknown letter a b))))

ranking_ends : (c : Listing) → (c ≡ Last) ⊎ (c ≡ Last → ⊥)
ranking_ends (Pair j a b) = inr (λ e. let z : ◌≡◌ {A = ℕ} 0 1 = cc in omega arith)
ranking_ends Last = inl refl

ranking_some : (c : Listing) → 0 < length (ranking.bytes_of c)
ranking_some (Pair j a b) = omega arith
ranking_some Last = omega arith

pub ranking_file_cases : (t : FactoredTask) (bytes : List ℕ) → Bytes bytes → Accepted (ranking_file t) bytes ⊎ ((r : Refusal) × Rejected (ranking_file t) bytes r)
ranking_file_cases t = file_cases (ranking_file t) (record { front = ranking_front; ends = ranking_ends; some = ranking_some; wholes = λ before. inl tt })
