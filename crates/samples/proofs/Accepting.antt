-- Files that are accepted or refused, by tests.
use Rattle.std.proofs.Common.{◌≡◌, ℕ, zero, suc, ◌<◌, ◌≤◌, Bool, true, not, ◌&&◌, ltb, List, [], ◌∷◌, ◌++◌, length, is_some, Some, None, Decides, Option, refl, ap, arith}
use borrow.Author.Tests.{clash}
use Rattle.std.proofs.lemmas.Bool.{and_parts, ltb-true}
use Rattle.std.proofs.lemmas.Bool.Decides.{Decides-like}
use Rattle.site.specs.Files.{Format, Ended, Stopped, Faulty, Sound, written}
use Rattle.site.specs.SiteFile.{Described, Priced}
use Rattle.site.specs.declared.refusal.Fault.{Fault}
use Rattle.ranking.specs.Ranking.{every}
use Rattle.samples.proofs.Deciding.{every_decides, true_decides}

pub none_from : {A : Type 0} (o : Option A) → not (is_some o) ≡ true → o ≡ None
none_from None e = refl
none_from (Some x) e = absurd (clash e)

-- a kind of file in which only the end has a single byte
module _ {C : Type 0} (F : Format C) where
  -- each command is fine after those before it, and is no end
  abbrev fine : List C → Bool
  fine [] = true
  fine (c ∷ cs) = not (is_some (F.fault_of cs c)) && (ltb 1 (length (F.bytes_of c)) && fine cs)

  -- and so is the end after them all
  abbrev pub reads : List C → Bool
  reads cs = fine cs && not (is_some (F.fault_of cs F.end))

  module _ (one : length (F.bytes_of F.end) ≡ 1) where
    pub fine_sound : (cs : List C) → fine cs ≡ true → Sound F cs
    fine_sound [] e = tt
    fine_sound (c ∷ cs) e =
        let w = and_parts (not (is_some (F.fault_of cs c))) (ltb 1 (length (F.bytes_of c)) && fine cs) e in
        let v = and_parts (ltb 1 (length (F.bytes_of c))) (fine cs) w.1 in
        let l = ltb-true 1 (length (F.bytes_of c)) v.0 in
        (none_from _ w.0, λ s. let q = ap (λ d. length (F.bytes_of d)) s in omega arith, fine_sound cs v.1)

    -- the commands, the end, and what follows it
    abbrev pub ended : (cs : List C) (rest : List ℕ) → reads cs ≡ true → Ended F (written F cs ++ (F.bytes_of F.end ++ rest)) (length (written F cs))
    ended cs rest e = record {
      before = cs;
      rest = rest;
      came = record { text = refl; sound = fine_sound cs (and_parts (fine cs) _ e).0 };
      at = refl;
      ends = none_from _ (and_parts (fine cs) _ e).1;
    }

  -- a file that stops where it begins
  pub stopped_at_once : (bytes : List ℕ) (fault : Fault) → Faulty F (F.fault_of []) bytes fault → Stopped F bytes fault 0
  stopped_at_once bytes fault f = record { before = []; rest = bytes; came = record { text = refl; sound = tt }; at = refl; faulty = f }

-- ---- each label has a cost
abbrev pub priced : Described → Bool
priced t = every (λ l. is_some (t.cost (suc l))) t.labels

one_less : (P : ℕ → Type 0) (n : ℕ) → ((l : ℕ) → l < n → P (suc l)) → (l : ℕ) → 1 ≤ l → l ≤ n → P l
one_less P n all zero low high = absurd (omega arith)
one_less P n all (suc l) low high = all l (omega arith)

pub priced_decides : (t : Described) → Decides (priced t) (Priced t)
priced_decides t =
    Decides-like _
    (one_less (λ l. is_some (t.cost l) ≡ true) t.labels)
    (λ p l h. p (suc l) (omega arith) (omega arith))
    (every_decides t.labels (λ l. true_decides (is_some (t.cost (suc l)))))
