-- How a file is read from command to command.
use Rattle.std.proofs.Common.{◌≡◌, ℕ, ◌+◌, ◌-◌, ◌<◌, ◌≤◌, List, [], ◌∷◌, ◌++◌, length, ◌≢◌, None, Ok, Err, Result, MatchResult, IsErrAnd, sym, refl, ap, ◌∙◌, arith}
use Rattle.std.proofs.lemmas.List.{append_assoc, length-append, nil_from_length}
use Rattle.site.specs.Files.{Format, file_limit, written, Came, Ended, Stopped, StoppedBy, Faulty, Accepted, Rejected, stopped, lacks, trailing}
use Rattle.site.specs.declared.refusal.Fault.{Fault}
use Rattle.site.specs.declared.refusal.Fault.TheVariants.{Unpriced, Trailing}
use Rattle.site.specs.declared.refusal.Refusal.{Refusal}
use Rattle.site.specs.declared.refusal.Refusal.TheVariants.{File, Chain, Goal, Reply}

-- what `map_err` answered `Ok` was `Ok`
pub ok_from_map_err : {A E D : Type 0} (Post : E → D → Type 0) (r : Result A E) (out : Result A D) (x : A)
    → MatchResult r (λ y. out ≡ Ok y) (λ e. IsErrAnd out (Post e)) → out ≡ Ok x → r ≡ Ok x
ok_from_map_err Post (Ok y) out x h e = let p = sym h ∙ e in let q : y ≡ x = cc in ap Ok q
ok_from_map_err Post (Err f) out x h e = absurd (rw e at h)

module _ {C : Type 0} (F : Format C) where
  pub came_none : (bytes : List ℕ) → Came F bytes [] bytes
  came_none bytes = record { text = refl; sound = tt }

  pub came_more : (bytes rest after : List ℕ) (before : List C) (c : C) → Came F bytes before rest
      → rest ≡ F.bytes_of c ++ after → F.fault_of before c ≡ None → (c ≡ F.end → ⊥) → Came F bytes (c ∷ before) after
  came_more bytes rest after before c h e f n = record
      { text = h.text ∙ ap (λ r. written F before ++ r) e ∙ sym (append_assoc (written F before) (F.bytes_of c) after); sound = (f, n, h.sound) }

  -- how far the commands reach
  pub came_length : (bytes rest : List ℕ) (before : List C) → Came F bytes before rest → length bytes ≡ length (written F before) + length rest
  came_length bytes rest before h = ap length h.text ∙ length-append _ _

  pub came_place : (bytes rest : List ℕ) (before : List C) → Came F bytes before rest → length bytes - length rest ≡ length (written F before)
  came_place bytes rest before h = let e = came_length bytes rest before h in omega arith

  abbrev pub came_end : (bytes rest after : List ℕ) (before : List C) → Came F bytes before rest
      → rest ≡ F.bytes_of F.end ++ after → F.fault_of before F.end ≡ None → Ended F bytes (length bytes - length rest)
  came_end bytes rest after before h e f = record {
    before = before;
    rest = after;
    came = record { text = h.text ∙ ap (λ r. written F before ++ r) e; sound = h.sound };
    at = came_place bytes rest before h;
    ends = f;
  }

  pub came_not : (bytes rest : List ℕ) (before : List C) (fault : Fault) → Came F bytes before rest
      → Faulty F (F.fault_of before) rest fault → Stopped F bytes fault (length bytes - length rest)
  came_not bytes rest before fault h f = record { before = before; rest = rest; came = h; at = came_place bytes rest before h; faulty = f }

  pub stopped_rejected : (bytes : List ℕ) (refusal : Refusal) → length bytes ≤ file_limit → StoppedBy F bytes refusal → Rejected F bytes refusal
  stopped_rejected bytes (File fault place) h s = stopped h s
  stopped_rejected bytes (Chain i a b) h s = absurd s
  stopped_rejected bytes (Goal i a b) h s = absurd s
  stopped_rejected bytes (Reply i a b l) h s = absurd s

  pub taken_less : (rest after : List ℕ) (c : C) → 0 < length (F.bytes_of c) → rest ≡ F.bytes_of c ++ after → length after < length rest
  taken_less rest after c h e = let q = ap length e ∙ length-append (F.bytes_of c) after in omega arith

  module _ {S : Type 0} (Holds : S → List C → Type 0) (bytes rest : List ℕ) (before : List C) (h : Came F bytes before rest) where
    pub taken_more : (after : List ℕ) (c : C) (s : S)
        → (rest ≡ F.bytes_of c ++ after) × ((F.fault_of before c ≡ None) × (c ≡ F.end → Holds s before) × (c ≢ F.end → Holds s (c ∷ before)))
        → c ≢ F.end → (cs : List C) × Came F bytes cs after × Holds s cs
    taken_more after c s e n = (c ∷ before, came_more bytes rest after before c h e.0 e.1.0 n, e.1.2 n)

    pub taken_end : (after : List ℕ) (c : C) (s : S)
        → (rest ≡ F.bytes_of c ++ after) × ((F.fault_of before c ≡ None) × (c ≡ F.end → Holds s before) × (c ≢ F.end → Holds s (c ∷ before)))
        → c ≡ F.end → (x : Ended F bytes (length bytes - length rest)) × Holds s x.before
    taken_end after c s e n = (came_end bytes rest after before h (rw n at e.0) (rw n at e.1.0), e.1.1 n)

  -- a file that has ended, with one byte for its end
  module _ (one : length (F.bytes_of F.end) ≡ 1) (bytes : List ℕ) (n : ℕ) (e : Ended F bytes n) where
    pub ended_length : length bytes ≡ n + 1 + length e.rest
    ended_length =
        let h = came_length bytes _ e.before e.came in
        let l = length-append (F.bytes_of F.end) e.rest in
        let a = e.at in
        omega arith

    pub ended_lacks : length bytes ≤ file_limit → (F.whole e.before → ⊥) → Rejected F bytes (File Unpriced n)
    ended_lacks h w = lacks h e w

    pub ended_trailing : length bytes ≤ file_limit → F.whole e.before → n + 1 < length bytes → Rejected F bytes (File Trailing (n + 1))
    ended_trailing h w more = let l = ended_length in trailing h e w (omega arith)

    abbrev pub ended_accepted : length bytes ≤ file_limit → F.whole e.before → length bytes ≤ n + 1 → Accepted F bytes
    ended_accepted h w all =
        let l = ended_length in
        let z : length e.rest ≡ 0 = omega arith in
        record { fits = h; place = n; ended = e; whole = w; nothing = nil_from_length e.rest z }
