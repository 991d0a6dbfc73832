-- A file of commands that are read in one way is judged in one way.
use Rattle.std.proofs.Common.{◌≡◌, ℕ, ◌+◌, ◌*◌, ◌/◌, ◌%◌, ◌≤◌, cond, eqb, List, [], ◌∷◌, ◌++◌, length, get_or, drop, Some, None, Option, sym, refl, ap, ◌∙◌, subst, inl, inr, arith}
use Rattle.std.proofs.lemmas.List.{append_assoc}
use Rattle.std.proofs.lemmas.Bool.{cond-false, le-ltb}
use Rattle.site.specs.Files.{Format, lacking, unreadable, written, Came, Faulty, Stopped, Ended, Accepted, Rejected, long, stopped, lacks, trailing}
use Rattle.site.specs.SiteFile.{bytes_of, operands, site_file}
use Rattle.site.specs.declared.command.Command.{Command}
use Rattle.site.specs.declared.command.Command.TheVariants.{Sizes, Facts, Goal, Cost, Move, Loop, End}
use Rattle.site.specs.declared.refusal.Fault.{Fault}
use Rattle.site.specs.declared.refusal.Fault.TheVariants.{Unpriced, Trailing}
use Rattle.site.specs.declared.refusal.Refusal.{Refusal}
use Rattle.site.specs.declared.refusal.Refusal.TheVariants.{File}

-- the commands of a format are read in one way
pub record OneWay {C : Type 0} (F : Format C) : Type 0 where
  pub same : (c d : C) (x y : List ℕ) → F.bytes_of c ++ x ≡ F.bytes_of d ++ y → (c ≡ d) × (x ≡ y)
  pub readable : (c : C) (x : List ℕ) (fault : Fault) → unreadable F.operands (F.bytes_of c ++ x) ≡ Some fault → ⊥

none_some : {o : Option Fault} {fault : Fault} → o ≡ None → o ≡ Some fault → ⊥
none_some p q = let z : ◌≡◌ {A = ℕ} 0 1 = cc in omega arith

some_same : {o : Option Fault} {f g : Fault} → o ≡ Some f → o ≡ Some g → f ≡ g
some_same p q = cc

module _ {C : Type 0} (F : Format C) (way : OneWay F) where
  -- from the commands so far and the bytes that come then, fine commands lead to these commands and bytes
  data Leads (to : List C) (last : List ℕ) : List C → List ℕ → Type 0 where
    here : Leads to last to last
    on : {so : List C} {bytes after : List ℕ} (c : C) → bytes ≡ F.bytes_of c ++ after → F.fault_of so c ≡ None → (c ≡ F.end → ⊥)
        → Leads to last (c ∷ so) after → Leads to last so bytes

  -- no fine command goes on from here
  abbrev Halts : List C → List ℕ → Type 0
  Halts so bytes = (c : C) (after : List ℕ) → bytes ≡ F.bytes_of c ++ after → F.fault_of so c ≡ None → (c ≡ F.end → ⊥) → ⊥

  -- what leads on from where the commands came to leads there from the start
  came_leads : (bytes rest last : List ℕ) (so to : List C) → Came F bytes so rest → Leads to last so rest → Leads to last [] bytes
  came_leads bytes rest last [] to h w = subst (λ b. Leads to last [] b) (sym h.text) w
  came_leads bytes rest last (c ∷ so) to h w =
      came_leads bytes (F.bytes_of c ++ rest) last so to
      (record { text = h.text ∙ append_assoc (written F so) (F.bytes_of c) rest; sound = h.sound.2 }) (on c refl h.sound.0 h.sound.1 w)

  leads_once : (to to' : List C) (last last' : List ℕ) (so : List C) (bytes : List ℕ) → Leads to last so bytes → Leads to' last' so bytes
      → Halts to last → Halts to' last' → (to ≡ to') × (last ≡ last')
  leads_once to to' last last' so bytes here here h k = (refl, refl)
  leads_once to to' last last' so bytes here (on c e f n w) h k = absurd (h c _ e f n)
  leads_once to to' last last' so bytes (on c e f n w) here h k = absurd (k c _ e f n)
  leads_once to to' last last' so bytes (on {after = a} c e f n w) (on {after = b} d e' f' n' w') h k =
      let s = way.same c d a b (sym e ∙ e') in
      let v = subst (λ x. Leads to' last' (d ∷ so) x) (sym s.1) w' in
      leads_once to to' last last' (c ∷ so) a w (subst (λ x. Leads to' last' (x ∷ so) a) (sym s.0) v) h k

  -- a file halts at one place
  came_once : (bytes rest rest' : List ℕ) (so so' : List C) → Came F bytes so rest → Came F bytes so' rest'
      → Halts so rest → Halts so' rest' → (so ≡ so') × (rest ≡ rest')
  came_once bytes rest rest' so so' h k =
      leads_once so so' rest rest' [] bytes (came_leads bytes rest rest so so h here) (came_leads bytes rest' rest' so' so' k here)

  -- where a command stands in front, the fault is its own
  own : (judge : C → Option Fault) (c : C) (x rest : List ℕ) (fault : Fault) → rest ≡ F.bytes_of c ++ x → Faulty F judge rest fault → judge c ≡ Some fault
  own judge c x rest fault e w = elim w [
    | inl u ↦ absurd (way.readable c x fault (ap (λ b. unreadable F.operands b) (sym e) ∙ u))
    | inr v ↦ ap judge (way.same c v.0 x v.1 (sym e ∙ v.2)).0 ∙ v.3
  ]

  faulty_once : (judge : C → Option Fault) (rest : List ℕ) (f g : Fault) → Faulty F judge rest f → Faulty F judge rest g → f ≡ g
  faulty_once judge rest f g (inl u) (inl v) = some_same u v
  faulty_once judge rest f g (inl u) (inr v) = some_same (own judge v.0 v.1 rest f v.2 (inl u)) v.3
  faulty_once judge rest f g (inr u) w = some_same u.3 (own judge u.0 u.1 rest g u.2 w)

  faulty_halts : (so : List C) (rest : List ℕ) (fault : Fault) → Faulty F (F.fault_of so) rest fault → Halts so rest
  faulty_halts so rest fault w c after e f n = none_some f (own (F.fault_of so) c after rest fault e w)

  end_halts : (so : List C) (rest : List ℕ) → Halts so (F.bytes_of F.end ++ rest)
  end_halts so rest c after e f n = n (sym (way.same F.end c rest after e).0)

  module _ (bytes : List ℕ) where
    stopped_once : (f g : Fault) (m n : ℕ) → Stopped F bytes f m → Stopped F bytes g n → File f m ≡ File g n
    stopped_once f g m n s u =
        let h = came_once bytes s.rest u.rest s.before u.before s.came u.came
        (faulty_halts s.before s.rest f s.faulty) (faulty_halts u.before u.rest g u.faulty) in
        let w = subst (λ so. Faulty F (F.fault_of so) u.rest g) (sym h.0) u.faulty in
        let p = faulty_once (F.fault_of s.before) s.rest f g s.faulty (subst (λ r. Faulty F (F.fault_of s.before) r g) (sym h.1) w) in
        let q : m ≡ n = s.at ∙ ap (λ so. length (written F so)) h.0 ∙ sym u.at in
        cc

    ended_stopped : (m n : ℕ) (fault : Fault) → Ended F bytes m → Stopped F bytes fault n → ⊥
    ended_stopped m n fault e s =
        let h = came_once bytes (F.bytes_of F.end ++ e.rest) s.rest e.before s.before e.came s.came
        (end_halts e.before e.rest) (faulty_halts s.before s.rest fault s.faulty) in
        let f = own (F.fault_of s.before) F.end e.rest s.rest fault (sym h.1) s.faulty in
        none_some e.ends (ap (λ so. F.fault_of so F.end) h.0 ∙ f)

    ended_once : (m n : ℕ) (e : Ended F bytes m) (f : Ended F bytes n) → (e.before ≡ f.before) × (e.rest ≡ f.rest) × (m ≡ n)
    ended_once m n e f =
        let h = came_once bytes (F.bytes_of F.end ++ e.rest) (F.bytes_of F.end ++ f.rest) e.before f.before e.came f.came
        (end_halts e.before e.rest) (end_halts f.before f.rest) in
        (h.0, (way.same F.end F.end e.rest f.rest h.1).1, e.at ∙ ap (λ so. length (written F so)) h.0 ∙ sym f.at)

    -- where one end lacks nothing, the other lacks nothing
    ended_whole : (m n : ℕ) (e : Ended F bytes m) (f : Ended F bytes n) → F.whole e.before → F.whole f.before
    ended_whole m n e f w = subst F.whole (ended_once m n e f).0 w

    -- a file is refused for one reason
    pub rejected_once : (e f : Refusal) → Rejected F bytes e → Rejected F bytes f → e ≡ f
    rejected_once e f (long h) (long k) = refl
    rejected_once e f (long h) (stopped k s) = absurd (omega arith)
    rejected_once e f (long h) (lacks k u w) = absurd (omega arith)
    rejected_once e f (long h) (trailing k u w m) = absurd (omega arith)
    rejected_once e f (stopped h s) (long k) = absurd (omega arith)
    rejected_once e f (stopped h s) (stopped k u) = stopped_once _ _ _ _ s u
    rejected_once e f (stopped h s) (lacks k u w) = absurd (ended_stopped _ _ _ u s)
    rejected_once e f (stopped h s) (trailing k u w m) = absurd (ended_stopped _ _ _ u s)
    rejected_once e f (lacks h s v) (long k) = absurd (omega arith)
    rejected_once e f (lacks h s v) (stopped k u) = absurd (ended_stopped _ _ _ s u)
    rejected_once e f (lacks h s v) (lacks k u w) = ap (λ n. File Unpriced n) (ended_once _ _ s u).2
    rejected_once e f (lacks h s v) (trailing k u w m) = absurd (v (ended_whole _ _ u s w))
    rejected_once e f (trailing h s v l) (long k) = absurd (omega arith)
    rejected_once e f (trailing h s v l) (stopped k u) = absurd (ended_stopped _ _ _ s u)
    rejected_once e f (trailing h s v l) (lacks k u w) = absurd (w (ended_whole _ _ s u v))
    rejected_once e f (trailing h s v l) (trailing k u w m) = ap (λ n. File Trailing (n + 1)) (ended_once _ _ s u).2

    -- a file that is accepted is not refused
    pub accepted_rejected : (e : Refusal) → Accepted F bytes → Rejected F bytes e → ⊥
    accepted_rejected e a (long k) = let h = a.fits in omega arith
    accepted_rejected e a (stopped k s) = ended_stopped _ _ _ a.ended s
    accepted_rejected e a (lacks k u w) = w (ended_whole _ _ a.ended u a.whole)
    accepted_rejected e a (trailing k u w m) =
        let q : length u.rest ≡ 0 = ap length (sym (ended_once _ _ a.ended u).1 ∙ a.nothing) in omega arith

    -- a file that is accepted has these commands and no others
    pub accepted_once : (a b : Accepted F bytes) → a.ended.before ≡ b.ended.before
    accepted_once a b = (ended_once a.place b.place a.ended b.ended).0

-- commands that can be read off their bytes are read in one way
pub same_read : {C : Type 0} (F : Format C) (reads : List ℕ → C × List ℕ) → ((c : C) (x : List ℕ) → reads (F.bytes_of c ++ x) ≡ (c, x))
    → (c d : C) (x y : List ℕ) → F.bytes_of c ++ x ≡ F.bytes_of d ++ y → (c ≡ d) × (x ≡ y)
same_read F reads back c d x y e = let p : (c, x) ≡ (d, y) = sym (back c x) ∙ ap reads e ∙ back d y in (ap (λ q. q.0) p, ap (λ q. q.1) p)

-- where a letter has its operands, nothing is lacking
pub enough : (n : ℕ) (more : List ℕ) (fault : Fault) → n ≤ length more → lacking (Some n) more ≡ Some fault → ⊥
enough n more fault h e = none_some (cond-false _ _ _ (le-ltb (length more) n h)) e

-- ---- the site file
-- the command in front of some bytes, and the bytes after it
abbrev reads : List ℕ → Command × List ℕ
reads xs =
    cond (eqb (get_or xs 0 0) 84) (Sizes (get_or xs 1 0) (get_or xs 2 0), drop 3 xs)
    (cond (eqb (get_or xs 0 0) 70) (Facts (get_or xs 1 0) (get_or xs 2 0) (get_or xs 3 0), drop 4 xs)
    (cond (eqb (get_or xs 0 0) 71) (Goal (get_or xs 1 0) (get_or xs 2 0), drop 3 xs)
    (cond (eqb (get_or xs 0 0) 67) (Cost (get_or xs 1 0) (get_or xs 2 0 * 256 + get_or xs 3 0), drop 4 xs)
    (cond (eqb (get_or xs 0 0) 77) (Move (get_or xs 1 0) (get_or xs 2 0) (get_or xs 3 0) (get_or xs 4 0), drop 5 xs)
    (cond (eqb (get_or xs 0 0) 83) (Loop (get_or xs 1 0) (get_or xs 2 0), drop 3 xs) (End, drop 1 xs))))))

back : (c : Command) (x : List ℕ) → reads (bytes_of c ++ x) ≡ (c, x)
back (Sizes n m) x = refl
back (Facts j n s) x = refl
back (Goal j y) x = refl
back (Cost l n) x = let e : n / 256 * 256 + n % 256 ≡ n = omega arith in ap (λ v. (Cost l v, x)) e
back (Move j l y z) x = refl
back (Loop j l) x = refl
back End x = refl

readable : (c : Command) (x : List ℕ) (fault : Fault) → unreadable operands (bytes_of c ++ x) ≡ Some fault → ⊥
readable (Sizes n m) x fault = enough 2 (n ∷ m ∷ x) fault (omega arith)
readable (Facts j n s) x fault = enough 3 (j ∷ n ∷ s ∷ x) fault (omega arith)
readable (Goal j y) x fault = enough 2 (j ∷ y ∷ x) fault (omega arith)
readable (Cost l n) x fault = enough 3 (l ∷ n / 256 ∷ n % 256 ∷ x) fault (omega arith)
readable (Move j l y z) x fault = enough 4 (j ∷ l ∷ y ∷ z ∷ x) fault (omega arith)
readable (Loop j l) x fault = enough 2 (j ∷ l ∷ x) fault (omega arith)
readable End x fault = enough 0 x fault (omega arith)

pub site_way : OneWay site_file
site_way = record { same = same_read site_file reads back; readable = readable }
