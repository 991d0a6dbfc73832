-- What fine commands describe keeps to the limits.
use Rattle.std.proofs.Common.{◌≡◌, ℕ, zero, suc, ◌<◌, ◌≤◌, Bool, true, false, cond, T, ltb, ◌⊎◌, List, [], ◌∷◌, Some, None, Option, sym, refl, ap, ◌∙◌, inl, inr, arith}
use Rattle.std.proofs.lemmas.Bool.{cases_eq, cases_lt, lt-ltb, le-ltb}
use Rattle.std.proofs.lemmas.Bool.Decides.{nat_tests}
use Rattle.task.specs.Limits.{factor_limit, fact_limit, label_limit}
use Rattle.task.specs.Tables.{within}
use Rattle.task.specs.Task.{move}
use Rattle.site.specs.Changes.{put}
use Rattle.site.specs.SiteFile.{Described, nothing, adds, leads, describes, task, misplaced, outside, repeated, fault_of, site_file}
use Rattle.site.specs.Drafts.{Limited}
use Rattle.site.specs.Files.{Sound}
use Rattle.site.specs.declared.refusal.Fault.{Fault}
use Rattle.site.specs.declared.command.Command.{Command}
use Rattle.site.specs.declared.command.Command.TheVariants.{Sizes, Facts, Goal, Cost, Move, Loop, End}
use Rattle.site.proofs.Changing.{put_at, put_off}

-- no fault is none of the three
clear : (a b c : Bool) (x y z : Fault) → cond a (Some x) (cond b (Some y) (cond c (Some z) None)) ≡ None → (a ≡ false) × (b ≡ false) × (c ≡ false)
clear a b c x y z e = grind arith

pub fine : (t : Described) (c : Command) → fault_of t c ≡ None → (misplaced t c ≡ false) × (outside t c ≡ false) × (repeated t c ≡ false)
fine t c e = clear (misplaced t c) (outside t c) (repeated t c) _ _ _ e

-- where the moves of a factor and a label are given anew
led : (t : Described) (j l : ℕ) (to : ℕ → Option ℕ) (i m x : ℕ)
    → ((i ≡ j) × ((leads j l to t).moves i m x ≡ to x)) ⊎ ((leads j l to t).moves i m x ≡ t.moves i m x)
led t j l to i m x = elim (cases_eq i j) [
  | inl p ↦ elim (cases_eq m l) [
    | inl q ↦ inl (p, ap (λ (f : ℕ → ℕ → Option ℕ). f m x) (put_at j (put l to (t.moves j)) t.moves i p) ∙ ap (λ (f : ℕ → Option ℕ). f x) (put_at l to (t.moves j) m q))
    | inr ne ↦ inr (ap (λ (f : ℕ → ℕ → Option ℕ). f m x) (put_at j (put l to (t.moves j)) t.moves i p)
        ∙ ap (λ (f : ℕ → Option ℕ). f x) (put_off l to (t.moves j) m ne) ∙ ap (λ n. t.moves n m x) (sym p))
  ]
  | inr ne ↦ inr (ap (λ (f : ℕ → ℕ → Option ℕ). f m x) (put_off j (put l to (t.moves j)) t.moves i ne))
]

led_lands : (t : Described) (j l : ℕ) (to : ℕ → Option ℕ) → Limited t → ((x : ℕ) → T (within (to x) (t.facts j)))
    → (i m x : ℕ) → T (within ((leads j l to t).moves i m x) (t.facts i))
led_lands t j l to h k i m x = elim (led t j l to i m x) [
  | inl p ↦ rw (p.1, p.0) (k x)
  | inr p ↦ rw p (h.lands i m x)
]

-- an entry that leads below 0 leads nowhere
nowhere : (o : Option ℕ) (n k : ℕ) → n ≤ 0 → T (within o n) → T (within o k)
nowhere None n k h w = tt
nowhere (Some y) n k h w = absurd (omega (arith, lib.Dec.ltb→lt y n w))

leads_limited : (t : Described) (j l : ℕ) (to : ℕ → Option ℕ) → Limited t → ((x : ℕ) → T (within (to x) (t.facts j))) → Limited (leads j l to t)
leads_limited t j l to h k = record {
  few = h.few;
  coded = h.coded;
  ahead = h.ahead;
  begun = h.begun;
  small = h.small;
  blank = h.blank;
  starts = h.starts;
  lands = led_lands t j l to h k;
  costs = h.costs;
}

facts_lands : (t : Described) (j n : ℕ) → Limited t → t.declared ≤ j → (i m x : ℕ) → T (within (t.moves i m x) (put j n t.facts i))
facts_lands t j n h d i m x = elim (cases_eq i j) [
  | inl p ↦ nowhere _ (t.facts i) _ (rw p (h.blank j d)) (h.lands i m x)
  | inr ne ↦ rw (put_off j n t.facts i ne) (h.lands i m x)
]

sizes_kept : (t : Described) (n m : ℕ) → Limited t → misplaced t (Sizes n m) ≡ false → outside t (Sizes n m) ≡ false → Limited (adds (Sizes n m) t)
sizes_kept t n m h p o =
    let none : t.factors ≡ 0 = grind (arith, nat_tests) in
    let few : n ≤ factor_limit = grind (arith, nat_tests) in
    let coded : m ≤ label_limit = grind (arith, nat_tests) in
    let labelled : 0 < m = grind (arith, nat_tests) in
    let ahead = h.ahead in
    record
    { few = few; coded = coded; ahead = omega arith; begun = λ _. labelled; small = h.small; blank = h.blank; starts = h.starts; lands = h.lands; costs = h.costs }

facts_kept : (t : Described) (j n s : ℕ) → Limited t → misplaced t (Facts j n s) ≡ false → outside t (Facts j n s) ≡ false → Limited (adds (Facts j n s) t)
facts_kept t j n s h p o =
    let next : j ≡ t.declared = grind (arith, nat_tests) in
    let more : j < t.factors = grind (arith, nat_tests) in
    let small : n ≤ fact_limit = grind (arith, nat_tests) in
    let starts : s < n = grind (arith, nat_tests) in
    record {
      few = h.few;
      coded = h.coded;
      ahead = omega arith;
      begun = h.begun;
      small = λ k. elim (cases_eq k j) [
        | inl e ↦ rw (put_at j n t.facts k e) small
        | inr ne ↦ rw (put_off j n t.facts k ne) (h.small k)
      ];
      blank = λ k d. let ne : k ≡ j → ⊥ = λ e. omega arith in rw (put_off j n t.facts k ne) (h.blank k (omega arith));
      starts = λ k d. elim (cases_eq k j) [
        | inl e ↦ rw (put_at j s t.start k e, put_at j n t.facts k e) starts
        | inr ne ↦ rw (put_off j s t.start k ne, put_off j n t.facts k ne) (h.starts k (omega arith))
      ];
      lands = facts_lands t j n h (omega arith);
      costs = h.costs;
    }

move_kept : (t : Described) (j l x y : ℕ) → Limited t → outside t (Move j l x y) ≡ false → Limited (adds (Move j l x y) t)
move_kept t j l x y h o =
    let lands : ltb y (t.facts j) ≡ true = grind (arith, nat_tests) in
    leads_limited t j l _ h (λ z. elim (cases_eq z x) [
      | inl e ↦ rw (put_at x (Some y) (t.moves j l) z e, lands) tt
      | inr ne ↦ rw (put_off x (Some y) (t.moves j l) z ne) (h.lands j l z)
    ])

loop_kept : (t : Described) (j l : ℕ) → Limited t → Limited (adds (Loop j l) t)
loop_kept t j l h = leads_limited t j l _ h (λ z. elim (cases_lt z (t.facts j)) [
  | inl e ↦ let p = lt-ltb z (t.facts j) e in rw (p, p) tt
  | inr e ↦ rw (le-ltb z (t.facts j) e) (h.lands j l z)
])

cost_kept : (t : Described) (l n : ℕ) → Limited t → outside t (Cost l n) ≡ false → Limited (adds (Cost l n) t)
cost_kept t l n h o =
    let known : l ≤ t.labels = grind (arith, nat_tests) in
    let coded = h.coded in
    record {
      few = h.few;
      coded = h.coded;
      ahead = h.ahead;
      begun = h.begun;
      small = h.small;
      blank = h.blank;
      starts = h.starts;
      lands = h.lands;
      costs = λ k far. let ne : k ≡ l → ⊥ = λ e. omega arith in rw (put_off l (Some n) t.cost k ne) (h.costs k far);
    }

pub kept : (t : Described) (c : Command) → Limited t → misplaced t c ≡ false → outside t c ≡ false → Limited (adds c t)
kept t (Sizes n m) h p o = sizes_kept t n m h p o
kept t (Facts j n s) h p o = facts_kept t j n s h p o
kept t (Goal j x) h p o = record
    { few = h.few; coded = h.coded; ahead = h.ahead; begun = h.begun; small = h.small; blank = h.blank; starts = h.starts; lands = h.lands; costs = h.costs }
kept t (Cost l n) h p o = cost_kept t l n h o
kept t (Move j l x y) h p o = move_kept t j l x y h o
kept t (Loop j l) h p o = loop_kept t j l h
kept t End h p o = h

pub none_limited : Limited nothing
none_limited = record {
  few = omega arith;
  coded = omega arith;
  ahead = omega arith;
  begun = λ h. absurd (omega arith);
  small = λ _. omega arith;
  blank = λ _ _. omega arith;
  starts = λ j h. absurd (omega arith);
  lands = λ _ _ _. tt;
  costs = λ _ _. refl;
}

pub limited : (cs : List Command) → Sound site_file cs → Limited (describes cs)
limited [] s = none_limited
limited (c ∷ cs) s = let f = fine (describes cs) c s.0 in kept (describes cs) c (limited cs s.2) f.0 f.1

-- what is described leads from facts to facts
pub moves_land : (cs : List Command) → Sound site_file cs → (j l x y : ℕ) → x < (describes cs).facts j → move (task (describes cs)) j l x ≡ Some y → y < (describes cs).facts j
moves_land cs s j zero x y h e = let q : x ≡ y = cc in omega arith
moves_land cs s j (suc l) x y h e = let w : T (ltb y ((describes cs).facts j)) = rw e at ((limited cs s).lands j (suc l) x) in lib.Dec.ltb→lt _ _ w
