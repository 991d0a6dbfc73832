-- What fine commands describe is what they say.
use Rattle.std.proofs.Common.{◌≡◌, ℕ, ◌<◌, ◌≤◌, Bool, true, false, ◌⊎◌, List, [], ◌∷◌, is_some as option_is_some, Some, None, Decides, Option, unwrap_or, sym, refl, ap, ◌∙◌, subst, inl, inr, arith}
use Rattle.std.proofs.lemmas.Bool.{cases_eq, cases_lt, both_ways, false≢true}
use Rattle.std.proofs.lemmas.Bool.Decides.{nat_tests}
use Rattle.site.specs.Files.{Among, Sound}
use Rattle.site.specs.Saying.{Moved, Says}
use Rattle.site.specs.Changes.{put}
use Rattle.site.specs.SiteFile.{Described, adds, describes, task, early, misplaced, repeated, fault_of, site_file, Priced}
use Rattle.site.specs.declared.command.Command.{Command}
use Rattle.site.specs.declared.command.Command.TheVariants.{Sizes, Facts, Goal, Cost, Move, Loop, End}
use Rattle.site.proofs.Changing.{put_at, put_off}
use Rattle.site.proofs.Drafting.{some_at}
use Rattle.site.proofs.Limiting.{fine}

-- commands of two kinds are not the same
abbrev kind : Command → ℕ
kind (Sizes n m) = 0
kind (Facts j n s) = 1
kind (Goal j x) = 2
kind (Cost l n) = 3
kind (Move j l x y) = 4
kind (Loop j l) = 5
kind End = 6

apart : (c d : Command) → (kind c ≡ kind d → ⊥) → c ≡ d → ⊥
apart c d n e = n (ap kind e)

-- a command that is not the one that is sought
skip : (c d : Command) (cs : List Command) (b : Bool) → (c ≡ d → ⊥) → Decides b (Among d cs) → Decides b (Among d (c ∷ cs))
skip c d cs b n h = (λ e. inr (h.0 e), λ w. elim w [ inl q ↦ absurd (n q) | inr q ↦ h.1 q ])

goal_at : (t : Described) (i z j x : ℕ)
    → ((j ≡ i) × (x ≡ z) × ((adds (Goal i z) t).goal j x ≡ true)) ⊎ (((j ≡ i) × (x ≡ z) → ⊥) × ((adds (Goal i z) t).goal j x ≡ t.goal j x))
goal_at t i z j x = elim (cases_eq j i) [
  | inl p ↦ elim (cases_eq x z) [
    | inl q ↦ inl (p, q, grind (arith, nat_tests))
    | inr n ↦ inr (λ w. n w.1, grind (arith, nat_tests))
  ]
  | inr n ↦ inr (λ w. n w.0, grind (arith, nat_tests))
]

goal_more : (t : Described) (cs : List Command) (i z j x : ℕ) → Decides (t.goal j x) (Among (Goal j x) cs)
    → Decides ((adds (Goal i z) t).goal j x) (Among (Goal j x) (Goal i z ∷ cs))
goal_more t cs i z j x h = elim (goal_at t i z j x) [
  | inl p ↦ let s : Goal i z ≡ Goal j x = let u = p.0 in let v = p.1 in cc in (λ _. inl s, λ _. p.2)
  | inr p ↦ (
    λ e. inr (h.0 (sym p.1 ∙ e)),
    λ w. p.1 ∙ h.1 (elim w [ inl q ↦ absurd (p.0 (let u : j ≡ i = cc in let v : x ≡ z = cc in (u, v))) | inr q ↦ q ]),
  )
]

goal_told : (cs : List Command) → (j x : ℕ) → Decides ((describes cs).goal j x) (Among (Goal j x) cs)
goal_told [] j x = (λ e. absurd (false≢true e), λ w. absurd w)
goal_told (Sizes n m ∷ cs) j x = skip (Sizes n m) (Goal j x) cs _ (apart (Sizes n m) (Goal j x) (λ e. omega arith)) (goal_told cs j x)
goal_told (Facts i n s ∷ cs) j x = skip (Facts i n s) (Goal j x) cs _ (apart (Facts i n s) (Goal j x) (λ e. omega arith)) (goal_told cs j x)
goal_told (Goal i z ∷ cs) j x = goal_more (describes cs) cs i z j x (goal_told cs j x)
goal_told (Cost l n ∷ cs) j x = skip (Cost l n) (Goal j x) cs _ (apart (Cost l n) (Goal j x) (λ e. omega arith)) (goal_told cs j x)
goal_told (Move i l z y ∷ cs) j x = skip (Move i l z y) (Goal j x) cs _ (apart (Move i l z y) (Goal j x) (λ e. omega arith)) (goal_told cs j x)
goal_told (Loop i l ∷ cs) j x = skip (Loop i l) (Goal j x) cs _ (apart (Loop i l) (Goal j x) (λ e. omega arith)) (goal_told cs j x)
goal_told (End ∷ cs) j x = skip End (Goal j x) cs _ (apart End (Goal j x) (λ e. omega arith)) (goal_told cs j x)

sizes_told : (cs : List Command) → 0 < (describes cs).factors → Among (Sizes (describes cs).factors (describes cs).labels) cs
sizes_told [] h = absurd (omega arith)
sizes_told (Sizes n m ∷ cs) h = inl refl
sizes_told (Facts i n s ∷ cs) h = inr (sizes_told cs h)
sizes_told (Goal i z ∷ cs) h = inr (sizes_told cs h)
sizes_told (Cost l n ∷ cs) h = inr (sizes_told cs h)
sizes_told (Move i l z y ∷ cs) h = inr (sizes_told cs h)
sizes_told (Loop i l ∷ cs) h = inr (sizes_told cs h)
sizes_told (End ∷ cs) h = inr (sizes_told cs h)

cost_told : (cs : List Command) (l v : ℕ) → (describes cs).cost l ≡ Some v → Among (Cost l v) cs
cost_told [] l v e = let z : ◌≡◌ {A = ℕ} 0 1 = cc in absurd (omega arith)
cost_told (Sizes n m ∷ cs) l v e = inr (cost_told cs l v e)
cost_told (Facts i n s ∷ cs) l v e = inr (cost_told cs l v e)
cost_told (Goal i z ∷ cs) l v e = inr (cost_told cs l v e)
cost_told (Cost k n ∷ cs) l v e = elim (cases_eq l k) [
  | inl p ↦ inl (let q : Some n ≡ Some v = sym (put_at k (Some n) (describes cs).cost l p) ∙ e in cc)
  | inr ne ↦ inr (cost_told cs l v (sym (put_off k (Some n) (describes cs).cost l ne) ∙ e))
]
cost_told (Move i k z y ∷ cs) l v e = inr (cost_told cs l v e)
cost_told (Loop i k ∷ cs) l v e = inr (cost_told cs l v e)
cost_told (End ∷ cs) l v e = inr (cost_told cs l v e)

placed : (t : Described) (i n x : ℕ) → misplaced t (Facts i n x) ≡ false → (i ≡ t.declared) × (i < t.factors)
placed t i n x f = (grind (arith, nat_tests), grind (arith, nat_tests))

facts_off : (t : Described) (cs : List Command) (i n x j : ℕ) → (j ≡ i → ⊥) → Among (Facts j (t.facts j) (t.start j)) cs
    → Among (Facts j (put i n t.facts j) (put i x t.start j)) cs
facts_off t cs i n x j ne h =
    subst (λ a. Among (Facts j a (put i x t.start j)) cs) (sym (put_off i n t.facts j ne))
    (subst (λ b. Among (Facts j (t.facts j) b) cs) (sym (put_off i x t.start j ne)) h)

facts_told : (cs : List Command) → Sound site_file cs → (j : ℕ) → j < (describes cs).declared → Among (Facts j ((describes cs).facts j) ((describes cs).start j)) cs
facts_told [] s j h = absurd (omega arith)
facts_told (Sizes n m ∷ cs) s j h = inr (facts_told cs s.2 j h)
facts_told (Facts i n x ∷ cs) s j h = elim (cases_eq j i) [
  | inl p ↦ inl (let a = put_at i n (describes cs).facts j p in let b = put_at i x (describes cs).start j p in cc)
  | inr ne ↦ inr (facts_off (describes cs) cs i n x j ne
      (facts_told cs s.2 j (let f = placed (describes cs) i n x (fine (describes cs) (Facts i n x) s.0).0 in omega arith)))
]
facts_told (Goal i z ∷ cs) s j h = inr (facts_told cs s.2 j h)
facts_told (Cost l n ∷ cs) s j h = inr (facts_told cs s.2 j h)
facts_told (Move i l z y ∷ cs) s j h = inr (facts_told cs s.2 j h)
facts_told (Loop i l ∷ cs) s j h = inr (facts_told cs s.2 j h)
facts_told (End ∷ cs) s j h = inr (facts_told cs s.2 j h)

-- no facts are given after a self-loop
complete : (t : Described) → early t ≡ false → (0 < t.factors) × (t.factors ≤ t.declared)
complete t e = (grind (arith, nat_tests), grind (arith, nat_tests))

begun : (t : Described) (n m : ℕ) → misplaced t (Sizes n m) ≡ false → t.factors ≡ 0
begun t n m e = grind (arith, nat_tests)

late : (cs : List Command) → Sound site_file cs → (j l : ℕ) → Among (Loop j l) cs → (0 < (describes cs).factors) × ((describes cs).factors ≤ (describes cs).declared)
late [] s j l w = absurd w
late (Sizes n m ∷ cs) s j l w = elim w [
  | inl q ↦ absurd (apart (Sizes n m) (Loop j l) (λ e. omega arith) q)
  | inr q ↦ absurd (let h = late cs s.2 j l q in let z = begun (describes cs) n m (fine (describes cs) (Sizes n m) s.0).0 in omega arith)
]
late (Facts i n x ∷ cs) s j l w = elim w [
  | inl q ↦ absurd (apart (Facts i n x) (Loop j l) (λ e. omega arith) q)
  | inr q ↦ absurd (let h = late cs s.2 j l q in let z = placed (describes cs) i n x (fine (describes cs) (Facts i n x) s.0).0 in omega arith)
]
late (Goal i z ∷ cs) s j l w = elim w [ inl q ↦ absurd (apart (Goal i z) (Loop j l) (λ e. omega arith) q) | inr q ↦ late cs s.2 j l q ]
late (Cost k n ∷ cs) s j l w = elim w [ inl q ↦ absurd (apart (Cost k n) (Loop j l) (λ e. omega arith) q) | inr q ↦ late cs s.2 j l q ]
late (Move i k z y ∷ cs) s j l w = elim w [ inl q ↦ absurd (apart (Move i k z y) (Loop j l) (λ e. omega arith) q) | inr q ↦ late cs s.2 j l q ]
late (Loop i k ∷ cs) s j l w = complete (describes cs) (fine (describes cs) (Loop i k) s.0).0
late (End ∷ cs) s j l w = elim w [ inl q ↦ absurd (apart End (Loop j l) (λ e. omega arith) q) | inr q ↦ late cs s.2 j l q ]

no_loop : (cs : List Command) (i n x : ℕ) → Sound site_file (Facts i n x ∷ cs) → (j l : ℕ) → Among (Loop j l) cs → ⊥
no_loop cs i n x s j l q =
    let h = late cs s.2 j l q in
    let z = placed (describes cs) i n x (fine (describes cs) (Facts i n x) s.0).0 in
    omega arith

-- a move by the command in front, or by one behind it
lift : (c : Command) (cs : List Command) (f j l x y : ℕ) → Moved cs f j l x y → Moved (c ∷ cs) f j l x y
lift c cs f j l x y w = elim w [ inl q ↦ inl (inr q) | inr q ↦ inr (inr q.0, q.1, q.2) ]

split : (c : Command) (cs : List Command) (f j l x y : ℕ) → Moved (c ∷ cs) f j l x y
    → ((c ≡ Move j l x y) ⊎ ((c ≡ Loop j l) × (x < f) × (y ≡ x))) ⊎ Moved cs f j l x y
split c cs f j l x y w = elim w [
  | inl q ↦ elim q [ inl e ↦ inl (inl e) | inr e ↦ inr (inl e) ]
  | inr q ↦ elim q.0 [ inl e ↦ inl (inr (e, q.1, q.2)) | inr e ↦ inr (inr (e, q.1, q.2)) ]
]

other : (c : Command) (cs : List Command) (f j l x y : ℕ) → (kind c ≡ 4 → ⊥) → (kind c ≡ 5 → ⊥) → Moved (c ∷ cs) f j l x y → Moved cs f j l x y
other c cs f j l x y a b w = elim (split c cs f j l x y w) [
  | inl v ↦ elim v [ inl e ↦ absurd (a (ap kind e)) | inr e ↦ absurd (b (ap kind e.0)) ]
  | inr v ↦ v
]

move_at : (t : Described) (i m z w j l x : ℕ)
    → ((j ≡ i) × (l ≡ m) × (x ≡ z) × ((adds (Move i m z w) t).moves j l x ≡ Some w))
    ⊎ (((j ≡ i) × (l ≡ m) × (x ≡ z) → ⊥) × ((adds (Move i m z w) t).moves j l x ≡ t.moves j l x))
move_at t i m z w j l x = elim (cases_eq j i) [
  | inl p ↦ elim (cases_eq l m) [
    | inl q ↦ elim (cases_eq x z) [
      | inl s ↦ inl (p, q, s, grind (arith, nat_tests))
      | inr n ↦ inr (λ v. n v.2, grind (arith, nat_tests))
    ]
    | inr n ↦ inr (λ v. n v.1, grind (arith, nat_tests))
  ]
  | inr n ↦ inr (λ v. n v.0, grind (arith, nat_tests))
]

loop_at : (t : Described) (i m j l x : ℕ)
    → ((j ≡ i) × (l ≡ m) × (x < t.facts i) × ((adds (Loop i m) t).moves j l x ≡ Some x))
    ⊎ (((j ≡ i) × (l ≡ m) × (x < t.facts i) → ⊥) × ((adds (Loop i m) t).moves j l x ≡ t.moves j l x))
loop_at t i m j l x = elim (cases_eq j i) [
  | inl p ↦ elim (cases_eq l m) [
    | inl q ↦ elim (cases_lt x (t.facts i)) [
      | inl s ↦ inl (p, q, s, grind (arith, nat_tests))
      | inr n ↦ inr (λ v. omega (arith, v.2), grind (arith, nat_tests))
    ]
    | inr n ↦ inr (λ v. n v.1, grind (arith, nat_tests))
  ]
  | inr n ↦ inr (λ v. n v.0, grind (arith, nat_tests))
]

-- what is there stays, since nothing is given twice
move_stays : (t : Described) (i m z w j l x y : ℕ) → repeated t (Move i m z w) ≡ false → t.moves j l x ≡ Some y → (adds (Move i m z w) t).moves j l x ≡ Some y
move_stays t i m z w j l x y r e = elim (move_at t i m z w j l x) [
  | inl p ↦ absurd (both_ways (option_is_some (t.moves i m z)) r (ap option_is_some (let a = p.0 in let b = p.1 in let c = p.2 in let d : t.moves i m z ≡ Some y = cc in d)))
  | inr p ↦ p.1 ∙ e
]

loop_stays : (t : Described) (i m j l x y : ℕ) → repeated t (Loop i m) ≡ false → t.moves j l x ≡ Some y → (adds (Loop i m) t).moves j l x ≡ Some y
loop_stays t i m j l x y r e = elim (loop_at t i m j l x) [
  | inl p ↦ absurd (both_ways _ r (some_at (λ n. option_is_some (t.moves i m n)) (t.facts i) x p.2
      (ap option_is_some (let a = p.0 in let b = p.1 in let d : t.moves i m x ≡ Some y = cc in d))))
  | inr p ↦ p.1 ∙ e
]

moves_out : (cs : List Command) → Sound site_file cs → (j l x y : ℕ) → (describes cs).moves j l x ≡ Some y → Moved cs ((describes cs).facts j) j l x y
moves_out [] s j l x y e = let z : ◌≡◌ {A = ℕ} 0 1 = cc in absurd (omega arith)
moves_out (Sizes n m ∷ cs) s j l x y e = lift (Sizes n m) cs _ j l x y (moves_out cs s.2 j l x y e)
moves_out (Facts i n k ∷ cs) s j l x y e = elim (moves_out cs s.2 j l x y e) [
  | inl q ↦ inl (inr q)
  | inr q ↦ absurd (no_loop cs i n k s j l q.0)
]
moves_out (Goal i z ∷ cs) s j l x y e = lift (Goal i z) cs _ j l x y (moves_out cs s.2 j l x y e)
moves_out (Cost k n ∷ cs) s j l x y e = lift (Cost k n) cs _ j l x y (moves_out cs s.2 j l x y e)
moves_out (Move i m z w ∷ cs) s j l x y e = elim (move_at (describes cs) i m z w j l x) [
  | inl p ↦ inl (inl (let a = p.0 in let b = p.1 in let c = p.2 in let d : Some w ≡ Some y = sym p.3 ∙ e in cc))
  | inr p ↦ lift (Move i m z w) cs _ j l x y (moves_out cs s.2 j l x y (sym p.1 ∙ e))
]
moves_out (Loop i m ∷ cs) s j l x y e = elim (loop_at (describes cs) i m j l x) [
  | inl p ↦ inr (
    inl (let a = p.0 in let b = p.1 in cc),
    (let a = p.0 in rw a p.2),
    (let d : Some x ≡ Some y = sym p.3 ∙ e in cc),
  )
  | inr p ↦ lift (Loop i m) cs _ j l x y (moves_out cs s.2 j l x y (sym p.1 ∙ e))
]
moves_out (End ∷ cs) s j l x y e = lift End cs _ j l x y (moves_out cs s.2 j l x y e)

moves_in : (cs : List Command) → Sound site_file cs → (j l x y : ℕ) → Moved cs ((describes cs).facts j) j l x y → (describes cs).moves j l x ≡ Some y
moves_in [] s j l x y w = absurd (elim w [ inl q ↦ q | inr q ↦ q.0 ])
moves_in (Sizes n m ∷ cs) s j l x y w = moves_in cs s.2 j l x y (other (Sizes n m) cs _ j l x y (λ e. omega arith) (λ e. omega arith) w)
moves_in (Facts i n k ∷ cs) s j l x y w = moves_in cs s.2 j l x y
    (elim (other (Facts i n k) cs _ j l x y (λ e. omega arith) (λ e. omega arith) w) [
      | inl q ↦ inl q
      | inr q ↦ absurd (no_loop cs i n k s j l q.0)
    ])
moves_in (Goal i z ∷ cs) s j l x y w = moves_in cs s.2 j l x y (other (Goal i z) cs _ j l x y (λ e. omega arith) (λ e. omega arith) w)
moves_in (Cost k n ∷ cs) s j l x y w = moves_in cs s.2 j l x y (other (Cost k n) cs _ j l x y (λ e. omega arith) (λ e. omega arith) w)
moves_in (Move i m z u ∷ cs) s j l x y w = elim (split (Move i m z u) cs _ j l x y w) [
  | inl v ↦ elim v [
    | inl e ↦ elim (move_at (describes cs) i m z u j l x) [
      | inl p ↦ p.3 ∙ (let d : u ≡ y = cc in ap (λ n. Some n) d)
      | inr p ↦ absurd (p.0 (let a : j ≡ i = cc in let b : l ≡ m = cc in let c : x ≡ z = cc in (a, b, c)))
    ]
    | inr e ↦ absurd (apart (Move i m z u) (Loop j l) (λ e. omega arith) e.0)
  ]
  | inr v ↦ move_stays (describes cs) i m z u j l x y (fine (describes cs) (Move i m z u) s.0).2 (moves_in cs s.2 j l x y v)
]
moves_in (Loop i m ∷ cs) s j l x y w = elim (split (Loop i m) cs _ j l x y w) [
  | inl v ↦ elim v [
    | inl e ↦ absurd (apart (Loop i m) (Move j l x y) (λ e. omega arith) e)
    | inr e ↦ elim (loop_at (describes cs) i m j l x) [
      | inl p ↦ p.3 ∙ ap (λ n. Some n) (sym e.2)
      | inr p ↦ absurd (p.0 (let q = e.0 in let a : j ≡ i = cc in let b : l ≡ m = cc in (a, b, rw (sym a) e.1)))
    ]
  ]
  | inr v ↦ loop_stays (describes cs) i m j l x y (fine (describes cs) (Loop i m) s.0).2 (moves_in cs s.2 j l x y v)
]
moves_in (End ∷ cs) s j l x y w = moves_in cs s.2 j l x y (other End cs _ j l x y (λ e. omega arith) (λ e. omega arith) w)

-- a cost that is there
value : (o : Option ℕ) → option_is_some o ≡ true → o ≡ Some (unwrap_or o 0)
value None e = absurd (false≢true e)
value (Some v) e = refl

pub says : (cs : List Command) → Sound site_file cs → fault_of (describes cs) End ≡ None → Priced (describes cs) → Says cs (task (describes cs))
says cs s e p =
    let c = complete (describes cs) (fine (describes cs) End e).0 in
    record {
      sizes = sizes_told cs c.0;
      facts = λ j h. facts_told cs s j (omega arith);
      goal = goal_told cs;
      cost = λ l a b. cost_told cs l _ (value ((describes cs).cost l) (p l a b));
      moved = moves_out cs s;
      moves = moves_in cs s;
    }
