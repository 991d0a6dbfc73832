-- Whether a ranking is a simulation, and where it first breaks a rule, as tests.
use Rattle.std.proofs.Common.{◌≡◌, ℕ, suc, ◌<◌, Bool, true, false, not, ◌&&◌, ◌||◌, eqb, ltb, leb, List, [], ◌∷◌, Decides, inl, inr, arith}
use borrow.Author.Tests.{clash}
use Rattle.std.proofs.lemmas.Bool.{and_parts, cases_eq, not-true}
use Rattle.std.proofs.lemmas.Bool.Decides.{nat_tests, Decides-eqb, Decides-and, Decides-or, Decides-not, Decides-like, not_from_Decides}
use Rattle.task.specs.Task.{FactoredTask, move, price}
use Rattle.site.specs.SiteFile.{some}
use Rattle.site.specs.declared.refusal.Refusal.{Refusal}
use Rattle.site.specs.declared.refusal.Refusal.TheVariants.{File, Chain, Goal, Reply}
use Rattle.ranking.specs.Ranking as subject
use Rattle.ranking.specs.Ranking.{Ranking, Serves, Simulation, every}
use Rattle.ranking.specs.Verdict.{Broken, Below, turn, FirstBroken}
use Rattle.ranking.proofs.Dominating.{every_each}
use Rattle.samples.proofs.Deciding.{holds_unless, true_decides, most_decides, every_decides, some_decides, always, holds, always_decides, holds_decides}

-- ---- the order of the places
abbrev below : List ℕ → List ℕ → Bool
below [] [] = false
below [] (y ∷ ys) = false
below (x ∷ xs) [] = false
below (x ∷ xs) (y ∷ ys) = ltb x y || (eqb x y && below xs ys)

below_decides : (xs ys : List ℕ) → Decides (below xs ys) (Below xs ys)
below_decides [] [] = (λ e. absurd (clash e), λ w. absurd w)
below_decides [] (y ∷ ys) = (λ e. absurd (clash e), λ w. absurd w)
below_decides (x ∷ xs) [] = (λ e. absurd (clash e), λ w. absurd w)
below_decides (x ∷ xs) (y ∷ ys) = let d = below_decides xs ys in (λ e. grind (arith, nat_tests), λ w. grind (arith, nat_tests))

module _ (t : FactoredTask) (r : Ranking) where
  -- ---- replies
  abbrev serves : ℕ → ℕ → ℕ → Bool
  serves j k m = every (λ x. always (λ y. holds (λ z. r j y z) (move t j m x)) (move t j k x)) (t.facts j)

  serves_decides : (j k m : ℕ) → Decides (serves j k m) (Serves t r j k m)
  serves_decides j k m =
      Decides-like _
      (λ all x y h e. all x h y e)
      (λ s x h y e. s x y h e)
      (every_decides (t.facts j) (λ x. always_decides (move t j k x) (λ y. holds_decides (move t j m x) (λ z. true_decides (r j y z)))))

  -- label m replies
  abbrev reply_by : ℕ → ℕ → ℕ → ℕ → ℕ → Bool
  reply_by i k a b m =
      leb (price t m) (price t k) && (holds (λ z. r i a z) (move t i m b) && every (λ j. eqb j i || serves j k m) t.factors)

  abbrev reply : ℕ → ℕ → ℕ → ℕ → Bool
  reply i k a b = some (reply_by i k a b) (suc t.labels)

  reply_decides : (i k a b : ℕ) → Decides (reply i k a b) (subject.Reply t r i k a b)
  reply_decides i k a b =
      Decides-like _
      (λ w. let l = w.1 in let h = w.2.1.0 in record {
        label = w.0;
        into = h.0;
        known = omega arith;
        cheap = w.2.0;
        moves = h.1;
        better = h.2;
        serves = λ j jl n. elim (w.2.1.1 j jl) [ inl e ↦ absurd (n e) | inr s ↦ s ];
      })
      (λ q. let l = q.known in (
        q.label,
        omega arith,
        (q.cheap, ((q.into, q.moves, q.better), λ j jl. elim (cases_eq j i) [ inl e ↦ inl e | inr n ↦ inr (q.serves j jl n) ])),
      ))
      (some_decides (suc t.labels) (λ m.
      Decides-and _ _ (most_decides (price t m) (price t k)) (
      Decides-and _ _ (holds_decides (move t i m b) (λ z. true_decides (r i a z)))
      (every_decides t.factors (λ j. Decides-or _ _ (Decides-eqb j i) (serves_decides j k m))))))

  -- ---- faults
  abbrev inside : ℕ → ℕ → ℕ → Bool
  inside i a b = ltb i t.factors && (ltb a (t.facts i) && ltb b (t.facts i))

  -- a rule is broken where the refusal says
  abbrev pub breaks : Refusal → Bool
  breaks (File fault at) = false
  breaks (Chain i a b) = inside i a b && ((not (eqb a b) && some (λ c. r i a c && r i c b) (t.facts i)) && not (r i a b))
  breaks (Goal i a b) = inside i a b && (r i a b && (t.goal i a && not (t.goal i b)))
  breaks (Reply i a b k) = inside i a b && (leb k t.labels && (r i a b && holds (λ a'. not (reply i k a' b)) (move t i k a)))

  breaks_decides : (f : Refusal) → Decides (breaks f) (Broken t r f)
  breaks_decides (File fault at) = (λ e. absurd (clash e), λ w. absurd w)
  breaks_decides (Chain i a b) =
      let d = some_decides (t.facts i) (λ c. Decides-and _ _ (true_decides (r i a c)) (true_decides (r i c b))) in
      (λ e. grind (arith, nat_tests), λ f. grind (arith, nat_tests))
  breaks_decides (Goal i a b) = (λ e. grind (arith, nat_tests), λ f. grind (arith, nat_tests))
  breaks_decides (Reply i a b k) =
      let d = holds_decides (move t i k a) (λ a'. Decides-not _ (reply_decides i k a' b)) in
      (λ e. grind (arith, nat_tests), λ f. grind (arith, nat_tests))

  -- ---- the test p passes at each place where a rule could be broken
  abbrev pub everywhere : (Refusal → Bool) → Bool
  everywhere p =
      every (λ i. every (λ a. every (λ b.
      p (Chain i a b) && (p (Goal i a b) && every (λ k. p (Reply i a b k)) (suc t.labels))) (t.facts i)) (t.facts i)) t.factors

  module _ (p : Refusal → Bool) (e : everywhere p ≡ true) where
    at_facts : (i a b : ℕ) → i < t.factors → a < t.facts i → b < t.facts i
        → (p (Chain i a b) ≡ true) × ((p (Goal i a b) && every (λ k. p (Reply i a b k)) (suc t.labels)) ≡ true)
    at_facts i a b hi ha hb = and_parts _ _ (every_each _ _ (every_each _ _ (every_each _ _ e i hi) a ha) b hb)

    at_place : (f : Refusal) → Broken t r f → p f ≡ true
    at_place (File fault at) w = absurd w
    at_place (Chain i a b) w = (at_facts i a b w.factor w.from w.to).0
    at_place (Goal i a b) w = (and_parts _ _ (at_facts i a b w.factor w.from w.to).1).0
    at_place (Reply i a b k) w =
        let l = w.known in
        let h : k < suc t.labels = omega arith in
        every_each _ _ (and_parts _ _ (at_facts i a b w.factor w.from w.to).1).1 k h

  -- what is tested to fail at each place fails at a broken one
  fails_at : (p : Refusal → Bool) → everywhere (λ f. not (p f)) ≡ true → (f : Refusal) → Broken t r f → p f ≡ false
  fails_at p e f b = not-true (p f) (at_place (λ g. not (p g)) e f b)

  -- ---- the first fault
  -- no rule is broken before this place
  abbrev pub clear_before : Refusal → Bool
  clear_before e = everywhere (λ f. not (below (turn f) (turn e) && breaks f))

  pub first_broken : (e : Refusal) → (breaks e && clear_before e) ≡ true → FirstBroken t r e
  first_broken e h =
      let w = and_parts (breaks e) (clear_before e) h in
      record {
        broken = (breaks_decides e).0 w.0;
        first = λ f l b. not_from_Decides _
            (Decides-and _ _ (below_decides (turn f) (turn e)) (breaks_decides f))
            (fails_at (λ g. below (turn g) (turn e) && breaks g) w.1 f b)
            (l, b);
      }

  -- ---- no fault
  abbrev pub clear : Bool
  clear = everywhere (λ f. not (breaks f))

  module _ (self : (i a : ℕ) → r i a a ≡ true) (e : clear ≡ true) where
    unbroken : (f : Refusal) → Broken t r f → ⊥
    unbroken f b = not_from_Decides _ (breaks_decides f) (fails_at breaks e f b) b

    pub simulation : Simulation t r
    simulation = record {
      self = λ i a hi ha. self i a;
      chain = λ i a b c hi ha hb hc p q. let u = unbroken (Chain i a c) in let e = self i a in grind (arith, nat_tests);
      goal = λ i a b hi ha hb p g. let u = unbroken (Goal i a b) in grind arith;
      reply = λ i a b k a' hi ha hb hk p m. holds_unless (reply_decides i k a' b) (λ n. let u = unbroken (Reply i a b k) in grind arith);
    }
