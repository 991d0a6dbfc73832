-- A ranking file is fit for a task, or there is a first reason why it is not. Assumes nothing.
use Rattle.std.proofs.Common.{◌≡◌, ℕ, ◌+◌, ◌<◌, ◌≤◌, Bool, true, false, ◌⊎◌, List, [], ◌∷◌, Some, None, Decides, Option, sym, refl, ◌∙◌, subst, inl, inr, ⊎_elim, arith}
use Rattle.std.proofs.lemmas.Bool.{both_ways, cases_Bool, cases_eq, cases_lt}
use Rattle.task.specs.Task.{FactoredTask, Lawful, move, price}
use Rattle.site.specs.Files.{Accepted, Among}
use Rattle.site.specs.declared.refusal.Refusal.{Refusal}
use Rattle.site.specs.declared.refusal.Refusal.TheVariants as refusal
use Rattle.ranking.specs.First.{Then}
use Rattle.ranking.specs.Judging.{Offered, Unfit, misread, broken, Fit}
use Rattle.ranking.specs.Ranking.{Ranking, Serves, Reply, Simulation}
use Rattle.ranking.specs.RankingFile.{ranking_file}
use Rattle.ranking.specs.Rules.{Chained, ChainHolds, ChainFault, GoalHolds, GoalFault, ReplyHolds, ReplyFault}
use Rattle.ranking.specs.Verdict.{FirstBroken}
use Rattle.ranking.specs.declared.listing.Listing.{Listing}
use Rattle.ranking.specs.declared.listing.Listing.TheVariants.{Pair, End}
use Rattle.ranking.proofs.Judging.{simulation, chain_first, goal_first, reply_first}
use Rattle.astar.specs.Promises.{Bytes}
use Rattle.astar.proofs.Options.{some_same, not_both}
use Rattle.astar.proofs.Deciding.{look, look_first, option_cases}
use Rattle.astar.proofs.FileCases.{ranking_file_cases}

abbrev Decided : Type 0 → Type 0
Decided A = A ⊎ (A → ⊥)

both_cases : {A B : Type 0} → Decided A → Decided B → Decided (A × B)
both_cases (inl a) (inl b) = inl (a, b)
both_cases (inl a) (inr b) = inr (λ p. b p.1)
both_cases (inr a) d = inr (λ p. a p.0)

either_cases : {A B : Type 0} → Decided A → Decided B → Decided (A ⊎ B)
either_cases (inl a) d = inl (inl a)
either_cases (inr a) (inl b) = inl (inr b)
either_cases (inr a) (inr b) = inr (λ p. ⊎_elim a b p)

passes : (x : Bool) → Decided (x ≡ true)
passes x = ⊎_elim inl (λ not. inr (λ up. both_ways x not up)) (cases_Bool x)

at_most_cases : (a b : ℕ) → Decided (a ≤ b)
at_most_cases a b = ⊎_elim (λ more. inr (λ less. omega arith)) (λ less. inl less) (cases_lt b a)

-- ---- the first place at which a rule is broken
-- each place holds, or one is broken and each before it holds
abbrev FirstCase : {X : Type 0} → (X → X → Type 0) → (X → Type 0) → (X → Type 0) → Type 0
FirstCase {X} R Holds Fault = ((x : X) → Holds x) ⊎ ((x : X) × Fault x × ((y : X) → R y x → Holds y))

first_number : (Holds Fault : ℕ → Type 0) (n : ℕ) → ((i : ℕ) → n ≤ i → Holds i) → ((i : ℕ) → Holds i ⊎ Fault i) → FirstCase ◌<◌ Holds Fault
first_number Holds Fault n beyond at =
    ⊎_elim
    (λ all. inl (λ i. ⊎_elim (all i) (beyond i) (cases_lt i n)))
    (λ (i, low, fault, before). inr (i, fault, before))
    (look_first at n)

first_up : {X : Type 0} (R : X → X → Type 0) (Holds Fault : ℕ → X → Type 0) (n : ℕ) → ((i : ℕ) → n ≤ i → (x : X) → Holds i x) → ((i : ℕ) → FirstCase R (Holds i) (Fault i)) → FirstCase (Then R) (λ p. Holds p.0 p.1) (λ p. Fault p.0 p.1)
first_up {X} R Holds Fault n beyond at =
    ⊎_elim
    (λ all. inl (λ p. ⊎_elim (λ low. all p.0 low p.1) (λ far. beyond p.0 far p.1) (cases_lt p.0 n)))
    (λ (i, low, (x, fault, before), others). inr ((i, x), fault, λ q less. earlier i x before others q less))
    (look_first at n)
  where
    earlier : (i : ℕ) (x : X) → ((y : X) → R y x → Holds i y) → ((j : ℕ) → j < i → (y : X) → Holds j y) → (q : ℕ × X) → Then R q (i, x) → Holds q.0 q.1
    earlier i x before others q (inl less) = others q.0 less q.1
    earlier i x before others q (inr (same, rest)) = subst (λ j. Holds j q.1) (sym same) (before q.1 rest)

-- ---- the rules at a place
-- a transition leads to a fact that passes a test
lands_cases : (o : Option ℕ) (p : ℕ → Bool) → Decided ((z : ℕ) × (o ≡ Some z) × (p z ≡ true))
lands_cases (Some z) p = ⊎_elim (λ up. inl (z, refl, up)) (λ not. inr (λ (w, is, up). both_ways (p z) not (subst (λ v. p v ≡ true) (sym (some_same is)) up))) (cases_Bool (p z))
lands_cases None p = inr (λ (w, is, up). not_both is refl)

module _ (t : FactoredTask) (r : Ranking) where
  -- label m leads from x to a fact at least as good as y
  abbrev Lands : ℕ → ℕ → ℕ → ℕ → Type 0
  Lands j m x y = (z : ℕ) × (move t j m x ≡ Some z) × (r j y z ≡ true)

  serves_cases : (j k m : ℕ) → Decided (Serves t r j k m)
  serves_cases j k m =
      ⊎_elim
      (λ all. inl (λ x y fact is. all x fact y is))
      (λ (x, fact, (y, is, never)). inr (λ serves. never (serves x y fact is)))
      (look {A = λ x. (y : ℕ) → move t j k x ≡ Some y → Lands j m x y} {B = λ x. (y : ℕ) × (move t j k x ≡ Some y) × (Lands j m x y → ⊥)} each (t.facts j))
    where
      each : (x : ℕ) → ((y : ℕ) → move t j k x ≡ Some y → Lands j m x y) ⊎ ((y : ℕ) × (move t j k x ≡ Some y) × (Lands j m x y → ⊥))
      each x =
          ⊎_elim
          (λ (y, is). ⊎_elim (λ lands. inl (λ w at. subst (Lands j m x) (some_same (sym is ∙ at)) lands)) (λ never. inr (y, is, never)) (lands_cases (move t j m x) (r j y)))
          (λ none. inl (λ y is. not_both is none))
          (option_cases (move t j k x))

  beside_cases : (i k m : ℕ) → Decided ((j : ℕ) → j < t.factors → (j ≡ i → ⊥) → Serves t r j k m)
  beside_cases i k m =
      ⊎_elim
      inl
      (λ (j, inside, (apart, never)). inr (λ all. never (all j inside apart)))
      (look {A = λ j. (j ≡ i → ⊥) → Serves t r j k m} {B = λ j. (j ≡ i → ⊥) × (Serves t r j k m → ⊥)} each t.factors)
    where
      each : (j : ℕ) → ((j ≡ i → ⊥) → Serves t r j k m) ⊎ ((j ≡ i → ⊥) × (Serves t r j k m → ⊥))
      each j = ⊎_elim (λ same. inl (λ apart. absurd (apart same))) (λ apart. ⊎_elim (λ serves. inl (λ _. serves)) (λ never. inr (apart, never)) (serves_cases j k m)) (cases_eq j i)

  -- label m replies
  abbrev By : ℕ → ℕ → ℕ → ℕ → ℕ → Type 0
  By i k a b m = ((price t m ≤ price t k) × Lands i m b a) × ((j : ℕ) → j < t.factors → (j ≡ i → ⊥) → Serves t r j k m)

  reply_cases : (i k a b : ℕ) → Decided (Reply t r i k a b)
  reply_cases i k a b =
      ⊎_elim
      (λ none. inr (λ q. none q.label (omega (arith, q.known)) ((q.cheap, (q.into, q.moves, q.better)), q.serves)))
      (λ (m, low, ((cheap, (z, moves, better)), serves)). inl (record { label = m; into = z; known = omega arith; cheap = cheap; moves = moves; better = better; serves = serves }))
      (look {A = λ m. By i k a b m → ⊥} {B = By i k a b} (λ m. ⊎_elim inr inl (both_cases (both_cases (at_most_cases (price t m) (price t k)) (lands_cases (move t i m b) (r i a))) (beside_cases i k m))) (t.labels + 1))

  chained_cases : (i a b : ℕ) → Decided (Chained t r i a b)
  chained_cases i a b = ⊎_elim (λ same. inr (λ c. c.0 same)) (λ apart. ⊎_elim (λ none. inr (λ c. none c.1.0 c.1.1 (c.1.2, c.1.3))) (λ (c, fact, (up, on)). inl (apart, (c, fact, up, on))) (look each (t.facts i))) (cases_eq a b)
    where
      each : (c : ℕ) → ((r i a c ≡ true) × (r i c b ≡ true) → ⊥) ⊎ ((r i a c ≡ true) × (r i c b ≡ true))
      each c = ⊎_elim inr inl (both_cases (passes (r i a c)) (passes (r i c b)))

  -- a factor and two of its facts
  abbrev Inside : ℕ → ℕ → ℕ → Type 0
  Inside i a b = (i < t.factors) × (a < t.facts i) × (b < t.facts i)

  inside_cases : (i a b : ℕ) → Inside i a b ⊎ (i < t.factors → a < t.facts i → b < t.facts i → ⊥)
  inside_cases i a b =
      ⊎_elim
      (λ hi. ⊎_elim (λ ha. ⊎_elim (λ hb. inl (hi, ha, hb)) (λ far. inr (λ hi' ha' hb'. omega arith)) (cases_lt b (t.facts i))) (λ far. inr (λ hi' ha' hb'. omega arith)) (cases_lt a (t.facts i)))
      (λ far. inr (λ hi' ha' hb'. omega arith))
      (cases_lt i t.factors)

  chain_at : (i a b : ℕ) → ChainHolds t r i a b ⊎ ChainFault t r i a b
  chain_at i a b = ⊎_elim (λ up. inl (λ _ _ _ _. up)) (λ not. ⊎_elim (here not) (λ out. inl (λ hi ha hb _. absurd (out hi ha hb))) (inside_cases i a b)) (cases_Bool (r i a b))
    where
      here : r i a b ≡ false → Inside i a b → ChainHolds t r i a b ⊎ ChainFault t r i a b
      here not inside =
          ⊎_elim
          (λ chain. inr (record { factor = inside.0; from = inside.1; to = inside.2; chain = chain; unranked = not }))
          (λ none. inl (λ _ _ _ chain. absurd (none chain)))
          (chained_cases i a b)

  goal_at : (i a b : ℕ) → GoalHolds t r i a b ⊎ GoalFault t r i a b
  goal_at i a b =
      ⊎_elim
      (λ goal. inl (λ _ _ _ _ _. goal))
      (λ miss. ⊎_elim (here miss) (λ out. inl (λ hi ha hb _ _. absurd (out hi ha hb))) (inside_cases i a b))
      (cases_Bool (t.goal i b))
    where
      here : t.goal i b ≡ false → Inside i a b → GoalHolds t r i a b ⊎ GoalFault t r i a b
      here miss inside =
          ⊎_elim
          (λ (up, goal). inr (record { factor = inside.0; from = inside.1; to = inside.2; ranked = up; goal = goal; miss = miss }))
          (λ none. inl (λ _ _ _ up goal. absurd (none (up, goal))))
          (both_cases (passes (r i a b)) (passes (t.goal i a)))

  reply_at : (i a b k : ℕ) → ReplyHolds t r i a b k ⊎ ReplyFault t r i a b k
  reply_at i a b k = ⊎_elim here (λ out. inl (λ hi ha hb _ _ _ _. absurd (out hi ha hb))) (inside_cases i a b)
    where
      led : Inside i a b → k ≤ t.labels → r i a b ≡ true → (y : ℕ) → move t i k a ≡ Some y → Decided (Reply t r i k y b) → ReplyHolds t r i a b k ⊎ ReplyFault t r i a b k
      led inside known up y is (inl reply) = inl (λ _ _ _ _ _ w at. subst (λ v. Reply t r i k v b) (some_same (sym is ∙ at)) reply)
      led inside known up y is (inr none) = inr (record { factor = inside.0; from = inside.1; to = inside.2; known = known; ranked = up; into = y; moves = is; unanswered = none })

      here : Inside i a b → ReplyHolds t r i a b k ⊎ ReplyFault t r i a b k
      here inside =
          ⊎_elim
          (λ known. ⊎_elim (λ up. ⊎_elim (λ (y, is). led inside known up y is (reply_cases i k y b)) (λ none. inl (λ _ _ _ _ _ w at. not_both at none)) (option_cases (move t i k a))) (λ not. inl (λ _ _ _ _ up _ _. absurd (both_ways _ not up))) (cases_Bool (r i a b)))
          (λ far. inl (λ _ _ _ known _ _ _. absurd (far known)))
          (at_most_cases k t.labels)

  -- ---- all places
  chains : FirstCase (Then (Then ◌<◌)) (λ p. ChainHolds t r p.0 p.1.0 p.1.1) (λ p. ChainFault t r p.0 p.1.0 p.1.1)
  chains =
      first_up (Then ◌<◌) (λ i p. ChainHolds t r i p.0 p.1) (λ i p. ChainFault t r i p.0 p.1) t.factors (λ i far p hi. absurd (omega arith))
      (λ i. first_up ◌<◌ (λ a b. ChainHolds t r i a b) (λ a b. ChainFault t r i a b) (t.facts i) (λ a far b _ ha. absurd (omega arith))
      (λ a. first_number (λ b. ChainHolds t r i a b) (λ b. ChainFault t r i a b) (t.facts i) (λ b far _ _ hb. absurd (omega arith)) (chain_at i a)))

  goals : FirstCase (Then (Then ◌<◌)) (λ p. GoalHolds t r p.0 p.1.0 p.1.1) (λ p. GoalFault t r p.0 p.1.0 p.1.1)
  goals =
      first_up (Then ◌<◌) (λ i p. GoalHolds t r i p.0 p.1) (λ i p. GoalFault t r i p.0 p.1) t.factors (λ i far p hi. absurd (omega arith))
      (λ i. first_up ◌<◌ (λ a b. GoalHolds t r i a b) (λ a b. GoalFault t r i a b) (t.facts i) (λ a far b _ ha. absurd (omega arith))
      (λ a. first_number (λ b. GoalHolds t r i a b) (λ b. GoalFault t r i a b) (t.facts i) (λ b far _ _ hb. absurd (omega arith)) (goal_at i a)))

  replies : FirstCase (Then (Then (Then ◌<◌))) (λ p. ReplyHolds t r p.0 p.1.0 p.1.1.0 p.1.1.1) (λ p. ReplyFault t r p.0 p.1.0 p.1.1.0 p.1.1.1)
  replies =
      first_up (Then (Then ◌<◌)) (λ i p. ReplyHolds t r i p.0 p.1.0 p.1.1) (λ i p. ReplyFault t r i p.0 p.1.0 p.1.1) t.factors (λ i far p hi. absurd (omega arith))
      (λ i. first_up (Then ◌<◌) (λ a p. ReplyHolds t r i a p.0 p.1) (λ a p. ReplyFault t r i a p.0 p.1) (t.facts i) (λ a far p _ ha. absurd (omega arith))
      (λ a. first_up ◌<◌ (λ b k. ReplyHolds t r i a b k) (λ b k. ReplyFault t r i a b k) (t.facts i) (λ b far k _ _ hb. absurd (omega arith))
      (λ b. first_number (λ k. ReplyHolds t r i a b k) (λ k. ReplyFault t r i a b k) (t.labels + 1) (λ k far _ _ _ known. absurd (omega arith)) (reply_at i a b))))

  module _ (lawful : Lawful t) (self : (i a : ℕ) → i < t.factors → a < t.facts i → r i a a ≡ true) where
    checked : Simulation t r ⊎ ((e : Refusal) × FirstBroken t r e)
    checked =
        ⊎_elim
        (λ c. ⊎_elim
        (λ g. ⊎_elim
        (λ q. inl (simulation t r lawful self c g q))
        (λ (p, fault, before). inr (refusal.Reply p.0 p.1.0 p.1.1.0 p.1.1.1, (reply_first t r lawful c g p.0 p.1.0 p.1.1.0 p.1.1.1 fault before).1))
        replies)
        (λ (p, fault, before). inr (refusal.Goal p.0 p.1.0 p.1.1, (goal_first t r lawful c p.0 p.1.0 p.1.1 fault before).1))
        goals)
        (λ (p, fault, before). inr (refusal.Chain p.0 p.1.0 p.1.1, (chain_first t r lawful p.0 p.1.0 p.1.1 fault before).1))
        chains

-- ---- the relation that a file lists
pair_cases : (j a b : ℕ) (c : Listing) → Decided (c ≡ Pair j a b)
pair_cases j a b (Pair i x y) =
    ⊎_elim (λ ((f, g), k). inl (cc)) (λ apart. inr (λ same. apart ((cc, cc), cc))) (both_cases (both_cases (cases_eq i j) (cases_eq x a)) (cases_eq y b))
pair_cases j a b End = inr (λ same. let z : ◌≡◌ {A = ℕ} 0 1 = cc in omega arith)

among_cases : (j a b : ℕ) (cs : List Listing) → Decided (Among (Pair j a b) cs)
among_cases j a b [] = inr (λ none. none)
among_cases j a b (c ∷ cs) = either_cases (pair_cases j a b c) (among_cases j a b cs)

abbrev said : {A : Type 0} → Decided A → Bool
said (inl a) = true
said (inr a) = false

said_decides : {A : Type 0} (d : Decided A) → Decides (said d) A
said_decides (inl a) = (λ _. a, λ _. refl)
said_decides (inr a) = (λ is. absurd (both_ways false refl is), λ b. absurd (a b))

module _ (t : FactoredTask) (lawful : Lawful t) (bytes : List ℕ) where
  listed : (cs : List Listing) (j a b : ℕ) → Decided ((a ≡ b) ⊎ Among (Pair j a b) cs)
  listed cs j a b = either_cases (cases_eq a b) (among_cases j a b cs)

  offered : Accepted (ranking_file t) bytes → Offered t bytes
  offered file = record { file = file; relation = λ j a b. said (listed file.ended.before j a b); lists = λ j a b hj ha hb. said_decides (listed file.ended.before j a b) }

  judged : (o : Offered t bytes) → Fit t bytes ⊎ ((e : Refusal) × Unfit t bytes e)
  judged o =
      ⊎_elim
      (λ sim. inl (record { offered = o; simulation = sim }))
      (λ (e, first). inr (e, broken o first))
      (checked t o.relation lawful (λ i a hi ha. (o.lists i a a hi ha ha).1 (inl refl)))

  pub fit_cases : Bytes bytes → Fit t bytes ⊎ ((e : Refusal) × Unfit t bytes e)
  fit_cases fine = ⊎_elim (λ file. judged (offered file)) (λ (e, bad). inr (e, misread bad)) (ranking_file_cases t bytes fine)
