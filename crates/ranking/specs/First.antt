-- The first place, in rising order, at which a ranking breaks a rule. Assumes nothing.
use Rattle.std.specs.Prelude.{◌≡◌, ℕ, ◌<◌, ◌⊎◌, Ok, Err, Result}
use Rattle.task.specs.Task.{FactoredTask}
use Rattle.ranking.specs.Ranking.{Ranking}
use Rattle.ranking.specs.Rules.{ChainHolds, ChainFault, GoalHolds, GoalFault, ReplyHolds, ReplyFault}
use Rattle.site.specs.declared.refusal.Refusal.{Refusal}
use Rattle.site.specs.declared.refusal.Refusal.TheVariants.{Chain, Goal, Reply}

-- pairs in rising order of the number, and then of the rest
abbrev pub Then : {X : Type 0} → (X → X → Type 0) → ℕ × X → ℕ × X → Type 0
Then R p q = (p.0 < q.0) ⊎ ((p.0 ≡ q.0) × R p.1 q.1)

-- Of the places x, reported as `report x`: each holds; or one is broken, and each before it holds.
abbrev pub FirstBy : {X : Type 0} → (X → X → Type 0) → (X → Type 0) → (X → Type 0) → (X → Refusal) → Result Unit Refusal → Type 0
FirstBy {X} R Holds Fault report (Ok _) = (x : X) → Holds x
FirstBy {X} R Holds Fault report (Err e) = (x : X) × (e ≡ report x) × Fault x × ((y : X) → R y x → Holds y)

-- the three rules in all factors
abbrev pub Chains : FactoredTask → Ranking → Result Unit Refusal → Type 0
Chains t r = FirstBy (Then (Then ◌<◌)) (λ p. ChainHolds t r p.0 p.1.0 p.1.1) (λ p. ChainFault t r p.0 p.1.0 p.1.1) (λ p. Chain p.0 p.1.0 p.1.1)

abbrev pub Goals : FactoredTask → Ranking → Result Unit Refusal → Type 0
Goals t r = FirstBy (Then (Then ◌<◌)) (λ p. GoalHolds t r p.0 p.1.0 p.1.1) (λ p. GoalFault t r p.0 p.1.0 p.1.1) (λ p. Goal p.0 p.1.0 p.1.1)

abbrev pub Replies : FactoredTask → Ranking → Result Unit Refusal → Type 0
Replies t r =
    FirstBy
    (Then (Then (Then ◌<◌)))
    (λ p. ReplyHolds t r p.0 p.1.0 p.1.1.0 p.1.1.1)
    (λ p. ReplyFault t r p.0 p.1.0 p.1.1.0 p.1.1.1)
    (λ p. Reply p.0 p.1.0 p.1.1.0 p.1.1.1)

-- a factor and two of its facts
abbrev pub Inside : FactoredTask → ℕ → ℕ → ℕ → Type 0
Inside t i a b = (i < t.factors) × (a < t.facts i) × (b < t.facts i)

-- Where `Answers` says what can be answered of a factor and two of its facts: of each, that all is well; or of one this
-- error, and of each before it that all is well.
pub data FirstError (t : FactoredTask) (Answers : ℕ → ℕ → ℕ → Result Unit Refusal → Type 0) : Result Unit Refusal → Type 0 where
  all_well : ((i a b : ℕ) → Inside t i a b → Answers i a b (Ok tt)) → FirstError t Answers (Ok tt)
  fails : {e : Refusal} (i a b : ℕ) → Inside t i a b → Answers i a b (Err e)
      → ((j x y : ℕ) → Then (Then ◌<◌) (j, (x, y)) (i, (a, b)) → Inside t j x y → Answers j x y (Ok tt)) → FirstError t Answers (Err e)

-- a rule at two facts of a factor: it holds; or it is broken there, and is reported as `report` says
abbrev pub AtPair : FactoredTask → (ℕ → ℕ → ℕ → Type 0) → (ℕ → ℕ → ℕ → Type 0) → (ℕ → ℕ → ℕ → Refusal) → ℕ → ℕ → ℕ → Result Unit Refusal → Type 0
AtPair t Holds Fault report i a b (Ok _) = Holds i a b
AtPair t Holds Fault report i a b (Err e) = (e ≡ report i a b) × (Inside t i a b → Fault i a b)

abbrev pub ChainAt : FactoredTask → Ranking → ℕ → ℕ → ℕ → Result Unit Refusal → Type 0
ChainAt t r = AtPair t (ChainHolds t r) (ChainFault t r) Chain

abbrev pub GoalAt : FactoredTask → Ranking → ℕ → ℕ → ℕ → Result Unit Refusal → Type 0
GoalAt t r = AtPair t (GoalHolds t r) (GoalFault t r) Goal

-- the reply rule at two facts, for each label
abbrev pub ReplyAt : FactoredTask → Ranking → ℕ → ℕ → ℕ → Result Unit Refusal → Type 0
ReplyAt t r i a b = FirstBy ◌<◌ (λ k. ReplyHolds t r i a b k) (λ k. Inside t i a b → ReplyFault t r i a b k) (λ k. Reply i a b k)
