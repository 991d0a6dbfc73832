-- From what is answered of each two facts of a factor to what is answered of a rule.
use Rattle.std.proofs.Common.{◌≡◌, ℕ, ◌<◌, ◌⊎◌, Ok, Err, Result, inl, inr}
use Rattle.task.specs.Task.{FactoredTask}
use Rattle.ranking.specs.Ranking.{Ranking}
use Rattle.ranking.specs.Rules.{ChainHolds, ChainFault, GoalHolds, GoalFault}
use Rattle.ranking.specs.First.{Then, FirstBy, AtPair, Chains, Goals, Replies, Inside, FirstError, all_well, fails, ChainAt, GoalAt, ReplyAt}
use Rattle.site.specs.declared.refusal.Refusal.{Refusal}
use Rattle.site.specs.declared.refusal.Refusal.TheVariants.{Chain, Goal}

module _ (t : FactoredTask) (Answers : ℕ → ℕ → ℕ → Result Unit Refusal → Type 0) where
  -- the error of one place, where each before it is well
  pub first_error : (i a b : ℕ) (e : Refusal) → Inside t i a b → Answers i a b (Err e)
      → ((j : ℕ) → j < i → (x y : ℕ) → Inside t j x y → Answers j x y (Ok tt))
      → ((x : ℕ) → x < a → (y : ℕ) → Inside t i x y → Answers i x y (Ok tt))
      → ((y : ℕ) → y < b → Inside t i a y → Answers i a y (Ok tt))
      → FirstError t Answers (Err e)
  first_error i a b e inside answer factors from to = fails i a b inside answer before
    where
      before : (j x y : ℕ) → Then (Then ◌<◌) (j, (x, y)) (i, (a, b)) → Inside t j x y → Answers j x y (Ok tt)
      before j x y (inl h) in' = factors j h x y in'
      before j x y (inr (same, inl h)) in' = rw same (from x h y (rw same at in'))
      before j x y (inr (same, inr (also, h))) in' = rw same (rw also (to y h (rw also at (rw same at in'))))

  -- of a rule that asks nothing outside the task
  pair_first : (Holds Fault : ℕ → ℕ → ℕ → Type 0) (report : ℕ → ℕ → ℕ → Refusal) → ((i a b : ℕ) → (Inside t i a b → Holds i a b) → Holds i a b)
      → (o : Result Unit Refusal) → FirstError t Answers o → ((i a b : ℕ) (o : Result Unit Refusal) → Answers i a b o → AtPair t Holds Fault report i a b o)
      → FirstBy (Then (Then ◌<◌)) (λ p. Holds p.0 p.1.0 p.1.1) (λ p. Fault p.0 p.1.0 p.1.1) (λ p. report p.0 p.1.0 p.1.1) o
  pair_first Holds Fault report inner (Ok tt) (all_well all) at = λ p. inner p.0 p.1.0 p.1.1 (λ in'. at p.0 p.1.0 p.1.1 (Ok tt) (all p.0 p.1.0 p.1.1 in'))
  pair_first Holds Fault report inner (Err e) (fails i a b inside answer before) at =
      let f = at i a b (Err e) answer in
      ((i, (a, b)), f.0, f.1 inside, λ q less. inner q.0 q.1.0 q.1.1 (λ in'. at q.0 q.1.0 q.1.1 (Ok tt) (before q.0 q.1.0 q.1.1 less in')))

  module _ (r : Ranking) where
    pub chains_first : (o : Result Unit Refusal) → FirstError t Answers o → ((i a b : ℕ) (o : Result Unit Refusal) → Answers i a b o → ChainAt t r i a b o) → Chains t r o
    chains_first = pair_first (ChainHolds t r) (ChainFault t r) Chain (λ i a b h hi ha hb. h (hi, ha, hb) hi ha hb)

    pub goals_first : (o : Result Unit Refusal) → FirstError t Answers o → ((i a b : ℕ) (o : Result Unit Refusal) → Answers i a b o → GoalAt t r i a b o) → Goals t r o
    goals_first = pair_first (GoalHolds t r) (GoalFault t r) Goal (λ i a b h hi ha hb. h (hi, ha, hb) hi ha hb)

    -- with a label besides, a place comes before another by its facts, or they are the same and its label comes before
    split : (i a b k i' a' b' k' : ℕ) → Then (Then (Then ◌<◌)) (i, (a, (b, k))) (i', (a', (b', k')))
        → Then (Then ◌<◌) (i, (a, b)) (i', (a', b')) ⊎ ((i ≡ i') × (a ≡ a') × (b ≡ b') × (k < k'))
    split i a b k i' a' b' k' (inl h) = inl (inl h)
    split i a b k i' a' b' k' (inr (p, inl h)) = inl (inr (p, inl h))
    split i a b k i' a' b' k' (inr (p, inr (q, inl h))) = inl (inr (p, inr (q, h)))
    split i a b k i' a' b' k' (inr (p, inr (q, inr (s, h)))) = inr (p, q, s, h)

    pub replies_first : (o : Result Unit Refusal) → FirstError t Answers o → ((i a b : ℕ) (o : Result Unit Refusal) → Answers i a b o → ReplyAt t r i a b o) → Replies t r o
    replies_first (Ok tt) (all_well all) at = λ p hi ha hb. at p.0 p.1.0 p.1.1.0 (Ok tt) (all p.0 p.1.0 p.1.1.0 (hi, ha, hb)) p.1.1.1 hi ha hb
    replies_first (Err e) (fails i a b inside answer before) at =
        let f = at i a b (Err e) answer in (
          (i, (a, (b, f.0))),
          f.1,
          f.2 inside,
          λ q less. elim (split q.0 q.1.0 q.1.1.0 q.1.1.1 i a b f.0 less) [
            | inl l ↦ λ hi ha hb. at q.0 q.1.0 q.1.1.0 (Ok tt) (before q.0 q.1.0 q.1.1.0 l (hi, ha, hb)) q.1.1.1 hi ha hb
            | inr s ↦ rw (s.0, s.1, s.2) (f.3 q.1.1.1 s.3)
          ],
        )
