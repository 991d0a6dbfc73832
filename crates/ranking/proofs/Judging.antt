-- What the three rules together say of a ranking.
use Rattle.std.proofs.Common.{◌≡◌, ℕ, ◌<◌, true, List, [], ◌∷◌, Ok, Err, Result, sym, subst, inl, inr, arith}
use borrow.Author.Tests.{both_ways}
use Rattle.std.proofs.lemmas.Bool.{cases_eq}
use Rattle.task.specs.Task.{FactoredTask, Lawful}
use Rattle.ranking.specs.Ranking.{Ranking, Simulation}
use Rattle.ranking.specs.Rules.{ChainHolds, ChainFault, GoalHolds, GoalFault, ReplyHolds, ReplyFault}
use Rattle.ranking.specs.First.{Then, Chains, Goals, Replies}
use Rattle.ranking.specs.Verdict.{Below, turn, Broken, Checked}
use Rattle.ranking.proofs.Dominating.{dominates}
use Rattle.site.specs.declared.refusal.Refusal.{Refusal}
use Rattle.site.specs.declared.refusal.Refusal.TheVariants.{File, Chain, Goal, Reply}

-- ---- the order of the places
below_rest : (n : ℕ) (xs ys : List ℕ) → Below (n ∷ xs) (n ∷ ys) → Below xs ys
below_rest n xs ys b = elim b [ inl h ↦ absurd (omega arith) | inr p ↦ p.1 ]

below_not : (m n : ℕ) (xs ys : List ℕ) → n < m → Below (m ∷ xs) (n ∷ ys) → ⊥
below_not m n xs ys h b = elim b [ inl l ↦ omega arith | inr p ↦ let e = p.0 in omega arith ]

below_3 : (i a b i' a' b' : ℕ) → Below (i ∷ a ∷ b ∷ []) (i' ∷ a' ∷ b' ∷ []) → Then (Then ◌<◌) (i, (a, b)) (i', (a', b'))
below_3 i a b i' a' b' l =
    elim l [
      | inl h ↦ inl h
      | inr p ↦ inr (p.0, elim p.1 [ inl h ↦ inl h | inr q ↦ inr (q.0, elim q.1 [ inl h ↦ h | inr z ↦ absurd z.1 ]) ])
    ]

below_4 : (i a b k i' a' b' k' : ℕ) → Below (i ∷ a ∷ b ∷ k ∷ []) (i' ∷ a' ∷ b' ∷ k' ∷ []) → Then (Then (Then ◌<◌)) (i, (a, (b, k))) (i', (a', (b', k')))
below_4 i a b k i' a' b' k' l = elim l [ inl h ↦ inl h | inr p ↦ inr (p.0, below_3 a b k a' b' k' p.1) ]

module _ (t : FactoredTask) (r : Ranking) (lawful : Lawful t) where
  -- ---- each rule at a place
  chain_clash : (i a b : ℕ) → ChainHolds t r i a b → ChainFault t r i a b → ⊥
  chain_clash i a b h f = both_ways _ f.unranked (h f.factor f.from f.to f.chain)

  goal_clash : (i a b : ℕ) → GoalHolds t r i a b → GoalFault t r i a b → ⊥
  goal_clash i a b h f = both_ways _ f.miss (h f.factor f.from f.to f.ranked f.goal)

  reply_clash : (i a b k : ℕ) → ReplyHolds t r i a b k → ReplyFault t r i a b k → ⊥
  reply_clash i a b k h f = f.unanswered (h f.factor f.from f.to f.known f.ranked f.into f.moves)

  -- ---- a simulation keeps each, and what keeps each is one
  chain_from : Simulation t r → (i a b : ℕ) → ChainHolds t r i a b
  chain_from s i a b hi ha hb c =
      let w = c.1 in s.chain i a w.0 b hi ha w.1 hb w.2 w.3

  abbrev Self : Type 0
  Self = (i a : ℕ) → i < t.factors → a < t.facts i → r i a a ≡ true

  pub simulation : Self → ((p : ℕ × (ℕ × ℕ)) → ChainHolds t r p.0 p.1.0 p.1.1) → ((p : ℕ × (ℕ × ℕ)) → GoalHolds t r p.0 p.1.0 p.1.1)
      → ((p : ℕ × (ℕ × (ℕ × ℕ))) → ReplyHolds t r p.0 p.1.0 p.1.1.0 p.1.1.1) → Simulation t r
  simulation self c g q = record {
    self = self;
    chain = λ i a b d hi ha hb hd p s. elim (cases_eq a d) [
      | inl e ↦ subst (λ (x : ℕ). r i a x ≡ true) e (self i a hi ha)
      | inr n ↦ c (i, (a, d)) hi ha hd (n, (b, hb, p, s))
    ];
    goal = λ i a b hi ha hb p s. g (i, (a, b)) hi ha hb p s;
    reply = λ i a b k a' hi ha hb hk p m. q (i, (a, (b, k))) hi ha hb hk p a' m;
  }

  -- ---- the first fault of each rule, where those before hold
  pub chain_first : (i a b : ℕ) → ChainFault t r i a b → ((p : ℕ × (ℕ × ℕ)) → Then (Then ◌<◌) p (i, (a, b)) → ChainHolds t r p.0 p.1.0 p.1.1) → Checked t r (Err (Chain i a b))
  chain_first i a b f below = (λ s. chain_clash i a b (chain_from s i a b) f, record { broken = f; first = earlier })
    where
      earlier : (e : Refusal) → Below (turn e) (turn (Chain i a b)) → Broken t r e → ⊥
      earlier (File f n) l g = g
      earlier (Chain i' a' b') l g = chain_clash i' a' b' (below (i', (a', b')) (below_3 i' a' b' i a b (below_rest 0 (i' ∷ a' ∷ b' ∷ []) (i ∷ a ∷ b ∷ []) l))) g
      earlier (Goal i' a' b') l g = below_not 1 0 (i' ∷ a' ∷ b' ∷ []) (i ∷ a ∷ b ∷ []) (omega arith) l
      earlier (Reply i' a' b' k') l g = below_not 2 0 (i' ∷ a' ∷ b' ∷ k' ∷ []) (i ∷ a ∷ b ∷ []) (omega arith) l

  pub goal_first : ((p : ℕ × (ℕ × ℕ)) → ChainHolds t r p.0 p.1.0 p.1.1) → (i a b : ℕ) → GoalFault t r i a b
      → ((p : ℕ × (ℕ × ℕ)) → Then (Then ◌<◌) p (i, (a, b)) → GoalHolds t r p.0 p.1.0 p.1.1) → Checked t r (Err (Goal i a b))
  goal_first c i a b f below = (λ s. goal_clash i a b (s.goal i a b) f, record { broken = f; first = earlier })
    where
      earlier : (e : Refusal) → Below (turn e) (turn (Goal i a b)) → Broken t r e → ⊥
      earlier (File f n) l g = g
      earlier (Chain i' a' b') l g = chain_clash i' a' b' (c (i', (a', b'))) g
      earlier (Goal i' a' b') l g = goal_clash i' a' b' (below (i', (a', b')) (below_3 i' a' b' i a b (below_rest 1 (i' ∷ a' ∷ b' ∷ []) (i ∷ a ∷ b ∷ []) l))) g
      earlier (Reply i' a' b' k') l g = below_not 2 1 (i' ∷ a' ∷ b' ∷ k' ∷ []) (i ∷ a ∷ b ∷ []) (omega arith) l

  pub reply_first : ((p : ℕ × (ℕ × ℕ)) → ChainHolds t r p.0 p.1.0 p.1.1) → ((p : ℕ × (ℕ × ℕ)) → GoalHolds t r p.0 p.1.0 p.1.1) → (i a b k : ℕ) → ReplyFault t r i a b k
      → ((p : ℕ × (ℕ × (ℕ × ℕ))) → Then (Then (Then ◌<◌)) p (i, (a, (b, k))) → ReplyHolds t r p.0 p.1.0 p.1.1.0 p.1.1.1) → Checked t r (Err (Reply i a b k))
  reply_first c h i a b k f below = (λ s. reply_clash i a b k (λ hi ha hb hk p a' m. s.reply i a b k a' hi ha hb hk p m) f, record { broken = f; first = earlier })
    where
      earlier : (e : Refusal) → Below (turn e) (turn (Reply i a b k)) → Broken t r e → ⊥
      earlier (File f n) l g = g
      earlier (Chain i' a' b') l g = chain_clash i' a' b' (c (i', (a', b'))) g
      earlier (Goal i' a' b') l g = goal_clash i' a' b' (h (i', (a', b'))) g
      earlier (Reply i' a' b' k') l g = reply_clash i' a' b' k' (below (i', (a', (b', k'))) (below_4 i' a' b' k' i a b k (below_rest 2 (i' ∷ a' ∷ b' ∷ k' ∷ []) (i ∷ a ∷ b ∷ k ∷ []) l))) g

  -- ---- the same, of what the three checks answer
  at_error : (e f : Refusal) → e ≡ f → Checked t r (Err f) → Checked t r (Err e)
  at_error e f p c = subst (λ (x : Refusal). Checked t r (Err x)) (sym p) c

  pub chains_end : (e : Refusal) → Chains t r (Err e) → Checked t r (Err e)
  chains_end e w = at_error e _ w.1 (chain_first _ _ _ w.2 w.3)

  pub goals_end : (e : Refusal) → ((p : ℕ × (ℕ × ℕ)) → ChainHolds t r p.0 p.1.0 p.1.1) → Goals t r (Err e) → Checked t r (Err e)
  goals_end e c w = at_error e _ w.1 (goal_first c _ _ _ w.2 w.3)

  pub replies_end : (o : Result Unit Refusal) → Self → ((p : ℕ × (ℕ × ℕ)) → ChainHolds t r p.0 p.1.0 p.1.1) → ((p : ℕ × (ℕ × ℕ)) → GoalHolds t r p.0 p.1.0 p.1.1) → Replies t r o → Checked t r o
  replies_end (Ok _) self c g q = let s = simulation self c g q in (s, dominates t r lawful s)
  replies_end (Err e) self c g w = at_error e _ w.1 (reply_first c g _ _ _ _ w.2 w.3)
