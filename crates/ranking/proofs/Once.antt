-- One judgement fits a site file and a ranking file.
use Rattle.std.proofs.Common.{◌≡◌, ℕ, ◌<◌, cond, eqb, ◌⊎◌, List, [], ◌∷◌, ◌++◌, length, get_or, drop, Some, Err, Option, sym, refl, ap, ◌∙◌, subst, inl, inr, arith}
use Rattle.std.proofs.lemmas.Bool.{both_ways, cases_order}
use Rattle.std.proofs.lemmas.Bool.Decides.{same_from_decides}
use Rattle.task.specs.Task.{FactoredTask, move}
use Rattle.site.specs.Files.{Accepted, Rejected, unreadable}
use Rattle.site.specs.Saying.{task_of}
use Rattle.site.specs.SiteFile.{site_file, describes, task}
use Rattle.site.specs.declared.refusal.Fault.{Fault}
use Rattle.site.specs.declared.refusal.Refusal.{Refusal}
use Rattle.site.specs.declared.refusal.Refusal.TheVariants.{File, Chain, Goal, Reply}
use Rattle.site.proofs.Limiting.{moves_land}
use Rattle.site.proofs.Once.{OneWay, same_read, enough, site_way, rejected_once, accepted_rejected, accepted_once}
use Rattle.ranking.specs.Ranking.{Ranking, Serves, Simulation}
use Rattle.ranking.specs.Ranking as ranking
use Rattle.ranking.specs.RankingFile.{bytes_of, operands, ranking_file, Lists}
use Rattle.ranking.specs.Verdict.{Broken, Below, turn, FirstBroken}
use Rattle.ranking.specs.Judging.{Judgement, Offered, Unfit, misread, broken, Fit, Judged, site_refused, site_alone, ranking_refused, ranking_fit}
use Rattle.ranking.specs.declared.listing.Listing.{Listing}
use Rattle.ranking.specs.declared.listing.Listing.TheVariants.{Pair, End}
use Rattle.ranking.specs.declared.judge.Rejection.TheVariants as rejection

-- ---- the ranking file
-- the command in front of some bytes, and the bytes after it
abbrev reads : List ℕ → Listing × List ℕ
reads xs = cond (eqb (get_or xs 0 0) 80) (Pair (get_or xs 1 0) (get_or xs 2 0) (get_or xs 3 0), drop 4 xs) (End, drop 1 xs)

back : (c : Listing) (x : List ℕ) → reads (bytes_of c ++ x) ≡ (c, x)
back (Pair j a b) x = refl
back End x = refl

readable : (c : Listing) (x : List ℕ) (fault : Fault) → unreadable operands (bytes_of c ++ x) ≡ Some fault → ⊥
readable (Pair j a b) x fault = enough 3 (j ∷ a ∷ b ∷ x) fault (omega arith)
readable End x fault = enough 0 x fault (omega arith)

ranking_way : (t : FactoredTask) → OneWay (ranking_file t)
ranking_way t = record { same = same_read (ranking_file t) reads back; readable = readable }

-- ---- the order of the refusals
ordered : (xs ys : List ℕ) → length xs ≡ length ys → (xs ≡ ys) ⊎ (Below xs ys ⊎ Below ys xs)
ordered [] [] e = inl refl
ordered [] (y ∷ ys) e = absurd (omega arith)
ordered (x ∷ xs) [] e = absurd (omega arith)
ordered (x ∷ xs) (y ∷ ys) e = elim (cases_order x y) [
  | inl p ↦ elim (ordered xs ys (omega arith)) [
    | inl q ↦ inl (cc)
    | inr q ↦ inr (elim q [ inl b ↦ inl (inr (p, b)) | inr b ↦ inr (inr (sym p, b)) ])
  ]
  | inr h ↦ inr (elim h [ inl l ↦ inl (inl l) | inr l ↦ inr (inl l) ])
]

-- of two rules broken, one comes first, or they are the same
turns : (t : FactoredTask) (r q : Ranking) (e f : Refusal) → Broken t r e → Broken t q f → (e ≡ f) ⊎ (Below (turn e) (turn f) ⊎ Below (turn f) (turn e))
turns t r q (File x n) f g h = absurd g
turns t r q (Chain i a b) (File x n) g h = absurd h
turns t r q (Chain i a b) (Chain i' a' b') g h = elim (ordered (turn (Chain i a b)) (turn (Chain i' a' b')) refl) [ inl p ↦ inl (cc) | inr w ↦ inr w ]
turns t r q (Chain i a b) (Goal i' a' b') g h = inr (inl (inl (omega arith)))
turns t r q (Chain i a b) (Reply i' a' b' k') g h = inr (inl (inl (omega arith)))
turns t r q (Goal i a b) (File x n) g h = absurd h
turns t r q (Goal i a b) (Chain i' a' b') g h = inr (inr (inl (omega arith)))
turns t r q (Goal i a b) (Goal i' a' b') g h = elim (ordered (turn (Goal i a b)) (turn (Goal i' a' b')) refl) [ inl p ↦ inl (cc) | inr w ↦ inr w ]
turns t r q (Goal i a b) (Reply i' a' b' k') g h = inr (inl (inl (omega arith)))
turns t r q (Reply i a b k) (File x n) g h = absurd h
turns t r q (Reply i a b k) (Chain i' a' b') g h = inr (inr (inl (omega arith)))
turns t r q (Reply i a b k) (Goal i' a' b') g h = inr (inr (inl (omega arith)))
turns t r q (Reply i a b k) (Reply i' a' b' k') g h =
    elim (ordered (turn (Reply i a b k)) (turn (Reply i' a' b' k')) refl) [ inl p ↦ inl (cc) | inr w ↦ inr w ]

-- ---- rankings that agree
-- the moves of a task lead from facts to facts
abbrev pub Closed : FactoredTask → Type 0
Closed t = (j l x y : ℕ) → x < t.facts j → move t j l x ≡ Some y → y < t.facts j

-- two rankings say the same of the task's facts
abbrev pub Agree : FactoredTask → Ranking → Ranking → Type 0
Agree t r q = (j a b : ℕ) → j < t.factors → a < t.facts j → b < t.facts j → r j a b ≡ q j a b

turned : (t : FactoredTask) (r q : Ranking) → Agree t r q → Agree t q r
turned t r q agree j a b hj ha hb = sym (agree j a b hj ha hb)

-- a simulation breaks no rule
breaks_none : (t : FactoredTask) (r : Ranking) (e : Refusal) → Simulation t r → Broken t r e → ⊥
breaks_none t r (File x n) s g = g
breaks_none t r (Chain i a b) s g =
    let w = g.chain.1 in both_ways _ g.unranked (s.chain i a w.0 b g.factor g.from w.1 g.to w.2 w.3)
breaks_none t r (Goal i a b) s g = both_ways _ g.miss (s.goal i a b g.factor g.from g.to g.ranked g.goal)
breaks_none t r (Reply i a b k) s g = g.unanswered (s.reply i a b k g.into g.factor g.from g.to g.known g.ranked g.moves)

module _ (t : FactoredTask) (closed : Closed t) where
  serves_too : (r q : Ranking) → Agree t r q → (j k m : ℕ) → j < t.factors → Serves t r j k m → Serves t q j k m
  serves_too r q agree j k m hj s x y hx e =
      let w = s x y hx e in
      (w.0, w.1, sym (agree j y w.0 hj (closed j k x y hx e) (closed j m x w.0 hx w.1)) ∙ w.2)

  reply_too : (r q : Ranking) → Agree t r q → (i k a b : ℕ) → i < t.factors → a < t.facts i → b < t.facts i
      → ranking.Reply t r i k a b → ranking.Reply t q i k a b
  reply_too r q agree i k a b hi ha hb p = record {
    label = p.label;
    into = p.into;
    known = p.known;
    cheap = p.cheap;
    moves = p.moves;
    better = sym (agree i a p.into hi ha (closed i p.label b p.into hb p.moves)) ∙ p.better;
    serves = λ j hj n. serves_too r q agree j k p.label hj (p.serves j hj n);
  }

  -- what one breaks the other breaks
  broken_too : (r q : Ranking) → Agree t r q → (e : Refusal) → Broken t r e → Broken t q e
  broken_too r q agree (File x n) g = g
  broken_too r q agree (Chain i a b) g =
      let w = g.chain.1 in
      let p = sym (agree i a w.0 g.factor g.from w.1) ∙ w.2 in
      let s = sym (agree i w.0 b g.factor w.1 g.to) ∙ w.3 in
      record {
        factor = g.factor;
        from = g.from;
        to = g.to;
        chain = (g.chain.0, (w.0, w.1, p, s));
        unranked = sym (agree i a b g.factor g.from g.to) ∙ g.unranked;
      }
  broken_too r q agree (Goal i a b) g = record {
    factor = g.factor;
    from = g.from;
    to = g.to;
    ranked = sym (agree i a b g.factor g.from g.to) ∙ g.ranked;
    goal = g.goal;
    miss = g.miss;
  }
  broken_too r q agree (Reply i a b k) g = record {
    factor = g.factor;
    from = g.from;
    to = g.to;
    known = g.known;
    ranked = sym (agree i a b g.factor g.from g.to) ∙ g.ranked;
    into = g.into;
    moves = g.moves;
    unanswered = λ p. g.unanswered
        (reply_too q r (turned t r q agree) i k g.into b g.factor (closed i k a g.into g.from g.moves) g.to p);
  }

  -- they break a rule first at the same place
  first_once : (r q : Ranking) → Agree t r q → (e f : Refusal) → FirstBroken t r e → FirstBroken t q f → e ≡ f
  first_once r q agree e f g h = elim (turns t r q e f g.broken h.broken) [
    | inl p ↦ p
    | inr w ↦ absurd (elim w [
      | inl l ↦ h.first e l (broken_too r q agree e g.broken)
      | inr l ↦ g.first f l (broken_too q r (turned t r q agree) f h.broken)
    ])
  ]

  -- ---- one ranking file
  module _ (bytes : List ℕ) where
    -- what the file lists is one relation
    pub offered_agree : (o p : Offered t bytes) → Agree t o.relation p.relation
    offered_agree o p j a b hj ha hb =
        let same = accepted_once (ranking_file t) (ranking_way t) bytes p.file o.file in
        let lists : Lists t o.file.ended.before p.relation = subst (λ cs. Lists t cs p.relation) same p.lists in
        same_from_decides _ _ (o.lists j a b hj ha hb) (lists j a b hj ha hb)

    pub unfit_once : (e f : Refusal) → Unfit t bytes e → Unfit t bytes f → e ≡ f
    unfit_once e f (misread g) (misread h) = rejected_once (ranking_file t) (ranking_way t) bytes e f g h
    unfit_once e f (misread g) (broken o h) = absurd (accepted_rejected (ranking_file t) (ranking_way t) bytes e o.file g)
    unfit_once e f (broken o g) (misread h) = absurd (accepted_rejected (ranking_file t) (ranking_way t) bytes f o.file h)
    unfit_once e f (broken o g) (broken p h) = first_once o.relation p.relation (offered_agree o p) e f g h

    pub fit_unfit : (e : Refusal) → Fit t bytes → Unfit t bytes e → ⊥
    fit_unfit e f (misread h) = accepted_rejected (ranking_file t) (ranking_way t) bytes e f.offered.file h
    fit_unfit e f (broken o h) =
        breaks_none t f.offered.relation e f.simulation
        (broken_too o.relation f.offered.relation (offered_agree o f.offered) e h.broken)

-- ---- both files
module _ (site : List ℕ) where
  pub closed : (a : Accepted site_file site) → Closed (task_of a)
  closed a = moves_land a.ended.before a.ended.came.sound

  -- a site file has one task
  pub task_once : (a b : Accepted site_file site) → task_of a ≡ task_of b
  task_once a b = ap (λ cs. task (describes cs)) (accepted_once site_file site_way site a b)

  refused_not : {A : Type 0} (e : Refusal) → Accepted site_file site → Rejected site_file site e → A
  refused_not e a r = absurd (accepted_rejected site_file site_way site e a r)

  -- one judgement fits
  pub judged_once : (ranking : Option (List ℕ)) (j k : Judgement) → Judged site ranking j → Judged site ranking k → j ≡ k
  judged_once ranking j k (site_refused r) (site_refused s) = ap (λ e. Err (rejection.Site e)) (rejected_once site_file site_way site _ _ r s)
  judged_once ranking j k (site_refused r) (site_alone b) = refused_not _ b r
  judged_once ranking j k (site_refused r) (ranking_refused b u) = refused_not _ b r
  judged_once ranking j k (site_refused r) (ranking_fit b f) = refused_not _ b r
  judged_once ranking j k (site_alone a) (site_refused s) = refused_not _ a s
  judged_once ranking j k (site_alone a) (site_alone b) = refl
  judged_once ranking j k (ranking_refused a u) (site_refused s) = refused_not _ a s
  judged_once ranking j k (ranking_refused {bytes = bytes} a u) (ranking_refused {e = f} b v) =
      ap (λ e. Err (rejection.Ranking e)) (unfit_once (task_of a) (closed a) bytes _ _ u (subst (λ t. Unfit t bytes f) (task_once b a) v))
  judged_once ranking j k (ranking_refused {bytes = bytes} a u) (ranking_fit b f) =
      absurd (fit_unfit (task_of a) (closed a) bytes _ (subst (λ t. Fit t bytes) (task_once b a) f) u)
  judged_once ranking j k (ranking_fit a f) (site_refused s) = refused_not _ a s
  judged_once ranking j k (ranking_fit {bytes = bytes} a f) (ranking_refused {e = e} b v) =
      absurd (fit_unfit (task_of a) (closed a) bytes e f (subst (λ t. Unfit t bytes e) (task_once b a) v))
  judged_once ranking j k (ranking_fit a f) (ranking_fit b g) = refl
