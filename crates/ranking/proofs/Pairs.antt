-- What is listed in a ranking.
use Rattle.std.proofs.Common.{◌≡◌, ℕ, ◌+◌, ◌<◌, Bool, true, false, ◌&&◌, T, eqb, ltb, ◌⊎◌, List, [], ◌∷◌, length, set, replicate, None, Ok, Err, Result, MatchResult, Decides, sym, refl, ap, ◌∙◌, subst, inl, inr, arith}
use mathlib.Core.Path.{fun_ext}
use Rattle.std.proofs.lemmas.Bool.{cases_eq}
use Rattle.std.proofs.lemmas.Bool.Decides.{nat_tests}
use Rattle.site.specs.Files.{Among, ReadInto, Rejected}
use Rattle.site.specs.declared.refusal.Refusal.{Refusal}
use Rattle.task.specs.Limits.{factor_limit, fact_limit}
use Rattle.task.specs.Meaning.{meaning}
use Rattle.ranking.specs.Tables.{above, order, rank, Reflexive}
use Rattle.ranking.specs.Ranking as ranking
use Rattle.ranking.specs.Reading.{Listed, RankingRead}
use Rattle.site.specs.Changes.{put}
use Rattle.task.specs.Task.{FactoredTask}
use Rattle.ranking.specs.RankingFile.{knows, fault_of, ranking_file, lists}
use Rattle.ranking.specs.declared.listing.Listing.{Listing}
use Rattle.ranking.specs.declared.listing.Listing.TheVariants.{Pair}
use Rattle.ranking.specs.declared.order.Above.{Above}
use Rattle.ranking.specs.declared.order.Order.{Order}
use Rattle.ranking.specs.declared.order.Ranking.{Ranking}
use Rattle.task.specs.declared.task.Task.{Task}
use Rattle.task.proofs.Blank.{get_d_either}
use Rattle.site.proofs.Changing.{set_puts}

abbrev past_above : Above
past_above = record { facts = [] }

abbrev past_order : Order
past_order = record { rows = [] }

pub order_listed : (o : Order) (x y : ℕ) (r : Above) → x < length o.rows → above r ≡ put y true (order o x)
    → order (record { rows = set o.rows x r }) ≡ put x (put y true (order o x)) (order o)
order_listed o x y r h e = fun_ext (λ a. set_puts above o.rows x r past_above (put y true (order o x)) h e a)

pub rank_listed : (parts : List Order) (i x y : ℕ) (o : Order) → i < length parts → order o ≡ put x (put y true (rank parts i x)) (rank parts i)
    → rank (set parts i o) ≡ lists (Pair i x y) (rank parts)
rank_listed parts i x y o h e = fun_ext (λ j. set_puts order parts i o past_order (put x (put y true (rank parts i x)) (rank parts i)) h e j)

abbrev none_above : Above
none_above = record { facts = replicate fact_limit false }

pub identity_none : (a b : ℕ) → order (record { rows = replicate fact_limit none_above }) a b ≡ (eqb a b && ltb a 0)
identity_none a b =
    let p : order (record { rows = replicate fact_limit none_above }) a b ≡ false = get_d_either (λ r. above r b ≡ false) fact_limit a none_above past_above (get_d_either (λ t. t ≡ false) fact_limit b false false refl refl) refl in
    p ∙ grind (arith, nat_tests)

pub identity_more : (f g : ℕ → ℕ → Bool) (n : ℕ) → ((a b : ℕ) → f a b ≡ (eqb a b && ltb a n)) → g ≡ put n (put n true (f n)) f
    → (a b : ℕ) → g a b ≡ (eqb a b && ltb a (n + 1))
identity_more f g n h e a b = let p = h a b in let q = h n b in ap (λ (k : ℕ → ℕ → Bool). k a b) e ∙ grind (arith, nat_tests)

passes : (b : Bool) → b ≡ true → T b
passes b e = subst T (sym e) tt

-- a pair that is listed is true, and any other is as it was
listed_at : (r : ranking.Ranking) (i x y j a b : ℕ)
    → ((j ≡ i) × (a ≡ x) × (b ≡ y) × (lists (Pair i x y) r j a b ≡ true)) ⊎ (((j ≡ i) × (a ≡ x) × (b ≡ y) → ⊥) × (lists (Pair i x y) r j a b ≡ r j a b))
listed_at r i x y j a b = elim (cases_eq j i) [
  | inl p ↦ elim (cases_eq a x) [
    | inl q ↦ elim (cases_eq b y) [
      | inl s ↦ inl (p, q, s, grind (arith, nat_tests))
      | inr n ↦ inr (λ w. n w.2, grind (arith, nat_tests))
    ]
    | inr n ↦ inr (λ w. n w.1, grind (arith, nat_tests))
  ]
  | inr n ↦ inr (λ w. n w.0, grind (arith, nat_tests))
]

pub own_kept : (parts : List Order) (i x y : ℕ) (o : Order) → i < length parts → order o ≡ put x (put y true (rank parts i x)) (rank parts i)
    → Reflexive parts → Reflexive (set parts i o)
own_kept parts i x y o h e own j a jl al =
    let at : rank (set parts i o) j a a ≡ lists (Pair i x y) (rank parts) j a a = ap (λ (f : ranking.Ranking). f j a a) (rank_listed parts i x y o h e) in
    elim (listed_at (rank parts) i x y j a a) [ inl p ↦ passes _ (at ∙ p.3) | inr p ↦ subst T (sym (at ∙ p.1)) (own j a jl al) ]

-- what `Listed` says of a ranking's relation
abbrev Lists : List Listing → ranking.Ranking → Type 0
Lists cs r = (j a b : ℕ) → j < factor_limit → a < fact_limit → Decides (r j a b) ((a ≡ b) ⊎ Among (Pair j a b) cs)

pub pair_more : (cs : List Listing) (i x y : ℕ) (r r' : ranking.Ranking) → Lists cs r → r' ≡ lists (Pair i x y) r → Lists (Pair i x y ∷ cs) r'
pair_more cs i x y r r' h e j a b jl al =
    let at : r' j a b ≡ lists (Pair i x y) r j a b = ap (λ (f : ranking.Ranking). f j a b) e in
    let d = h j a b jl al in
    elim (listed_at r i x y j a b) [
      | inl p ↦ let s : Pair i x y ≡ Pair j a b = let u = p.0 in let v = p.1 in let w = p.2 in cc in (λ _. inr (inl s), λ _. at ∙ p.3)
      | inr p ↦ (
        λ t. elim (d.0 (sym (at ∙ p.1) ∙ t)) [ inl s ↦ inl s | inr s ↦ inr (inr s) ],
        λ w. at ∙ p.1 ∙ d.1 (elim w [
          | inl s ↦ inl s
          | inr v ↦ elim v [
            | inl s ↦ absurd (p.0 (let u : j ≡ i = cc in let v : a ≡ x = cc in let w : b ≡ y = cc in (u, v, w)))
            | inr s ↦ inr s
          ]
        ]),
      )
    ]

pub known_fine : (t : FactoredTask) (j a b : ℕ) → true ≡ knows t j a → true ≡ knows t j b → fault_of t (Pair j a b) ≡ None
known_fine t j a b p q = rw (← p, ← q) refl

-- what the reader of files says, for a ranking file
pub read_into : (t : Task) (bytes : List ℕ) (r : Result Ranking Refusal) → ReadInto (ranking_file (meaning t)) (λ k cs. Listed cs k) bytes r
    → MatchResult r (λ k. RankingRead t bytes k) (λ refusal. Rejected (ranking_file (meaning t)) bytes refusal)
read_into t bytes (Ok k) w = record {
  accepted = w.0;
  means = λ j a b jl al bl. let few = t.few in let small = t.small j jl in w.1 j a b (omega arith) (omega arith);
}
read_into t bytes (Err refusal) w = w
