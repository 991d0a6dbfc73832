-- A table decides what is answered to a row of calls. Assumes nothing.
use Rattle.std.proofs.Common.{◌≡◌, ℕ, ◌+◌, ◌<◌, ◌≤◌, Bool, false, List, [], ◌∷◌, ◌++◌, length, get_or, take, set, Some, None, Option, sym, refl, ap, ◌∙◌, subst, ap₂, subst₂, arith}
use Rattle.std.proofs.lemmas.List.{take_more, take_more_set}
use Rattle.lists.specs.declared.runs.Answer.{Answer}
use Rattle.lists.specs.declared.runs.Answer.TheVariants.{Taken}
use Rattle.lists.specs.declared.runs.Request.{Request}
use Rattle.lists.specs.declared.runs.Request.TheVariants.{Empty, Put, Take}
use Rattle.lists.specs.Least.{Least, Chosen, Without}
use Rattle.lists.specs.Runs.{Answers, Runs, ends, goes_on, Decided}
use Rattle.lists.proofs.Scanning.{some_none}

without_same : {K : Type 0} (table after after' : ℕ → Option K) (r : Option ℕ) → Without table after r → Without table after' r → (n : ℕ) → after' n ≡ after n
without_same table after after' None h h' n = h' n ∙ sym (h n)
without_same table after after' (Some m) h h' n = h' n ∙ sym (h n)

module _ {K : Type 0} (sooner : K → K → Bool) (ties : (x y : K) → sooner x y ≡ false → sooner y x ≡ false → x ≡ y) where
  pub least_same : (table : ℕ → Option K) (n m : ℕ) (j k : K) → Least sooner table n j → Least sooner table m k → m ≡ n
  least_same table n m j k a b =
      let same : j ≡ k = ties j k (b.least n j a.held) (a.least m k b.held) in
      let up : n ≤ m = a.lowest m (b.held ∙ ap Some (sym same)) in
      let down : m ≤ n = b.lowest n (a.held ∙ ap Some same) in
      omega arith

  chosen_same : (table : ℕ → Option K) (r r' : Option ℕ) → Chosen sooner table r → Chosen sooner table r' → r' ≡ r
  chosen_same table None None h h' = refl
  chosen_same table None (Some n) h h' = some_none (table n) h'.0 (h n) h'.1.held
  chosen_same table (Some n) None h h' = some_none (table n) h.0 (h' n) h.1.held
  chosen_same table (Some n) (Some m) h h' = ap Some (least_same table n m h.0 h'.0 h.1 h'.1)

  module _ (capacity : ℕ) where
    answers_same : (table after after' : ℕ → Option K) (request : Request K) (answer answer' : Answer)
        → Answers sooner capacity table request answer after → Answers sooner capacity table request answer' after'
        → (answer' ≡ answer) × ((n : ℕ) → after' n ≡ after n)
    answers_same table after after' Empty answer answer' h h' = (h'.0 ∙ sym h.0, λ n. h'.1 n ∙ sym (h.1 n))
    answers_same table after after' (Put number key) answer answer' h h' = (h'.0 ∙ sym h.0, λ n. h'.1 n ∙ sym (h.1 n))
    answers_same table after after' Take answer answer' (r, says, chosen, without) (r', says', chosen', without') =
        let same : r' ≡ r = chosen_same table r r' chosen chosen' in
        (says' ∙ ap Taken same ∙ sym says, without_same table after after' r without (subst (Without table after') same without'))

    pub decided : (table after : ℕ → Option K) (requests : List (Request K)) (answers : List Answer)
        → Runs sooner capacity table requests answers after → Decided sooner capacity table requests answers after
    decided table after _ _ (ends _ _ e) table' after' _ agree (ends _ _ e') = (refl, λ n. e' n ∙ agree n ∙ sym (e n))
    decided table after _ _ (goes_on _ next _ request answer requests answers h hs) table' after' _ agree (goes_on _ next' _ _ answer' _ answers' h' hs') =
        let one = answers_same table next next' request answer answer' h (subst (λ t. Answers sooner capacity t request answer' next') (λ i n. agree n i) h') in
        let more = decided next after requests answers hs next' after' answers' one.1 hs' in
        (ap₂ (λ x xs. x ∷ xs) one.0 more.0, more.1)

    -- one call more
    runs_more : (table middle after : ℕ → Option K) (requests : List (Request K)) (answers : List Answer) (request : Request K) (answer : Answer)
        → Runs sooner capacity table requests answers middle → Answers sooner capacity middle request answer after
        → Runs sooner capacity table (requests ++ (request ∷ [])) (answers ++ (answer ∷ [])) after
    runs_more table middle after _ _ request answer (ends _ _ e) h =
        goes_on table after after request answer [] [] (subst (λ t. Answers sooner capacity t request answer after) (λ i n. e n i) h) (ends after after (λ n. refl))
    runs_more table middle after _ _ request answer (goes_on _ next _ first said requests answers g gs) h =
        goes_on table next after first said (requests ++ (request ∷ [])) (answers ++ (answer ∷ [])) g (runs_more next middle after requests answers request answer gs h)

    -- the same, where the calls and the answers are the fronts of longer rows
    pub fronts_more : (table middle after : ℕ → Option K) (requests : List (Request K)) (answers : List Answer) (at : ℕ) (request : Request K) (answer : Answer)
        → at < length requests → at < length answers → request ≡ get_or requests at request
        → Runs sooner capacity table (take at requests) (take at answers) middle → Answers sooner capacity middle request answer after
        → Runs sooner capacity table (take (at + 1) requests) (take (at + 1) (set answers at answer)) after
    fronts_more table middle after requests answers at request answer l m here h more =
        subst₂ (λ rs as'. Runs sooner capacity table rs as' after)
        (sym (take_more requests at request l ∙ ap (λ r. take at requests ++ (r ∷ [])) (sym here)))
        (sym (take_more_set answers at answer m))
        (runs_more table middle after (take at requests) (take at answers) request answer h more)
