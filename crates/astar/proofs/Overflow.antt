-- Where there is no room for a state, more states can be reached than a board can hold. Assumes nothing.
use Rattle.std.proofs.Common.{◌≡◌, ℕ, suc, ◌<◌, ◌≤◌, Bool, ◌⊎◌, List, [], ◌∷◌, ◌++◌, map, length, get_or, Option, sym, ◌∙◌, subst, inl, inr, ⊎_elim, arith}
use Rattle.std.proofs.lemmas.List.{length-map, length_push, get_or-map, get_or_append_left, get_or_push}
use Rattle.std.proofs.lemmas.Bool.{cases_lt}
use Rattle.task.specs.Task.{FactoredTask, Lawful, Runs, Reachable, start_state}
use Rattle.estimators.specs.Estimates.{Consistent}
use Rattle.astar.specs.Limits.{entry_limit}
use Rattle.astar.specs.Boards.{Board, Entry, entry, nothing, Unheld, fills}
use Rattle.astar.specs.Laws.{AtLeast, Overflows}
use Rattle.astar.proofs.Runs.{runs_push}
use Rattle.astar.proofs.Ways.{way_runs}
use Rattle.astar.proofs.Invariant.{Between, Expanding}
use Rattle.astar.proofs.Treating.{tries}
use Rattle.astar.proofs.Taking.{Lowest, lowest, taking, searching as searches}

-- the states of n entries, and one more
at_least : (P : List ℕ → Type 0) (b : Board) (s : List ℕ) (n : ℕ) → length b.entries ≡ n → ((i : ℕ) → i < n → P (entry b i).state) → ((i j : ℕ) → i < n → j < n → (entry b i).state ≡ (entry b j).state → i ≡ j) → P s → Unheld b s → AtLeast (suc n) P
at_least P b s n long all apart one unheld = record {
  some = states;
  many = omega (arith, size, length_push (map (λ x. x.state) b.entries) s);
  all = λ i low. ⊎_elim (λ old. subst P (sym (at_old i old)) (all i old)) (λ new. subst P (sym (at_new i (omega arith))) one) (cases_lt i n);
  apart = λ i j low low' alike. go i j low low' alike (cases_lt i n) (cases_lt j n);
}
  where
    states : List (List ℕ)
    states = map (λ x. x.state) b.entries ++ s ∷ []

    size : length (map (λ (x : Entry). x.state) b.entries) ≡ n
    size = length-map b.entries (λ x. x.state) ∙ long

    at_old : (i : ℕ) → i < n → get_or states i [] ≡ (entry b i).state
    at_old i low = get_or_append_left _ (s ∷ []) [] i (omega (arith, size)) ∙ get_or-map (λ x. x.state) b.entries i nothing [] (omega arith)

    at_new : (i : ℕ) → n ≡ i → get_or states i [] ≡ s
    at_new i at = get_or_push _ s [] i (size ∙ at)

    other : (i : ℕ) → i < n → get_or states i [] ≡ s → ⊥
    other i low same = unheld i (omega arith, sym (at_old i low) ∙ same)

    go : (i j : ℕ) → i < suc n → j < suc n → get_or states i [] ≡ get_or states j [] → (i < n) ⊎ (n ≤ i) → (j < n) ⊎ (n ≤ j) → i ≡ j
    go i j low low' alike (inl old) (inl old') = apart i j old old' (sym (at_old i old) ∙ alike ∙ at_old j old')
    go i j low low' alike (inl old) (inr new') = absurd (other i old (alike ∙ at_new j (omega arith)))
    go i j low low' alike (inr new) (inl old') = absurd (other j old' (sym alike ∙ at_new i (omega arith)))
    go i j low low' alike (inr new) (inr new') = omega arith

module _ (t : FactoredTask) (below : List ℕ → List ℕ → Bool) (h : List ℕ → Option ℕ) (lawful : Lawful t) (consistent : Consistent t h) where
  pub overflows : Overflows t below h
  overflows b b' n searching (fills i l m s least end tried more step noroom) =
      at_least
      (Reachable t)
      b'
      s
      entry_limit
      noroom.full
      (λ j low. let w = here.sound.ways j (omega (arith, noroom.full)) in (w.0, way_runs w.1))
      (λ j k low low'. here.sound.apart j k (omega (arith, noroom.full)) (omega (arith, noroom.full)))
      (here.way.0 ++ suc l ∷ [], runs_push (subst (λ x. Runs t (start_state t) here.way.0 x.state) here.here (way_runs here.way.1)) step)
      noroom.unheld
    where
      c : Between t below h b n
      c = searches t below h lawful consistent searching

      low : Lowest h b c.floor i
      low = lowest t h b c.floor i c.sound least

      here : Expanding t below h i (entry b i) low.estimate b' l
      here = tries t below h lawful consistent (taking t below h c low end) tried
