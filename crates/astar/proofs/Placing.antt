-- An entry is put on the board, in the place of one that waits or after all others: what the search keeps still holds.
-- Assumes nothing.
use Rattle.std.proofs.Common.{◌≡◌, ℕ, ◌+◌, ◌<◌, ◌≤◌, Bool, true, ◌⊎◌, List, [], ◌∷◌, length, Some, None, Option, sym, refl, ap, ◌∙◌, subst, subst₂, inl, inr, ⊎_elim, le_of_eq, add-one, arith}
use Rattle.std.proofs.lemmas.List.{length-set, length_push, get_or-set_same, get_or-set_other, get_or_append_left, get_or_push}
use Rattle.std.proofs.lemmas.Map.{update_here, update_apart}
use Rattle.std.proofs.lemmas.Bool.{cases_eq}
use Rattle.task.specs.Task.{FactoredTask, State}
use Rattle.lists.specs.declared.keys.SearchKey.{SearchKey}
use Rattle.astar.specs.Limits.{entry_limit}
use Rattle.astar.specs.Boards.{Board, Entry, entry, nothing, key_of, lowered, entered, Unheld}
use Rattle.astar.proofs.Options.{not_both}
use Rattle.astar.proofs.Counting.{count, count_lowered, count_entered}
use Rattle.astar.proofs.Ways.{Way, Keeps, way_kept}
use Rattle.astar.proofs.Invariant.{Sound, Standing, waits, Met}

-- b' is b with e at i, where it waits; i is the place of an entry for the same state that waited and cost more, or the
-- first free place
pub record Puts (b b' : Board) (i : ℕ) (e : Entry) (estimate : ℕ) : Type 0 where
  pub here : entry b' i ≡ e
  pub key : b'.waiting i ≡ Some (key_of e.cost estimate i)
  pub inside : i < length b'.entries
  pub room : length b'.entries ≤ entry_limit
  pub wider : length b.entries ≤ length b'.entries
  pub later : 1 ≤ i
  pub old : (j : ℕ) → j < length b'.entries → (j ≡ i → ⊥) → j < length b.entries
  pub same : (j : ℕ) → j < length b.entries → (j ≡ i → ⊥) → entry b' j ≡ entry b j
  pub keys : (j : ℕ) → (j ≡ i → ⊥) → b'.waiting j ≡ b.waiting j
  pub fresh : (j : ℕ) → j < length b.entries → (j ≡ i → ⊥) → (entry b j).state ≡ e.state → ⊥
  pub lower : i < length b.entries → (e.state ≡ (entry b i).state) × (e.cost ≤ (entry b i).cost)
  pub waited : (j : ℕ) → j < length b.entries → b.waiting j ≡ None → j ≡ i → ⊥
  pub takes : b'.taken ≡ b.taken
  pub counts : count b'.waiting (length b'.entries) ≡ count b.waiting (length b.entries)

-- an entry that waits is lowered
pub puts_lowered : (b : Board) (i : ℕ) (e : Entry) (estimate : ℕ) (k : SearchKey) → length b.entries ≤ entry_limit → i < length b.entries → 1 ≤ i → b.waiting i ≡ Some k
    → (entry b i).state ≡ e.state → e.cost ≤ (entry b i).cost → ((j : ℕ) → j < length b.entries → (entry b j).state ≡ (entry b i).state → j ≡ i)
    → Puts b (lowered b i e estimate) i e estimate
puts_lowered b i e estimate k room inside later is state less one =
    let long = length-set b.entries i e in
    record {
      here = get_or-set_same b.entries i e nothing inside;
      key = update_here b.waiting i _;
      inside = omega arith;
      room = omega arith;
      wider = omega arith;
      later = later;
      old = λ j low apart. omega arith;
      same = λ j low apart. get_or-set_other b.entries i j e nothing apart;
      keys = λ j apart. update_apart b.waiting i _ j apart;
      fresh = λ j low apart alike. apart (one j low (alike ∙ sym state));
      lower = λ _. (sym state, less);
      waited = λ j low none at. not_both is (sym (ap b.waiting at) ∙ none);
      takes = refl;
      counts = ap (count _) long ∙ count_lowered b.waiting i (length b.entries) k _ is;
    }

-- a new entry is entered
pub puts_entered : (b : Board) (e : Entry) (estimate : ℕ) → length b.entries < entry_limit → 0 < length b.entries → Unheld b e.state → Puts b (entered b e estimate) (length b.entries) e estimate
puts_entered b e estimate room some unheld =
    let long = length_push b.entries e in
    record {
      here = get_or_push b.entries e nothing _ refl;
      key = update_here b.waiting (length b.entries) _;
      inside = omega arith;
      room = omega arith;
      wider = omega arith;
      later = omega arith;
      old = λ j low apart. omega arith;
      same = λ j low apart. get_or_append_left b.entries (e ∷ []) nothing j low;
      keys = λ j apart. update_apart b.waiting (length b.entries) _ j apart;
      fresh = λ j low apart alike. unheld j (low, alike);
      lower = λ low. absurd (omega arith);
      waited = λ j low none at. omega arith;
      takes = refl;
      counts = ap (count _) (long ∙ add-one _) ∙ count_entered b.waiting (length b.entries) _;
    }

module _ {b b' : Board} {i : ℕ} {e : Entry} {estimate : ℕ} (puts : Puts b b' i e estimate) where
  -- an entry of b' is the new one or an old one
  by_place : (P : ℕ → Type 0) (j : ℕ) → j < length b'.entries → P i → ((j ≡ i → ⊥) → j < length b.entries → P j) → P j
  by_place P j low new old = ⊎_elim (λ at. subst P (sym at) new) (λ apart. old apart (puts.old j low apart)) (cases_eq j i)

  pub puts_keeps : Keeps b b'
  puts_keeps j low none =
      let apart = puts.waited j low none in
      (omega (arith, puts.wider), puts.same j low apart, puts.keys j apart ∙ none)

  -- an entry taken on b' was taken on b
  pub puts_taken : (j : ℕ) → j < length b'.entries → b'.waiting j ≡ None → (j < length b.entries) × (b.waiting j ≡ None)
  puts_taken j low none =
      let apart : j ≡ i → ⊥ = λ at. not_both puts.key (sym (ap b'.waiting at) ∙ none) in
      (puts.old j low apart, sym (puts.keys j apart) ∙ none)

  -- an entry has the state that it had, and costs no more
  costs_less : (j : ℕ) → j < length b.entries → ((entry b' j).state ≡ (entry b j).state) × ((entry b' j).cost ≤ (entry b j).cost)
  costs_less j low = go (cases_eq j i)
    where
      go : (j ≡ i) ⊎ (j ≡ i → ⊥) → ((entry b' j).state ≡ (entry b j).state) × ((entry b' j).cost ≤ (entry b j).cost)
      go (inl at) = rw (at, puts.here) (puts.lower (subst (λ x. x < length b.entries) at low))
      go (inr far) = (ap (λ x. x.state) (puts.same j low far), le_of_eq (ap (λ x. x.cost) (puts.same j low far)))

  pub puts_met : (below : List ℕ → List ℕ → Bool) (h : List ℕ → Option ℕ) (s : List ℕ) (g : ℕ) → Met below h b s g → Met below h b' s g
  puts_met below h s g (inl hopeless) = inl hopeless
  puts_met below h s g (inr (j, low, cheap, covers)) =
      let (state, less) = costs_less j low in
      inr (j, omega (arith, puts.wider), omega arith, subst (λ x. (x ≡ s) ⊎ (below s x ≡ true)) (sym state) covers)

  module _ (t : FactoredTask) (h : List ℕ → Option ℕ) (f : ℕ) (sound : Sound t h b f) where
    stands_put : h e.state ≡ Some estimate → f ≤ e.cost + estimate → (j : ℕ) → j < length b'.entries → Standing t h f j (entry b' j) (b'.waiting j)
    stands_put hopes high j low =
        by_place
        (λ j. Standing t h f j (entry b' j) (b'.waiting j))
        j
        low
        (subst₂ (Standing t h f i) (sym puts.here) (sym puts.key) (waits estimate hopes high))
        (λ apart inside. subst₂ (Standing t h f j) (sym (puts.same j inside apart)) (sym (puts.keys j apart)) (sound.stands j inside))

    -- no other entry has the state of the new one
    alone : (k : ℕ) → k < length b'.entries → (k ≡ i → ⊥) → (entry b' k).state ≡ (entry b' i).state → ⊥
    alone k low apart alike =
        let inside = puts.old k low apart in
        puts.fresh k inside apart (sym (ap (λ x. x.state) (puts.same k inside apart)) ∙ alike ∙ ap (λ x. x.state) puts.here)

    apart_put : (j k : ℕ) → j < length b'.entries → k < length b'.entries → (entry b' j).state ≡ (entry b' k).state → j ≡ k
    apart_put j k low low' alike = go (cases_eq j i) (cases_eq k i)
      where
        same : (x : ℕ) → x < length b'.entries → (x ≡ i → ⊥) → (entry b' x).state ≡ (entry b x).state
        same x low far = ap (λ e. e.state) (puts.same x (puts.old x low far) far)

        go : (j ≡ i) ⊎ (j ≡ i → ⊥) → (k ≡ i) ⊎ (k ≡ i → ⊥) → j ≡ k
        go (inl at) (inl at') = at ∙ sym at'
        go (inl at) (inr far') = absurd (alone k low' far' (sym alike ∙ ap (λ x. (entry b' x).state) at))
        go (inr far) (inl at') = absurd (alone j low far (alike ∙ ap (λ x. (entry b' x).state) at'))
        go (inr far) (inr far') = sound.apart j k (puts.old j low far) (puts.old k low' far') (sym (same j low far) ∙ alike ∙ same k low' far')

    pub sound_put : State t e.state → h e.state ≡ Some estimate → f ≤ e.cost + estimate → (ls : List ℕ) → Way t b' i ls → length ls ≤ b.taken → Sound t h b' f
    sound_put state hopes high ls way short = record {
      room = puts.room;
      some = omega (arith, sound.some, puts.wider);
      start = ap (λ x. x.state) zeroth ∙ sound.start;
      free = ap (λ x. x.cost) zeroth ∙ sound.free;
      apart = apart_put;
      states = λ j low. by_place (λ j. State t (entry b' j).state) j low (subst (λ x. State t x.state) (sym puts.here) state) (λ apart inside. subst (λ x. State t x.state) (sym (puts.same j inside apart)) (sound.states j inside));
      stands = stands_put hopes high;
      past = λ j far. puts.keys j (omega (arith, puts.inside)) ∙ sound.past j (omega (arith, puts.wider));
      ways = λ j low.
          by_place
          (λ j. (ls : List ℕ) × Way t b' j ls × (length ls ≤ b'.taken))
          j
          low
          (ls, way, omega (arith, puts.takes))
          (λ apart inside. let w = sound.ways j inside in (w.0, way_kept puts_keeps low (puts.same j inside apart) w.1, omega (arith, w.2, puts.takes)));
      counts = puts.takes ∙ sound.counts ∙ sym puts.counts;
    }
      where
        zeroth : entry b' 0 ≡ entry b 0
        zeroth = puts.same 0 sound.some (omega (arith, puts.later))
