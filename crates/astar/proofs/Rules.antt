-- The five rules exclude one another: a state is treated in one way only. Assumes nothing.
use Rattle.std.proofs.Common.{◌≡◌, ℕ, ◌<◌, Bool, List, length, Some, Option, sym, refl, ap, ◌∙◌, ap₂, arith}
use Rattle.task.specs.Task.{FactoredTask}
use Rattle.astar.specs.Limits.{entry_limit}
use Rattle.astar.specs.Boards.{Board, Entry, entry, Held, Unheld, lowered, entered, Dominated, Treats, known, improved, hopeless, dominated, new, NoRoom}
use Rattle.astar.proofs.Options.{some_same, not_both}
use Rattle.astar.proofs.Invariant.{Sound}

module _ (t : FactoredTask) (below : List ℕ → List ℕ → Bool) (h : List ℕ → Option ℕ) where
  -- s is not held, has an estimate and is not dominated at the cost g
  record Welcome (b : Board) (s : List ℕ) (g estimate : ℕ) : Type 0 where
    unheld : Unheld b s
    hopeful : h s ≡ Some estimate
    undominated : Dominated t below h b s g → ⊥

  -- an entry holds the state of e at a greater cost
  record Dearer (b : Board) (e : Entry) (i estimate : ℕ) : Type 0 where
    held : Held b e.state i
    less : e.cost < (entry b i).cost
    hopeful : h e.state ≡ Some estimate

  -- the rules by what they do to the board
  data Changes (b : Board) (e : Entry) : Board → Type 0 where
    nothing : ((i estimate : ℕ) → Dearer b e i estimate → ⊥) → ((estimate : ℕ) → Welcome b e.state e.cost estimate → ⊥) → Changes b e b
    lowers : (i estimate : ℕ) → Dearer b e i estimate → Changes b e (lowered b i e estimate)
    enters : (estimate : ℕ) → Welcome b e.state e.cost estimate → length b.entries < entry_limit → Changes b e (entered b e estimate)

  module _ {b : Board} {f : ℕ} (sound : Sound t h b f) where
    held_one : {s : List ℕ} {i j : ℕ} → Held b s i → Held b s j → i ≡ j
    held_one {i = i} {j = j} p q = sound.apart i j p.0 q.0 (p.1 ∙ sym q.1)

    changes : {e : Entry} {b' : Board} → Treats t below h b e b' → Changes b e b'
    changes {e} (known i held cheap) =
        nothing
        (λ j estimate dear. let same = ap (λ x. (entry b x).cost) (held_one held dear.held) in omega (arith, dear.less))
        (λ estimate fresh. fresh.unheld i held)
    changes (improved i estimate held less is) = lowers i estimate (record { held = held; less = less; hopeful = is })
    changes (hopeless unheld is) = nothing (λ i estimate dear. unheld i dear.held) (λ estimate fresh. not_both fresh.hopeful is)
    changes (dominated estimate unheld is better) = nothing (λ i estimate dear. unheld i dear.held) (λ estimate fresh. fresh.undominated better)
    changes (new estimate unheld is not room) = enters estimate (record { unheld = unheld; hopeful = is; undominated = not }) room

    changes_one : {e : Entry} {b' b'' : Board} → Changes b e b' → Changes b e b'' → b' ≡ b''
    changes_one (nothing low here) (nothing low' here') = refl
    changes_one (nothing low here) (lowers j d dear) = absurd (low j d dear)
    changes_one (nothing low here) (enters d fresh room) = absurd (here d fresh)
    changes_one (lowers i c dear) (nothing low here) = absurd (low i c dear)
    changes_one {e} (lowers i c dear) (lowers j d dear') = ap₂ (λ x y. lowered b x e y) (held_one dear.held dear'.held) (some_same (sym dear.hopeful ∙ dear'.hopeful))
    changes_one (lowers i c dear) (enters d fresh room) = absurd (fresh.unheld i dear.held)
    changes_one (enters c fresh room) (nothing low here) = absurd (here c fresh)
    changes_one (enters c fresh room) (lowers j d dear) = absurd (fresh.unheld j dear.held)
    changes_one {e} (enters c fresh room) (enters d fresh' room') = ap (entered b e) (some_same (sym fresh.hopeful ∙ fresh'.hopeful))

    pub treats_one : {e : Entry} {b' b'' : Board} → Treats t below h b e b' → Treats t below h b e b'' → b' ≡ b''
    treats_one p q = changes_one (changes p) (changes q)

  -- where there is no room, no rule treats the state
  pub untreated : {b b' : Board} {e : Entry} → NoRoom t below h b e → Treats t below h b e b' → ⊥
  untreated tight (known i held cheap) = tight.unheld i held
  untreated tight (improved i estimate held less is) = tight.unheld i held
  untreated tight (hopeless unheld is) = not_both tight.hopeful.1 is
  untreated tight (dominated estimate unheld is better) = tight.undominated better
  untreated tight (new estimate unheld is not room) = omega (arith, tight.full)
