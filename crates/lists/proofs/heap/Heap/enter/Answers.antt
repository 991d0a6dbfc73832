use Rattle.std.proofs.Common.{◌≡◌, ◌+◌, ◌<◌, get_or, set, Some, None, sym, refl, ap, ◌∙◌, arith}
use Rattle.std.proofs.lemmas.List.{get_or-set_other}
use Rattle.lists.specs.Tables.{heap_holds, heap_order}
use Rattle.lists.proofs.Changing.{replaced_fronted, entered_fronted, loose_at}
use Rattle.lists.proofs.heap.Heap.enter.Goals as goal

pub invariant_of-self-clause-fronted : goal.invariant_of-self-clause-fronted
invariant_of-self-clause-fronted g c = replaced_fronted c.args.self.now c.args.number c.requires.within c.args.key c.if-at-last.true

pub returns-then-at-last-clause-loose : goal.returns-then-at-last-clause-loose
returns-then-at-last-clause-loose g c =
    let s = c.args.self.now in
    let number = c.args.number in
    let w = Some c.args.key in
    let counted = s.full.3 in
    loose_at g.met.K.Key.laws
    (heap_holds s) (λ m. get_or (set s.keys number w) m None) (heap_order s) (heap_order s) s.count s.count (get_or s.places number 0) number
    (λ m ne. get_or-set_other s.keys number m w None ne)
    (λ i l ic. (l, refl, λ e. ic (sym (s.listed.back i (omega arith)) ∙ ap (λ x. get_or s.places x 0) e)))
    c.requires.order

pub invariant_of-self-2-clause-fronted : goal.invariant_of-self-2-clause-fronted
invariant_of-self-2-clause-fronted g c =
    let s = c.args.self.now in
    let h = c.exchange.new.self in
    let went = c.exchange.ensures in
    let number = c.args.number in
    let left = c.if-at-last.false in
    let inside = s.placed.inside number c.requires.within in
    let at : get_or h.places number 0 ≡ s.count =
    sym (ap (λ x. get_or h.places x 0) (went.order.1 ∙ s.placed.back number c.requires.within)) ∙ h.listed.back s.count (omega arith) in
    entered_fronted h number c.requires.within s.count at c.args.key went.count

pub returns-clause-loose : goal.returns-clause-loose
returns-clause-loose g c =
    let s = c.args.self.now in
    let h = c.exchange.new.self in
    let went = c.exchange.ensures in
    let number = c.args.number in
    let w = Some c.args.key in
    let last = s.count in
    let counted = s.full.3 in
    let left = c.if-at-last.false in
    loose_at g.met.K.Key.laws
    (heap_holds s) (λ m. get_or (set h.keys number w) m None) (heap_order s) (heap_order h) last (last + 1) last number
    (λ m ne. get_or-set_other h.keys number m w None ne ∙ ap (λ ks. get_or ks m None) went.keys)
    (λ i l ic.
    let inside : i < last = omega arith in (
      inside,
      went.order.2 i (λ e. omega arith) ic,
      λ e. let same : i ≡ get_or s.places number 0 = sym (s.listed.back i (omega arith)) ∙ ap (λ x. get_or s.places x 0) e in omega arith,
    ))
    c.requires.order
