use Rattle.std.proofs.Common.{◌≡◌, ◌-◌, get_or, set, None, sym, ap, ◌∙◌, arith, lit<}
use Rattle.std.proofs.lemmas.List.{get_or-set_other}
use Rattle.lists.specs.Heaps.{earlier}
use Rattle.lists.specs.Tables.{heap_holds, heap_order}
use Rattle.lists.proofs.Heaping.{high_top}
use Rattle.lists.proofs.Changing.{set_is_update, left_fronted, loose_at, top_least}
use Rattle.lists.proofs.heap.Heap.leave.Goals as goal

pub invariant_of-self-clause-fronted : goal.invariant_of-self-clause-fronted
invariant_of-self-clause-fronted g c =
    let s = c.args.self.now in
    let h = c.exchange.new.self in
    let went = c.exchange.ensures in
    let number = get_or s.order 0 0 in
    let last = s.count - 1 in
    let counted = s.full.3 in
    let some = c.if-self-eq0.false in
    let same = went.count in
    let at : get_or h.places number 0 ≡ last = sym (ap (λ x. get_or h.places x 0) went.order.1) ∙ h.listed.back last (omega arith) in
    left_fronted h number (s.listed.inside 0 (omega arith)) last at (omega arith)

pub returns-clause-chosen : goal.returns-clause-chosen
returns-clause-chosen g c = let some = c.if-self-eq0.false in top_least c.args.self.now g.met.K.Key.laws (omega arith) c.requires

pub returns-clause-table : goal.returns-clause-table
returns-clause-table g c m =
    let s = c.args.self.now in
    let number = get_or s.order 0 0 in
    let within = s.listed.inside 0 (lit< tt) in
    let full = s.full.0 in
    ap (λ ks. get_or (set ks number None) m None) c.exchange.ensures.keys ∙ set_is_update s.keys number None m (omega arith)

pub returns-clause-high : goal.returns-clause-high
returns-clause-high g c =
    let s = c.args.self.now in
    let h = c.exchange.new.self in
    let went = c.exchange.ensures in
    let number = get_or s.order 0 0 in
    let last = s.count - 1 in
    let counted = s.full.3 in
    let some = c.if-self-eq0.false in
    high_top (earlier g.K.Key.sooner (λ m. get_or (set h.keys number None) m None)) (heap_order h) last
    (loose_at g.met.K.Key.laws
    (heap_holds s) (λ m. get_or (set h.keys number None) m None) (heap_order s) (heap_order h) s.count last 0 number
    (λ m ne. get_or-set_other h.keys number m None None ne ∙ ap (λ ks. get_or ks m None) went.keys)
    (λ i l ic. (
      omega arith,
      went.order.2 i ic (λ e. omega arith),
      λ e. ic (sym (s.listed.back i (omega arith)) ∙ ap (λ x. get_or s.places x 0) e ∙ s.listed.back 0 (omega arith)),
    ))
    c.requires)
