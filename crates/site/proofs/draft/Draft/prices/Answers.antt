use Rattle.std.proofs.Common.{◌≡◌, ◌+◌, length, get_or, None, inl, inr, rules, arith}
use Rattle.std.proofs.lemmas.Bool.{cases_lt}
use Rattle.std.proofs.lemmas.List.{get_or_past}
use Rattle.task.specs.Limits.{label_limit}
use Rattle.site.proofs.draft.Draft.prices.Goals as goal

pub returns : goal.returns
returns c = λ l.
    let a : length c.map.result ≡ label_limit + 1 = search rules in
    let b : length c.args.self.now.tables.costs ≡ label_limit + 1 = search rules in
    elim (cases_lt l (label_limit + 1)) [
      | inl h ↦ let w = c.map.ensures.items.at l None 0 h in search rules
      | inr h ↦ let p : get_or c.map.result l 0 ≡ 0 = get_or_past _ l 0 (omega arith) in
          let q : get_or c.args.self.now.tables.costs l None ≡ None = get_or_past _ l None (omega arith) in rw (p, q)
    ]
