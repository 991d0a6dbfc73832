use Rattle.std.proofs.Common.{◌<◌, length, length-set, take, None, slice_set, List, Option, ℕ, sym, ap, ◌∙◌, subst, rules}
use Rattle.estimators.specs.Columns.{cell, LowColumns}
use Rattle.std.proofs.lemmas.List.{get_or-take}
use Rattle.task.specs.Limits.{fact_limit}
use Rattle.estimators.proofs.Keeping.{low_front, low_more, cell_same, cell_other}
use Rattle.estimators.proofs.fact_costs.FactCosts.put.Goals as goal

pub invariant_of-self : goal.invariant_of-self
invariant_of-self c =
    let s = c.args.self.now in
    let h : c.args.factor < length s.columns = search rules in
    record { full = length-set s.columns c.args.factor _ ∙ s.full; low = subst (λ column. LowColumns (slice_set s.columns c.args.factor column)) (sym c.copy_from_slice.ensures.after) (low_more s.columns c.args.factor (take fact_limit c.args.table.now) h (low_front c.args.table.now fact_limit c.requires.low) s.low) }

pub returns : goal.returns
returns c =
    let s = c.args.self.now in
    let h : c.args.factor < length s.columns = search rules in
    record {
      given = λ x l. ap (λ (column : List (Option ℕ)). cell (slice_set s.columns c.args.factor column) c.args.factor x) c.copy_from_slice.ensures.after ∙ (cell_same s.columns c.args.factor (take fact_limit c.args.table.now) h x ∙ get_or-take fact_limit c.args.table.now x None l);
      others = λ j x ne. ap (λ (column : List (Option ℕ)). cell (slice_set s.columns c.args.factor column) j x) c.copy_from_slice.ensures.after ∙ cell_other s.columns c.args.factor (take fact_limit c.args.table.now) j x ne;
    }
