-- The table that a row is. Assumes nothing.
use Rattle.std.specs.Prelude.{ℕ, None, Option, slice_index_or}
use Rattle.std.proofs.Common.{arith, lit≤}
use Rattle.std.proofs.lemmas.List.{get_or_past}
use Rattle.lists.specs.Capacity.{capacity_limit}
use Rattle.lists.specs.declared.row.Row.{Row}
use Rattle.lists.specs.Least.{Bounded}

abbrev pub row_holds : {K : Type 0} → Row K → ℕ → Option K
row_holds s n = slice_index_or s.keys n None

pub row_laws : {K : Type 0} → Bounded {S = Row K} row_holds (λ _. capacity_limit)
row_laws = record {
  roomy = λ s. lit≤ tt;
  beyond = λ s n l. let e = s.full in get_or_past s.keys n None (omega arith);
}
