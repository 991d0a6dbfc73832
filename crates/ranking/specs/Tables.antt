-- How the tables of a ranking are read by number: false past the end. Assumes nothing.
use Rattle.std.specs.Prelude.{ℕ, ◌<◌, Bool, false, T, List, [], slice_index_or}
use Rattle.task.specs.Limits.{factor_limit, fact_limit}
use Rattle.ranking.specs.declared.order.Above.{Above}
use Rattle.ranking.specs.declared.order.Order.{Order}

abbrev pub above : Above → ℕ → Bool
above r b = slice_index_or r.facts b false

abbrev pub order : Order → ℕ → ℕ → Bool
order o a = above (slice_index_or o.rows a (record { facts = [] }))

-- by factor, fact and fact: whether the first stands under the second
abbrev pub rank : List Order → ℕ → ℕ → ℕ → Bool
rank parts j = order (slice_index_or parts j (record { rows = [] }))

-- each fact stands under itself
abbrev pub Reflexive : List Order → Type 0
Reflexive parts = (j a : ℕ) → j < factor_limit → a < fact_limit → T (rank parts j a a)
