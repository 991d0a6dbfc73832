-- What the tables of a draft describe. Assumes nothing.
use Rattle.std.specs.Prelude.{◌≡◌, ℕ, ◌<◌, ◌≤◌, T, None, slice_index_or}
use Rattle.task.specs.Limits.{factor_limit, fact_limit, label_limit}
use Rattle.task.specs.Tables.{part, row, entry, within}
use Rattle.site.specs.SiteFile.{Described}
use Rattle.site.specs.declared.tables.Tables.{Tables}

abbrev pub described : Tables → Described
described d = record {
  factors = d.factors;
  labels = d.labels;
  declared = d.declared;
  facts = λ j. (part d.parts j).facts;
  start = λ j. (part d.parts j).start;
  goal = λ j x. (row (part d.parts j) x).goal;
  cost = λ l. slice_index_or d.costs l None;
  moves = λ j l x. entry (part d.parts j) l x;
}

-- What commands that are fine describe keeps to the limits.
pub record Limited (t : Described) : Type 0 where
  pub few : t.factors ≤ factor_limit
  pub coded : t.labels ≤ label_limit
  pub ahead : t.declared ≤ t.factors
  pub begun : 0 < t.factors → 0 < t.labels
  pub small : (j : ℕ) → t.facts j ≤ fact_limit
  pub blank : (j : ℕ) → t.declared ≤ j → t.facts j ≤ 0
  pub starts : (j : ℕ) → j < t.declared → t.start j < t.facts j
  pub lands : (j l x : ℕ) → T (within (t.moves j l x) (t.facts j))
  pub costs : (l : ℕ) → label_limit < l → t.cost l ≡ None
