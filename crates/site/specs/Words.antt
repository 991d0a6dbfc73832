-- How a refusal is written: its number, its layer and its place, parted by spaces. Assumes nothing.
use Rattle.std.specs.Prelude.{ℕ, List, ◌++◌, codes, decimal}
use Rattle.site.specs.declared.refusal.Layer.{Layer}
use Rattle.site.specs.declared.refusal.Layer.TheVariants.{Reader, Site, Ranking}
use Rattle.site.specs.declared.refusal.Place.{Place}
use Rattle.site.specs.declared.refusal.Place.TheVariants.{Offset, Facts}
use Rattle.site.specs.declared.refusal.Report.{Report}

abbrev pub layer_text : Layer → List ℕ
layer_text Reader = codes "reader"
layer_text Site = codes "site"
layer_text Ranking = codes "ranking"

abbrev pub place_text : Place → List ℕ
place_text (Offset at) = decimal at
place_text (Facts factor a b label) = decimal factor ++ (codes " " ++ (decimal a ++ (codes " " ++ (decimal b ++ (codes " " ++ decimal label)))))

abbrev pub report_text : Report → List ℕ
report_text r = codes "refused " ++ (decimal r.number ++ (codes " " ++ (layer_text r.layer ++ (codes " " ++ place_text r.place))))
