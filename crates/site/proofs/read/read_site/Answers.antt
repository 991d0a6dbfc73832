use Rattle.site.proofs.SiteReading.{site_read}
use Rattle.site.proofs.read.read_site.Goals as goal

pub returns : goal.returns
returns c = let a = c.in_ok-draft.ensures in site_read _ c.finish.result _ a.0 a.1 c.finish.ensures
