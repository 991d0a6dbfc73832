use Rattle.lists.specs.Capacity.{capacity_limit}
use Rattle.lists.proofs.Nones.{read_nones}
use Rattle.lists.proofs.row.Row.new.Goals as goal

pub returns : goal.returns
returns g c n = read_nones capacity_limit n
