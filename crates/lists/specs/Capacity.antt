-- For how many numbers every list has room. Assumes nothing.
use Rattle.std.specs.Prelude.{ℕ}

abbrev pub capacity_limit : ℕ
capacity_limit = 1024
