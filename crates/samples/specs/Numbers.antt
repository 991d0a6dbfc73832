-- The row of random numbers. Assumes nothing.
use Rattle.std.specs.Prelude.{ℕ, ◌+◌, ◌*◌, ◌%◌, ◌^◌}

-- the number after this one in the linear congruential row
abbrev pub following : ℕ → ℕ
following n = (n * 6364136223846793005 + 1442695040888963407) % 2 ^ 64
