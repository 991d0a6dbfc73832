-- A row of `None`, of which each place reads `None`. Assumes nothing.
use Rattle.std.proofs.Common.{◌≡◌, ℕ, get_or, replicate, None, Option, ⊎_elim, arith}
use Rattle.std.proofs.lemmas.List.{get_or-replicate, get_or_past, length-replicate}
use Rattle.std.proofs.lemmas.Bool.{cases_lt}

pub read_nones : {K : Type 0} (m n : ℕ) → get_or {A = Option K} (replicate m None) n None ≡ None
read_nones {K} m n =
    ⊎_elim (λ l. get_or-replicate m n None None l)
    (λ l. get_or_past (replicate m None) n None (let e = length-replicate {A = Option K} m None in omega arith))
    (cases_lt n m)
