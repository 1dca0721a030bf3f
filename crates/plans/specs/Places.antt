-- The index of a place.
use Rattle.std.specs.Prelude.{ℕ, ◌-◌, cond, Some, None, Option}
use Rattle.theory.specs.Calls.{between}

-- places count from 1, indices from 0
abbrev pub index_of : ℕ → ℕ → Option ℕ
index_of place len = cond (between 1 len place) (Some (place - 1)) None
