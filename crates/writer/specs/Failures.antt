-- When a call that offers bytes is a failure.
use Rattle.std.specs.Prelude.{ℕ, Bool, true, ◌&&◌, ◌==◌, nat_lt, List, length, Result, Ok, Err}

-- an error is a failure; so is 0 accepted of a nonempty list of bytes
abbrev pub is_failure : {E : Type 0} → Result ℕ E → List ℕ → Bool
is_failure (Ok taken) bytes = taken == 0 && nat_lt 0 (length bytes)
is_failure (Err error) bytes = true
