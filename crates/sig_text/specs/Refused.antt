-- The result of a call and the state of its sink.
use Rattle.std.specs.Prelude.{Bool, true, Option, Some, None}

-- whether the sink refused a word so far: true after a call that returns `None`, otherwise unchanged
abbrev pub refused_after : {A : Type 0} → Option A → Bool → Bool
refused_after None before = true
refused_after (Some x) before = before
