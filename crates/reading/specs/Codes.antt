-- The results of checks of a number. The caller knows its offset.
use Rattle.std.specs.Prelude.{ℕ, Result, Ok, Err}
use Rattle.packed.specs.declared.code.FaultCode.{FaultCode}
use Rattle.packed.specs.declared.fault.Fault.{Fault}
use Rattle.packed.specs.Rule.{fault}

-- the result is that of a rule with this offset; its error is the code alone
abbrev pub code_at : {X : Type 0} → ℕ → Result X FaultCode → Result X Fault
code_at offset (Ok x) = Ok x
code_at offset (Err code) = Err (fault code offset)
