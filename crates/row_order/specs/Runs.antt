-- The results of a pass over the owners of runs.
use Rattle.std.specs.Prelude.{ℕ, List, Option, Some, None}
use Rattle.packed.specs.declared.code.FaultCode.TheVariants.{BadRun}
use Rattle.packed.specs.declared.fault.Fault.{Fault}
use Rattle.packed.specs.Rule.{Rule, AllHold, FirstBroken, fault}
use Rattle.table_schema.specs.declared.table.TableId.{TableId}
use Rattle.metadata.specs.SourceAt.{SourceAt, cell_offset}

-- no fault if all rules hold, else the fault of the first broken rule
abbrev pub IsVerdict : List (Rule Fault) → Option Fault → Type 0
IsVerdict rules None = AllHold rules
IsVerdict rules (Some found) = FirstBroken rules found

-- the fault of an owner's row, if there is one
abbrev pub fault_in_row : SourceAt → TableId → ℕ → Option ℕ → Option Fault
fault_in_row here owner column None = None
fault_in_row here owner column (Some row) = Some (fault BadRun (cell_offset here owner row column))
