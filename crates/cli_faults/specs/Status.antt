-- The exit code of the process, and the failures that a step can end with.
use Rattle.std.specs.Prelude.{◌≡◌, ◌↔◌, ℕ, List}
use Rattle.std.specs.declared.io.ErrorKind.{ErrorKind}
use Rattle.std.specs.declared.io.ErrorKind.TheVariants as cause
use Rattle.cli_faults.specs.declared.failure.Failure.{Failure}
use Rattle.cli_faults.specs.declared.failure.Failure.TheVariants.{Fault, NoSuchRow, Usage, CannotRead, CannotWriteOutput, CannotWriteFile, CannotEmbed, OutOfMemory}
use Rattle.cli_faults.specs.FileErrors.{reason_of}

-- the exit code of a failure
abbrev pub status_of : Failure → ℕ
status_of (Fault found) = 1
status_of NoSuchRow = 1
status_of (CannotEmbed misfit) = 1
status_of (Usage usage_error) = 2
status_of _ = 3

-- the output could not be written, or memory ran out
abbrev pub IsOutput : Failure → Type 0
IsOutput (CannotWriteOutput reason) = Unit {0}
IsOutput OutOfMemory = Unit {0}
IsOutput _ = ⊥

-- this file could not be read, or memory ran out
abbrev pub IsUnread : List ℕ → Failure → Type 0
IsUnread file (CannotRead error) = error.path.now ≡ file
IsUnread file OutOfMemory = Unit {0}
IsUnread file _ = ⊥

-- this file could not be written, or memory ran out
abbrev pub IsUnwritten : List ℕ → Failure → Type 0
IsUnwritten file (CannotWriteFile error) = error.path.now ≡ file
IsUnwritten file OutOfMemory = Unit {0}
IsUnwritten file _ = ⊥

-- `OutOfMemory` is reported if and only if the error is of that kind
abbrev pub ReportsKind : ErrorKind → Failure → Type 0
ReportsKind kind failure = (kind ≡ cause.OutOfMemory) ↔ (failure ≡ OutOfMemory)

-- a failure about a file or the output has the reason for an error of this kind
abbrev pub HasReason : ErrorKind → Failure → Type 0
HasReason kind (CannotRead error) = error.reason ≡ reason_of kind
HasReason kind (CannotWriteFile error) = error.reason ≡ reason_of kind
HasReason kind (CannotWriteOutput reason) = reason ≡ reason_of kind
HasReason kind _ = Unit {0}
