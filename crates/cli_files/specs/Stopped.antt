-- The lines that report why a run stopped early.
use Rattle.std.specs.Prelude.{ℕ, Bool, true, false, if◌then◌else◌, List, ◌∷◌, [], ◌++◌, codes, Option, Some, None, Result, Ok, Err}
use Rattle.std.specs.Borrow.{Bor}
use Rattle.cli_faults.specs.Escaped.{escaped_text}
use Rattle.cli_faults.specs.declared.failure.Failure.TheVariants.{CannotWriteOutput}
use Rattle.cli_faults.specs.declared.file_error.Reason.TheVariants.{ClosedPipe}
use Rattle.cli_faults.specs.declared.stop.Stop.{Stop}
use Rattle.cli_faults.specs.declared.stop.Stop.TheVariants.{Failed, Different, NothingAt, Broken}
use Rattle.cli_faults.specs.Stops.{status_of_stop, stop_text}
use Rattle.cli_files.specs.Hints.{hint_text}
use Rattle.cli_files.specs.declared.hint.Hint.{Hint}
use Rattle.cli_files.specs.declared.stopped.Stopped.{Stopped}

-- nothing is reported: standard output says why it stopped, or nobody reads it; for private clauses
abbrev pub is_silent : Stop → Bool
is_silent Different = true
is_silent (NothingAt offset) = true
is_silent Broken = true
is_silent (Failed (CannotWriteOutput ClosedPipe)) = true
is_silent _ = false

-- the line of a stop, if it is reported
abbrev pub stop_line : Stop → List ℕ
stop_line stop = if is_silent stop then [] else stop_text stop ++ 10 ∷ []

-- the line that names the file, if several are read
abbrev pub file_line : Option (Bor (List ℕ)) → List ℕ
file_line (Some path) = codes "  file: " ++ escaped_text path.now ++ 10 ∷ []
file_line None = []

-- the line of a hint, if there is one
abbrev pub hint_line : Option Hint → List ℕ
hint_line (Some hint) = hint_text hint ++ 10 ∷ []
hint_line None = []

-- what goes to standard error: the lines of the stop, of the file and of the hint, as far as there are
abbrev pub stopped_text : Stopped → List ℕ
stopped_text stopped = stop_line stopped.stop ++ file_line stopped.file ++ hint_line stopped.hint

-- how a run ends: it did its task, or it stopped early
abbrev pub Outcome : Type 0
Outcome = Result (Unit {0}) Stopped

-- the exit code
abbrev pub status_of_outcome : Outcome → ℕ
status_of_outcome (Ok done) = 0
status_of_outcome (Err stopped) = status_of_stop stopped.stop
