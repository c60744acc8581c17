-- What a printer was asked to print of a report; for private clauses.
use Rattle.std.specs.Prelude.{◌≡◌, IsSome}
use Rattle.cli_lines.specs.Printed.{Printed, Prints}
use Rattle.cli_runs.specs.Reports.{HasEnded}
use Rattle.cli_runs.specs.declared.report.Ended.{Ended}
use Rattle.cli_runs.specs.declared.report.Ended.TheVariants.{Refused}
use Rattle.cli_runs.specs.declared.report.Report.{Report}
use Rattle.cli_runs.specs.declared.report.Job.{Job}

-- this is true unless printing failed
abbrev pub UnlessFailed : {W : Type 0} → Printed W → Type 0 → Type 0
UnlessFailed new all = IsSome new.waiting → all

-- the printer was asked to print the lines of a report, which ended in this way; nothing if it was refused
abbrev pub HasPrinted : {W : Type 0} → Job → Printed W → Printed W → Report → Ended → Type 0
HasPrinted job old new of (Refused stop) = HasEnded (Prints old new) (UnlessFailed new) job.request.now job.name.now job.bytes.now of (Refused stop) × (new ≡ old)
HasPrinted job old new of ended = HasEnded (Prints old new) (UnlessFailed new) job.request.now job.name.now job.bytes.now of ended
