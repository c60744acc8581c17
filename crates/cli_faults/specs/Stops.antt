-- Why a run stopped: its exit code and its line.
use Rattle.std.specs.Prelude.{ℕ, List, ◌++◌, codes}
use Rattle.table_schema.specs.Tokens.{token_text}
use Rattle.cli_faults.specs.Status.{status_of}
use Rattle.cli_faults.specs.Texts.{failure_text}
use Rattle.cli_faults.specs.declared.stop.Stop.{Stop}
use Rattle.cli_faults.specs.declared.stop.Stop.TheVariants.{Failed, BudgetSpent, Different, NothingAt, Broken, NoSuchType, NoSuchResource, ResourceElsewhere, ResourceOutside}

-- the exit code of a stop
abbrev pub status_of_stop : Stop → ℕ
status_of_stop (Failed failure) = status_of failure
status_of_stop BudgetSpent = 3
status_of_stop _ = 1

-- the line that reports a stop, without its line feed
abbrev pub stop_text : Stop → List ℕ
stop_text (Failed failure) = failure_text failure
stop_text BudgetSpent = codes "error: budget spent"
stop_text Different = codes "the files differ"
stop_text (NothingAt offset) = codes "nothing is at the offset"
stop_text Broken = codes "the file breaks a rule"
stop_text NoSuchType = codes "no such type"
stop_text NoSuchResource = codes "no such resource"
stop_text (ResourceElsewhere row) = codes "the resource " ++ token_text row ++ codes " is not in this file"
stop_text (ResourceOutside row) = codes "the resource " ++ token_text row ++ codes " is not within the resources directory"
