-- The lines that report failures.
use Rattle.std.specs.Prelude.{ℕ, List, [], ◌∷◌, ◌++◌, codes, Some}
use Rattle.packed.specs.Codes.{fault_text, name_of, number_of_code}
use Rattle.table_schema.specs.Tables.{table_name}
use Rattle.cli_faults.specs.Escaped.{escaped_text}
use Rattle.cli_faults.specs.FileErrors.{file_error_text, reason_text}
use Rattle.cli_faults.specs.declared.failure.Failure.{Failure}
use Rattle.cli_faults.specs.declared.failure.Failure.TheVariants.{Fault, NoSuchRow, Usage, NotUtf8, CannotRead, CannotWriteOutput, CannotWriteFile, CannotEmbed, OutOfMemory}
use Rattle.cli_faults.specs.declared.misfit.Misfit.{Misfit}
use Rattle.cli_faults.specs.declared.misfit.Misfit.TheVariants.{Unlike, Headers, Occupied, NoRoom, TooLong}
use Rattle.cli_faults.specs.declared.usage_error.UsageError.{UsageError}
use Rattle.cli_faults.specs.declared.usage_error.UsageError.TheVariants.{NoToken, NoCode, NoFile, FilesAndList, OutputIsDash, ExtractAlone, NoTable, NoOffset, NoColumn}

-- the line of a hint with a name, after a line feed
abbrev hint_with : List ℕ → List ℕ
hint_with name = 10 ∷ codes "  hint: the nearest name is '" ++ name ++ codes "'"

-- the hint with the name of a rule, of a table, or of a table and its column, if one is near
abbrev pub hint_text : UsageError → List ℕ
hint_text (NoCode word (Some code)) = hint_with (name_of (number_of_code code))
hint_text (NoTable word (Some table)) = hint_with (table_name table)
hint_text (NoColumn word (Some column)) = hint_with (table_name column.0 ++ codes "." ++ column.1.now)
hint_text _ = []

-- the line for an argument, escaped, that is not what is wanted, and that of a hint
abbrev pub wrong_text : List ℕ → List ℕ → List ℕ → List ℕ
wrong_text wanted word hint = codes "error: " ++ wanted ++ codes ", not '" ++ escaped_text word ++ codes "'" ++ hint

-- the line that reports an argument that is wrong, without its line feed; a line with a hint follows if a name is near
abbrev pub usage_text : UsageError → List ℕ
usage_text (NoToken word) = wrong_text (codes "HEX is one to eight hexadecimal digits, as '06001d06'") word.now []
usage_text (NoCode word code) = wrong_text (codes "CODE is the number or the name of a fault, which 'clim explain' lists") word.now (hint_text (NoCode word code))
usage_text NoFile = codes "error: no FILE given" ++ 10 ∷ codes "  hint: '-' reads standard input; 'clim <COMMAND> -h' shows the options"
usage_text FilesAndList = codes "error: '--files-from' and FILE exclude each other"
usage_text OutputIsDash = codes "error: OUT is a file, and '-' is none" ++ 10 ∷ codes "  hint: './-' is the file with that name"
usage_text ExtractAlone = codes "error: '--extract' takes one FILE, and no '--json', '-r' or list of files"
usage_text (NoTable word table) = wrong_text (codes "TABLE is a table, which 'clim show --help' lists") word.now (hint_text (NoTable word table))
usage_text (NoOffset word) = wrong_text (codes "OFFSET is a number, decimal or hexadecimal after '0x'") word.now []
usage_text (NoColumn word column) =
    wrong_text (codes "no such column: '--ignore' takes a table and one of its columns, as 'Module.Mvid'") word.now (hint_text (NoColumn word column))

-- the words for why a root does not fit
abbrev pub misfit_text : Misfit → List ℕ
misfit_text Unlike = codes "ROOT has other methods, addresses or user strings than FILE"
misfit_text Headers = codes "the headers of FILE overlap"
misfit_text Occupied = codes "something else is in the range of FILE's root"
misfit_text NoRoom = codes "the root is longer than FILE's, and FILE has no room for it"
misfit_text TooLong = codes "OUT would have more than 2^30 bytes"

-- the line that reports a failure, without its last line feed; arguments in it are escaped, and a line with the reason
-- follows the name of a file, or the output
abbrev pub failure_text : Failure → List ℕ
failure_text (Fault found) = fault_text found
failure_text NoSuchRow = codes "no such row"
failure_text (Usage usage_error) = usage_text usage_error
failure_text (NotUtf8 name) = codes "error: cannot read " ++ escaped_text name.now ++ 10 ∷ codes "  reason: its name is not UTF-8"
failure_text (CannotRead error) = codes "error: cannot read " ++ file_error_text error
failure_text (CannotWriteOutput reason) = codes "error: cannot write output" ++ 10 ∷ codes "  reason: " ++ reason_text reason
failure_text (CannotWriteFile error) = codes "error: cannot write " ++ file_error_text error
failure_text (CannotEmbed misfit) = codes "error: cannot embed the root" ++ 10 ∷ codes "  reason: " ++ misfit_text misfit
failure_text OutOfMemory = codes "error: out of memory"

-- what is printed of a file that breaks no rule
abbrev pub ok_text : List ℕ
ok_text = codes "ok"
