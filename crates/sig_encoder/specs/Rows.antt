-- The effect of a part of a signature on the row checker (ECMA-335 II.23.2.8): it stops at a type index without a row.
use Rattle.std.specs.Prelude.{if◌then◌else◌, Some, Result, Ok, Err}
use Rattle.sig_grammar.specs.Parts.{byte, number, signed, index}
use Rattle.sig_grammar.specs.Encodes.{has_row}
use Rattle.sig_encoder.specs.Items.{Item, part, broken}
use Rattle.sig_encoder.specs.declared.row_checker.RowChecker.{RowChecker}

unfoldable pub row_checker_step : Item → RowChecker → Result RowChecker RowChecker
row_checker_step broken rows = Ok rows
row_checker_step (part (byte c)) rows = Ok rows
row_checker_step (part (number n)) rows = Ok rows
row_checker_step (part (signed z)) rows = Ok rows
row_checker_step (part (index token)) rows = if has_row rows.counts.now token then Ok rows else Err (record { counts = rows.counts; bad = Some token })
