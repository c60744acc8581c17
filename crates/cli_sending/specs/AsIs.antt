-- A declaration as JSON has it: with the names as they are in the file. JSON has escapes of its own (RFC 8259).
use Rattle.std.specs.Prelude.{ℕ, if◌then◌else◌, List}
use Rattle.std.specs.Str.{is_utf8}
use Rattle.cli_sending.specs.Letters.{readable_after}
use Rattle.cli_sending.specs.declared.letters.ReadBack.TheVariants.{Bytes}

-- a text whose escapes are read back
abbrev pub unescaped : List ℕ → List ℕ
unescaped text = readable_after Bytes 0 text

-- The text of a declaration with the names as they are. If a name in it is cut within a character, it is no UTF-8 then: all
-- escapes stay.
abbrev pub as_is : List ℕ → List ℕ
as_is text = if is_utf8 (unescaped text) then unescaped text else text
