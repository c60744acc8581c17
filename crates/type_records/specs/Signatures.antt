-- The content of a blob in a column of signatures (ECMA-335 II.23.2).
use Rattle.std.specs.Prelude.{ℕ, List, [], Option, Some, None}
use Rattle.table_schema.specs.declared.column.SigKind.{SigKind}
use Rattle.sig_grammar.specs.Syntax.{Body, locals}
use Rattle.sig_grammar.specs.Reading.{core_at}
use Rattle.sig_grammar.specs.Columns.{body_at}

-- the signature that was read, without the remaining bytes; if none was read, no local variables
abbrev pub read_or_none : Option (Body × List ℕ) → Body
read_or_none None = locals []
read_or_none (Some found) = found.0

-- the signature that a blob encodes in a column of a kind
unfoldable pub encoded : SigKind → List ℕ → Body
encoded column blob = read_or_none (body_at column (core_at 128) blob)
