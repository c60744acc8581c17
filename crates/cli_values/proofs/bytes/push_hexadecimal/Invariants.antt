use Rattle.std.proofs.Common.{◌≡◌, ◌++◌, string_bytes, take, flat_map}
use Rattle.table_schema.specs.Tokens.{hexadecimal}
use Rattle.cli_values.proofs.bytes.push_hexadecimal.Given as goal

abbrev pub invariant-loop-byte : goal.invariant-loop-byte
invariant-loop-byte l = string_bytes l.text ≡ string_bytes l.initial.text ++ flat_map (hexadecimal 2) (take l.byte-index l.bytes)
