-- What several proofs of this crate name of std, of the crates below, and of its own definitions.
pub use Rattle.std.proofs.Common.{◌≡◌, ◌∙◌, ℕ, zero, suc, ◌+◌, ◌-◌, ◌/◌, ◌%◌, ◌^◌, ◌<◌, ◌≤◌, false, List, [], ◌∷◌, ◌++◌, length, replicate, refl, ap, sym, subst, append_assoc, append-nil, arith, cond, ◌≢◌, ◌⊎◌, Bool, true, Option, None, Some, fold, map, codes, decimal, ◌==◌, get_or, IsTrue, ◌*◌, ◌&&◌, T, eqb, eqb→eq, eq-zero-or-pos, take, drop, inl, inr, if◌then◌else◌, rules}
pub use Rattle.std.proofs.Math.Logic.{⊎_elim}
pub use Rattle.std.proofs.lemmas.Bool.{cases_lt, eq-eqb, ne_eqb, lt-ltb, le-ltb}
pub use Rattle.std.proofs.lemmas.Fmt.{hex_byte, decimal_digit}
pub use Rattle.std.proofs.lemmas.Grind.{flat_map-append}
pub use Rattle.std.proofs.lemmas.List.{flat_map_more, map_more, take_all, take_more, at_drop_more, drop_all}
pub use Rattle.std.proofs.lemmas.Result.{IfOk-weaker}
pub use Rattle.std.specs.Borrow.{Bor, GName}
pub use Rattle.std.specs.Char.Utf16.{has_unpaired_surrogate, utf16_lossy_chars}
pub use Rattle.std.specs.Fmt.{digit_glyph, digits_onto, format_spec}
unfoldable pub use Rattle.std.specs.Fmt.{char_count, digits, padded_integral}
pub use Rattle.std.specs.List.{flat_map}
pub use Rattle.std.specs.Prelude.{IfOk, IsErr, IsOk, OnOk, ◌↔◌}
pub use Rattle.json.specs.Print.{escape}
unfoldable pub use Rattle.json.specs.Print.{escape_byte}
pub use Rattle.table_schema.specs.Tables.{table_name, table_number}
pub use Rattle.table_schema.specs.Tokens.{hexadecimal, token_text}
pub use Rattle.cli_faults.specs.Escaped.{escaped_text, escaped_unit}
pub use Rattle.cli_faults.specs.Hexadecimal.{upper_hexadecimal}
pub use Rattle.cli_sending.proofs.SentLemmas.{prefix_longer, prefix_more, sends_more, nothing_sent, same_printed, prefix_of_nothing}
pub use Rattle.cli_lines.specs.Lines.{Value, number, hex, byte, text, token, reference, bytes, guid, signature, json_from, line_feed, named_token, part_tokens, row_values, items_tokens, units_tokens, value_tokens, Part, part_letters, part_text, style, Style, line_text, lead}
unfoldable pub use Rattle.cli_lines.specs.Lines.{line_from, styled_text}
pub use Rattle.cli_lines.specs.Printed.{Adds, AwaitsOrFails, Begins, Completes, Ends, Moves, Printed, Prints, Same, waits, SendsOrFails}
pub use Rattle.cli_lines.specs.Shown.{shown, shown_value, shown_file}
pub use Rattle.cli_lines.specs.Texts.{escaped_bytes}
pub use Rattle.cli_lines.specs.declared.line.Before.{Before}
pub use Rattle.cli_lines.specs.declared.line.Before.TheVariants.{Line, Brace}
