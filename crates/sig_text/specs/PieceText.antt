-- The text of a piece, if it is known. The names of rows are given by a function.
use Rattle.std.specs.Prelude.{ℕ, Option, Some, None, List}
use Rattle.std.specs.Fmt.{decimal, signed_decimal}
use Rattle.table_schema.specs.declared.token.Token.{Token}
use Rattle.sig_text.specs.SignatureText.{Piece, word, number, signed, name, method_name, generic_params, param_flags, param_name}

abbrev pub piece_text : (Token → Option (List ℕ)) → Piece → Option (List ℕ)
piece_text names (word text) = Some text
piece_text names (number n) = Some (decimal n)
piece_text names (signed z) = Some (signed_decimal z)
piece_text names (name token) = names token
piece_text names method_name = None
piece_text names (generic_params n) = None
piece_text names (param_flags position) = None
piece_text names (param_name position) = None
