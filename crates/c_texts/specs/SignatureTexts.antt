-- The text of a signature, as a C caller receives it (ECMA-335 II.7.1, II.15.3).
use Rattle.std.specs.Prelude.{ℕ, List, [], flat_map, Some, unwrap_or}
use Rattle.table_schema.specs.Tokens.{token_text}
use Rattle.sig_grammar.specs.Syntax.{Body}
use Rattle.sig_text.specs.SignatureText.{Piece, text_of}
use Rattle.sig_text.specs.PieceText.{piece_text}

-- the text of a piece; a type is named by its token
abbrev pub piece_bytes : Piece → List ℕ
piece_bytes piece = unwrap_or (piece_text (λ token. Some (token_text token)) piece) []

-- the text of a signature
abbrev pub signature_text : Body → List ℕ
signature_text signature = flat_map piece_bytes (text_of signature)
