-- The text of a signature, in which a type is named by its token (ECMA-335 II.15.3).
use Rattle.std.specs.Prelude.{ℕ, List, [], flat_map, Some, unwrap_or}
use Rattle.cli_cells.specs.Words.{token_text, Body}
use Rattle.sig_text.specs.SignatureText.{Piece}
use Rattle.sig_text.specs.SignatureText as pieces
use Rattle.sig_text.specs.PieceText.{piece_text}

-- the text of a piece of a signature; a type is named by its token
abbrev pub piece_bytes : Piece → List ℕ
piece_bytes piece = unwrap_or (piece_text (λ token. Some (token_text token)) piece) []

-- the text of a signature in the notation of ILAsm (II.7.1)
abbrev pub signature_text : Body → List ℕ
signature_text signature = flat_map piece_bytes (pieces.text_of signature)
