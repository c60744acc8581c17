use Rattle.c_texts.proofs.Prelude.{◌≡◌, ◌/◌, ◌%◌, ◌∷◌, [], false, arith, digit_glyph, hexadecimal}
use Rattle.std.proofs.lemmas.Fmt.{hex_byte}
use Rattle.c_texts.proofs.signature_text.pair.Goals as goal

pub returns : goal.returns
returns c =
    let byte = c.args.byte in
    let high : c.from.result % 16 ≡ byte / 16 = omega (arith, c.from.ensures) in
    let low : c.from-2.result % 16 ≡ byte % 16 = omega (arith, c.from-2.ensures) in
    let both : hexadecimal 2 byte ≡ digit_glyph false (byte / 16) ∷ digit_glyph false (byte % 16) ∷ [] = hex_byte false byte (omega arith) in
    cc
