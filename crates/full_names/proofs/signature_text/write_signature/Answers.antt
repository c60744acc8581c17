use Rattle.full_names.proofs.Prelude.{refl, sym, subst, rules, text_of, Wrote, ArePiecesText, IsPieceText}
use Rattle.full_names.proofs.PieceLemmas.{ok_then}
use Rattle.full_names.proofs.signature_text.write_signature.Goals as goal

pub returns : goal.returns
returns g c = λ model shown named signature encodes.
    ok_then c.result_of.result c.result_of.ensures (λ whole.
    let both = c.put_signature.ensures model shown named signature encodes refl whole in
    let same = sym both.0 in
    subst (Wrote g.W.Write.write_str_gives c.args.out.now (ArePiecesText (IsPieceText (g.N.WriteNames.is_name model)) (text_of signature))) (search rules) both.1)
