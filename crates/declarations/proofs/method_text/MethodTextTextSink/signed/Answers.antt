use Rattle.declarations.proofs.Prelude.{◌≡◌, ap, arith, refl, rules, sym, w64, ◌∙◌, signed_decimal, on_taken}
use Rattle.std.proofs.lemmas.Int.{ints}
use mir.Val.{SFits, of_z, to_z}
use Rattle.declarations.proofs.method_text.MethodTextTextSink.signed.Goals as goal

pub returns-clause-piece : goal.returns-clause-piece
returns-clause-piece g c =
    let f : SFits w64 c.args.value = search rules in
    let v : to_z w64 (of_z w64 c.args.value) ≡ c.args.value = omega (arith, ints) in (
      λ taken. (c.keep_refusal.ensures.kept taken, refl, refl, refl, λ model shown links params. (signed_decimal (to_z w64 (of_z w64 c.args.value)), ap signed_decimal v, on_taken c.write_signed-written.result (sym c.keep_refusal.ensures.taken ∙ taken) c.write_signed-written.ensures)),
      λ refused whole. absurd (c.keep_refusal.ensures.failed refused whole),
    )
