use Rattle.full_names.proofs.Prelude.{◌≡◌, ℕ, List, refl, subst, quoted_bytes}
use Rattle.full_names.proofs.QuotedLemmas.{verbatim_text}
use Rattle.full_names.proofs.TextLemmas.{writes_same}
use Rattle.full_names.proofs.quoted.write_quoted.Goals as goal

pub returns-then-are_verbatim : goal.returns-then-are_verbatim
returns-then-are_verbatim g c =
    let plain = subst (λ (t : List ℕ). t ≡ quoted_bytes t) c.as_bytes.ensures.value (verbatim_text c.as_bytes.result.now (c.if-are_verbatim.ensures refl)) in
    writes_same g.W.Write.write_str_gives c.args.out.now c.args.text.now (quoted_bytes c.args.text.now) c.write.new.self c.write.result plain c.write.ensures.writes
