use Rattle.writer.proofs.Prelude.{◌≡◌, ℕ, ◌^◌, ◌≤◌, List, length, ap, sym, subst, ◌∙◌, arith, canonical}
use Rattle.metadata.specs.Model.{IsModel}
use Rattle.writer.proofs.roots.write_root_within.Goals as goal

pub returns-clause-unique : goal.returns-clause-unique
returns-clause-unique g c model shown other is =
    let Fits : List ℕ → Type 0 = λ bytes. IsModel bytes other in
    let small : length (canonical model) ≤ 2 ^ 30 =
    omega (arith, ap length (c.in_ok-prepared.ensures.root model shown), c.in_ok-prepared.ensures.within, c.requires) in
    let whole : c.into_bytes.result.items ≡ canonical model = c.into_bytes.ensures ∙ c.in_ok-prepared.ensures.root model shown in
    sym (c.canonical_root_is_one.ensures.unique model other (c.holds_one.ensures.valid model shown) small (subst Fits whole is))
