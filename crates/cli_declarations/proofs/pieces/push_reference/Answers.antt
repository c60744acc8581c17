use Rattle.cli_declarations.proofs.Prelude.{◌≡◌, true, List, ℕ, refl, rules, TableId, Param, Token, Metadata, IsReferenceIn, IsReferred, has_reference, subst, sym, Gains}
use Rattle.cli_declarations.proofs.PieceLemmas.{on_ok}
use Rattle.cli_declarations.proofs.pieces.push_reference.Goals as goal

other_table : (model : Metadata) (table : TableId) (token : Token) (out : List ℕ) → (table ≡ Param → ⊥) → IsReferred model (has_reference table) token out → IsReferenceIn model table token out
other_table model Param token out not of = absurd (not refl)
other_table model _ token out not of = of

pub returns-in-Param : goal.returns-in-Param
returns-in-Param c = λ model is.
    on_ok c.push_param.result (c.push_param.ensures model is)
    (λ gains. subst (λ (t : TableId). Gains (IsReferenceIn model t c.args.token) c.args.declared.now c.push_param.new.declared) (sym c.in-Param.is) gains)

pub returns-in_default : goal.returns-in_default
returns-in_default c = λ model is.
    let some : has_reference c.args.token.table ≡ true = search rules in
    on_ok c.push_member.result (c.push_member.ensures model is)
    (λ gains. (gains.0, other_table model c.args.token.table c.args.token gains.0 c.in_default.not-Param (rw some gains.1), gains.2))
