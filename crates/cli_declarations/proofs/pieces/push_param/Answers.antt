use Rattle.cli_declarations.proofs.Prelude.{◌≤◌, ◌++◌, arith, inl, refl, append_assoc, codes, decimal, Param, cell_in, count_in, number_in}
use Rattle.cli_declarations.proofs.PieceLemmas.{on_ok}
use Rattle.cli_declarations.proofs.pieces.push_param.Goals as goal

pub returns : goal.returns
returns c = λ model is.
    let counted = c.count.ensures.model model is in
    let some = c.if-token-eq0.false in
    let within = c.if-token-count.false in
    let first : 1 ≤ c.args.token.row = omega arith in
    let last : c.args.token.row ≤ count_in model Param = omega arith in
    on_ok c.push_member.result (c.push_member.ensures model is) (λ gains. (
      codes "param [" ++ (decimal (number_in (cell_in model Param c.args.token.row 1)) ++ (codes "] of " ++ gains.0)),
      inl ((first, last), (c.method_of_param.result, c.method_of_param.ensures.sound model is, gains.0, gains.1, refl)),
      simp append_assoc at (rw (c.in_ok-push_plain-2.ensures, c.in_ok-push_decimal.ensures, c.in_ok-push_plain.ensures, c.number_or_zero-position.ensures model is) at gains.2),
    ))
