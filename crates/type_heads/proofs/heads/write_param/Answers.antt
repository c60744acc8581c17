use Rattle.type_heads.proofs.Prelude.{param_token}
use Rattle.type_heads.proofs.HeadLemmas.{param_written}
use Rattle.type_heads.proofs.heads.write_param.Goals as goal

pub returns : goal.returns
returns g c = λ model is.
    param_written g.W.Write.write_str_gives g.L.Limit.scopes model c.args.row c.number_or_zero-flags.result c.text_or_empty-name.result.now _ c.args.out.now _ _ _
    (c.linked-constraints.ensures.rows model is (param_token c.args.row) c.number_to-number_of_row.ensures) (c.number_or_zero-flags.ensures model is) (c.text_or_empty-name.ensures model is)
    c.in_ok-write_flags.ensures (c.in_ok-write_constraints.ensures model is) c.in_ok-write_name.ensures
