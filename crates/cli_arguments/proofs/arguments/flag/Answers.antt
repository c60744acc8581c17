use Rattle.cli_arguments.proofs.Prelude.{◌∙◌, one_text-rows, found_of, one_of, rows_of}
use Rattle.cli_arguments.proofs.Readings.{flag_is}
use Rattle.cli_arguments.proofs.arguments.flag.Goals as goal

pub returns : goal.returns
returns c =
    let found = found_of c.args.given.now in
    let id = c.args.id.now in
    rw c.unwrap_or.ensures (flag_is _ (one_of id (rows_of found)) c.get_one.result (λ none. c.get_one.ensures.none (one_text-rows found id ∙ none))
    (λ t is. c.get_one.ensures.value t (one_text-rows found id ∙ is)))
