use Rattle.cli_names.proofs.PathLemmas.{of_namespace, of_no_name}
use Rattle.cli_names.proofs.path.has_own_name.Goals as goal

pub returns-then-is_text : goal.returns-then-is_text
returns-then-is_text c = λ model is.
    of_namespace model c.args.table c.args.part.now _ _ c.args.row c.names_of_type.ensures ((c.is_text.ensures model is).0 c.if-is_text.true) c.is_text-then-is_text.result (c.is_text-then-is_text.ensures model is)

pub returns-else-is_text : goal.returns-else-is_text
returns-else-is_text c = λ model is. of_no_name model c.args.table c.args.part.now _ _ c.args.row c.names_of_type.ensures c.is_text.result c.if-is_text.false (c.is_text.ensures model is)
