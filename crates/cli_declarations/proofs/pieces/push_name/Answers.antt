use Rattle.cli_declarations.proofs.PieceLemmas.{some_gained}
use Rattle.cli_declarations.proofs.pieces.push_name.Goals as goal

pub returns : goal.returns
returns c = λ model is. some_gained c.args.declared.now c.begin_text.new.declared c.write_row_name-written.new.out c.end_text.new.declared c.write_row_name-written.result c.end_text.result c.begin_text.ensures c.end_text.ensures _ (c.write_row_name-written.ensures model is)
