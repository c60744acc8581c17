use Rattle.declarations.proofs.MarshalLemmas.{found_first}
use Rattle.declarations.proofs.params.row_by_key.Goals as goal

pub returns : goal.returns
returns g c = λ model shown.
    found_first c.key_numbers_are_one.ensures model (c.holds_one.ensures.valid model shown) c.args.param c.requires c.rows_by_key-rows.result.rows c.next.new.self.rows
    c.rows_by_key-rows.ensures.ascending (c.rows_by_key-rows.ensures.rows model shown) c.next.result c.next.ensures.steps.0
