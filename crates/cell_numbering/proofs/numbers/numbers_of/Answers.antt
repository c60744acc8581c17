use Rattle.cell_numbering.proofs.Prelude.{ap, ◌∙◌, tables, SoFar, with_tables}
use Rattle.cell_numbering.proofs.NumberLemmas.{numbered_is}
use Rattle.cell_numbering.proofs.numbers.numbers_of.Goals as goal

pub returns : goal.returns
returns g c = λ model is are.
    c.into_numbers.ensures ∙ ap (λ (n : SoFar). n.numbers) (c.in_ok-put_tables.ensures model is)
    ∙ ap (λ (n : SoFar). (with_tables c.args.indexes model tables n).numbers) c.in_ok-so_far.ensures
    ∙ numbered_is c.tables_stand.ensures.count model (c.holds_one.ensures.valid model is) c.args.indexes are
