use Rattle.cli_cells.proofs.Prelude.{TableId, count_in, IsModel, row_count, Part, Prints, first_lines, content_of, ◌≡◌, List, ℕ, flat_map, refl, subst, sym}
use Rattle.cli_cells.proofs.row_lines.print_show.Goals as goal

pub returns : goal.returns
unfolding row_count
returns g c = λ model is.
    let here : IsModel c.new-cells.result model = subst (λ (root : List ℕ). IsModel root model) (sym c.new-cells.ensures) is in
    let counts : (table : TableId) → row_count c.new-cells.result table ≡ count_in model table = λ table. sym (c.models_are_read.ensures.count c.new-cells.result model here table) in
    subst (λ (lines : List (List Part)). Prints c.args.out.now c.print_tables.new.out lines)
    (λ i. flat_map (λ table. first_lines c.args.names (content_of model) table (counts table i)) c.args.tables.now) (c.print_tables.ensures (content_of model) (model, here, refl))
