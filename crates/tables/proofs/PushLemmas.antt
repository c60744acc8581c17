-- Tables with one more row.
use Rattle.tables.proofs.Prelude.{◌≡◌, ◌≢◌, List, [], ◌∷◌, ◌++◌, length, refl, sym, ap, ◌∙◌, arith, get_or-set_other, get_or-set_at, TableId, table_index_of, Metadata, rows_of}
use Rattle.table_schema.proofs.TableFacts.{table_at_index, table_index_below}
use Rattle.metadata.specs.Cell.{Cell}
use Rattle.metadata.specs.Rows.{table_at}
use Rattle.tables.specs.Push.{with_row}

pub added : (model : Metadata) (table : TableId) (row : List Cell) → length model.tables ≡ 38
    → rows_of (with_row model table row) table ≡ rows_of model table ++ row ∷ []
added model table row long =
    let within = table_index_below table in
    get_or-set_at model.tables (table_index_of table) (table_index_of table) (rows_of model table ++ row ∷ []) [] refl (omega arith)

pub others_stay : (model : Metadata) (table other : TableId) (row : List Cell) → other ≢ table → rows_of (with_row model table row) other ≡ rows_of model other
others_stay model table other row differs =
    get_or-set_other model.tables (table_index_of table) (table_index_of other) (rows_of model table ++ row ∷ []) []
    (λ same. differs (sym (table_at_index other) ∙ ap table_at same ∙ table_at_index table))
