use Rattle.metadata_source.proofs.Prelude.{◌↔◌, IsTrue, List, Option, Some, sym, subst, TableId, ColumnKind, Ref, IsOfKind}
use Rattle.std.specs.Prelude.{Contains}
use Rattle.metadata_source.proofs.row_numbers.takes.Goals as goal

pub returns-in-Coded : goal.returns-in-Coded
returns-in-Coded c =
    let P : ColumnKind → Type 0 = λ k. IsTrue c.lists.result ↔ IsOfKind k (Ref (Some c.args.token)) in
    let Q : List (Option TableId) → Type 0 = λ l. IsTrue c.lists.result ↔ Contains l (Some c.args.token.table) in
    subst P (sym c.in-Coded.is) (subst Q c.tables.ensures c.lists.ensures)
