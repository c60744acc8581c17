-- Whether rows have the same content.
use Rattle.std.specs.Prelude.{Bool}
use Rattle.std.specs.Ordering.{on}
use Rattle.std.specs.Cmp.{IsEquivalence}
use Rattle.std.specs.Cmp.Lexicographic.{pointwise, lists_equiv}
use Rattle.std.proofs.lemmas.Cmp.{on_equiv}
use Rattle.tables.specs.contracts.cell.CellPartialEq.TheImpl.{eq-value}
use Rattle.tables.specs.contracts.cell.CellEq.TheImpl.Laws.{laws-law}
use Rattle.metadata.specs.Cell.{Cell}
use Rattle.tables.specs.Code.{saying}

-- whether cells with these contents are equal
abbrev pub is_same_cell : Cell → Cell → Bool
is_same_cell = on saying eq-value.it

pub cells_equiv : IsEquivalence is_same_cell
cells_equiv = on_equiv saying laws-law

pub rows_equiv : IsEquivalence (pointwise is_same_cell)
rows_equiv = lists_equiv cells_equiv

pub tables_equiv : IsEquivalence (pointwise (pointwise is_same_cell))
tables_equiv = lists_equiv rows_equiv
