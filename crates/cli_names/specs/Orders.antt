-- The order of the rows of a table, and the members of an owner (ECMA-335 II.22).
use Rattle.std.specs.Prelude.{◌≤◌, ℕ, ◌+◌, ◌-◌, nat_le, if◌then◌else◌, List, [], All, Option, None, Some, slice_get, slice_index_or}
use Rattle.table_schema.specs.declared.table.TableId.{TableId}
use Rattle.table_schema.specs.Tables.{table_index_of}
use Rattle.metadata.specs.Cell.{start_in}
use Rattle.metadata.specs.Metadata.{Metadata, cell_in, count_in}
use Rattle.metadata.specs.declared.member_lists.MemberList.{MemberList}
use Rattle.metadata.specs.MemberLists.{cell_of, member_of, owner_of}
use Rattle.opening.specs.Views.{row_count}
use Rattle.cli_names.specs.declared.orders.TableOrder.{TableOrder}

-- the rows of each table in an order; if there are none, the order is that of the rows themselves
abbrev pub Order : Type 0
Order = TableId → List ℕ

-- the row at a position of an order; positions begin at one
abbrev pub row_at : List ℕ → ℕ → ℕ
row_at rows position = slice_index_or rows (position - 1) position

-- the first member of an owner; after the last owner, one more than the last member
abbrev pub run_start : Metadata → MemberList → ℕ → ℕ
run_start model list row =
    if nat_le row (count_in model (owner_of list)) then start_in (cell_in model (owner_of list) row (cell_of list)) else count_in model (member_of list) + 1

abbrev pub rows_of : Option TableOrder → List ℕ
rows_of None = []
rows_of (Some order) = order.rows.items

-- the order that the orders of the first tables make, by their index
abbrev pub order_in : List TableOrder → Order
order_in orders table = rows_of (slice_get orders (table_index_of table))

-- all of them are rows of the table
abbrev pub IsRowIn : List ℕ → TableId → ℕ → Type 0
IsRowIn root table row = (1 ≤ row) × (row ≤ row_count root table)

abbrev pub AreRowsIn : List ℕ → List TableOrder → Type 0
AreRowsIn root orders = (table : TableId) → All (IsRowIn root table) (order_in orders table)
