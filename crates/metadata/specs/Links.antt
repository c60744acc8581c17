-- The links between rows, in a root and in tables in memory (ECMA-335 II.22).
use Rattle.std.specs.Prelude.{◌≡◌, ◌≢◌, ℕ, ◌-◌, ◌<◌, ◌≤◌}
use Rattle.table_schema.specs.declared.table.TableId.{TableId}
use Rattle.table_schema.specs.declared.table.TableId.TheVariants.{NestedClass}
use Rattle.metadata.specs.declared.member_lists.MemberList.{MemberList}
use Rattle.metadata.specs.MemberLists.{owner_of, cell_of, member_of}
use Rattle.metadata.specs.Source.{Source, rows_in, number_of}
use Rattle.metadata.specs.Starts.{start_of}

-- The numbers that the rules for links compare: how many rows a table has; the start of an owner's run in a list of members;
-- and the row that a column refers to, by table and row, 0 for null. In these tables each column has a cell.
pub record Links : Type 0 where
  pub count : TableId → ℕ
  pub start : MemberList → ℕ → ℕ
  pub reference : TableId → ℕ → ℕ → ℕ

-- those of a root
abbrev pub links_in : Source → Links
links_in source = record {
  count = rows_in source;
  start = λ list row. start_of source (owner_of list) row (cell_of list) (member_of list);
  reference = number_of source;
}

-- Each member of a list has one owner: without owners there are no members; the first owner's run starts with the first
-- member; and starts never decrease (II.22.37 FieldList and MethodList, II.22.26, II.22.12 and II.22.35).
pub record IsOwned (links : Links) (list : MemberList) : Type 0 where
  pub ownerless : links.count (owner_of list) ≡ 0 → links.count (member_of list) ≡ 0
  pub first : links.count (owner_of list) ≢ 0 → links.start list 1 ≡ 1
  pub rising : (row : ℕ) → 2 ≤ row → row ≤ links.count (owner_of list) → links.start list (row - 1) ≤ links.start list row

-- II.22.32: the type of a row of NestedClass comes after the one that it is nested in
abbrev pub IsNested : Links → ℕ → Type 0
IsNested links row = links.reference NestedClass row 1 < links.reference NestedClass row 0

-- all of this
pub record AreLinked (links : Links) : Type 0 where
  pub owned : (list : MemberList) → IsOwned links list
  pub nested : (row : ℕ) → 1 ≤ row → row ≤ links.count NestedClass → IsNested links row
