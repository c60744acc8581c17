-- The order of the rows of an outline: that of the rows in their tables, or that of their names.
use Rattle.std.specs.Prelude.{◌≡◌, ℕ, zero, suc, ◌+◌, ◌-◌, ◌/◌, Bool, true, false, if◌then◌else◌, List, ◌∷◌, ◌++◌, [], All, ⊤, map, take, IsPermutation, IsSorted}
use Rattle.std.specs.Cmp.Lexicographic.{slice_cmp}
use Rattle.std.specs.List.{range_with_len}
use Rattle.std.specs.Ordering.{nat_cmp, ordering_then}
use Rattle.std.specs.declared.cmp.Ordering.{Ordering}
use Rattle.cli_outline.specs.Words.{TableId, Field, MethodDef, Event, Property, MethodSemantics, TypeRef, MemberRef, Token, token_at, Metadata, count_in, MemberList, member_of, owner_of, IsDeclared, is_declared_in, OutlineOptions, ByName, ByRow, Order, run_start, is_shown}
use Rattle.metadata.specs.declared.member_lists.MemberList.TheVariants as list
use Rattle.cli_declarations.specs.Parts.{IsNameText}
use Rattle.cli_outline.specs.declared.orders.Grouping.{Grouping}
use Rattle.cli_outline.specs.declared.orders.Grouping.TheVariants.{Members, Nothing, Table}
use Rattle.cli_outline.specs.declared.orders.Keyed.{Keyed}
use Rattle.cli_names.specs.declared.source.Sorting.{Sorting}
use Rattle.cli_outline.specs.Outline.{outline_rows}

-- the number of bytes of a key, by the number of rows that are put in order together
abbrev pub key_limit : ℕ → ℕ
key_limit count = 64 + 0x2000000 / (count + 1)

-- The key of a row that has a line: the first bytes of its name, as it stands in declarations, a zero byte, and its declaration. That of a
-- row that has none is empty.
abbrev pub IsKey : Bool → Metadata → ℕ → Token → List ℕ → Type 0
IsKey true model limit of key =
    (name declared : List ℕ) × IsNameText model of name × IsDeclared model of declared × (key ≡ take limit (name ++ 0 ∷ declared))
IsKey false model limit of key = key ≡ []

abbrev pub IsKeyed : OutlineOptions → Metadata → TableId → ℕ → Keyed → Type 0
IsKeyed options model table limit keyed = let of = token_at table keyed.row in IsKey (is_shown options model of) model limit of keyed.key.items

abbrev pub row_of_keyed : Keyed → ℕ
row_of_keyed keyed = keyed.row

-- the order of two rows: that of the bytes of their keys; with one key, that of the rows
abbrev pub keyed_cmp : Keyed → Keyed → Ordering
keyed_cmp a b = ordering_then (slice_cmp nat_cmp a.key.items b.key.items) (nat_cmp a.row b.row)

-- these are the rows of a table from one on and before another, in the order of their keys
pub record AreInOrder (options : OutlineOptions) (model : Metadata) (table : TableId) (first past : ℕ) (found : List ℕ) : Type 0 where
  pub keyed : List Keyed
  pub keys : All (IsKeyed options model table (key_limit (past - first))) keyed
  pub sorted : IsSorted keyed_cmp keyed
  pub same : IsPermutation (range_with_len first (past - first)) (map row_of_keyed keyed)
  pub rows : found ≡ map row_of_keyed keyed

-- these are the members of the first owners, owner by owner: those of each in the order of their keys
abbrev pub AreMembers : OutlineOptions → Metadata → MemberList → ℕ → List ℕ → Type 0
AreMembers options model list zero rows = rows ≡ []
AreMembers options model list (suc owners) rows =
    (before : List ℕ) × AreMembers options model list owners before × (found : List ℕ)
    × AreInOrder options model (member_of list) (run_start model list (suc owners)) (run_start model list (suc owners + 1)) found × (rows ≡ before ++ found)

-- Which rows of a table are put in order together: the members of each owner, or all. None of accessors, which stand below their event or property, and of
-- references to other modules.
abbrev pub grouping_of : TableId → Grouping
grouping_of Field = Members list.Fields
grouping_of MethodDef = Members list.Methods
grouping_of Event = Members list.Events
grouping_of Property = Members list.Properties
grouping_of MethodSemantics = Nothing
grouping_of TypeRef = Nothing
grouping_of MemberRef = Nothing
grouping_of table = if is_declared_in table then Table else Nothing

abbrev pub AreGrouped : OutlineOptions → Metadata → TableId → List ℕ → Grouping → Type 0
AreGrouped options model table rows Table = AreInOrder options model table 1 (count_in model table + 1) rows
AreGrouped options model table rows (Members list) = AreMembers options model list (count_in model (owner_of list)) rows
AreGrouped options model table rows Nothing = ⊤

-- the rows are in the order that is asked for
abbrev pub IsOrder : OutlineOptions → Sorting → Metadata → Order → Type 0
IsOrder options ByRow model order = (table : TableId) → order table ≡ []
IsOrder options ByName model order = (table : TableId) → AreGrouped options model table (order table) (grouping_of table)

-- the rows of the outline, in the order that is asked for
abbrev pub AreOutlineRows : OutlineOptions → Metadata → List Token → Type 0
AreOutlineRows options model rows = (order : Order) × IsOrder options options.sorting model order × (rows ≡ outline_rows order model)
