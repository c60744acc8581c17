-- The starts of the runs of owners, one after another (ECMA-335 II.22.12, II.22.26, II.22.35 and II.22.37), and the keys of
-- NestedClass (II.22.32).
use Rattle.std.specs.Prelude.{◌≡◌, ℕ, ◌+◌, ◌<◌, List, length, slice_index}
use Rattle.table_schema.specs.declared.table.TableId.TheVariants.{NestedClass}
use Rattle.table_schema.specs.CellColumns.{column_of}
use Rattle.metadata.specs.Cell.{start_in}
use Rattle.metadata.specs.Metadata.{Metadata, cell_in}
use Rattle.metadata.specs.Model.{IsModel}
use Rattle.metadata.specs.Source.{number_of}
use Rattle.metadata.specs.SourceAt.{source_of}
use Rattle.metadata.specs.declared.member_lists.MemberList.{MemberList}
use Rattle.metadata.specs.MemberLists.{cell_of, owner_of}

-- these are the starts of the first owners in a list
abbrev pub AreStarts : List ℕ → MemberList → List ℕ → Type 0
AreStarts root list starts =
    (model : Metadata) → IsModel root model → (k : ℕ) → k < length starts → start_in (cell_in model (owner_of list) (k + 1) (cell_of list)) ≡ slice_index starts k

-- these are the key numbers of the first rows of NestedClass
abbrev pub AreNestedKeys : List ℕ → List ℕ → Type 0
AreNestedKeys root keys = (k : ℕ) → k < length keys → number_of (source_of root) NestedClass (k + 1) (column_of NestedClass 0) ≡ slice_index keys k
