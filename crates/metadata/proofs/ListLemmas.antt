-- The cells that list members.
use Rattle.metadata.proofs.Prelude.{◌≡◌, ◌<◌, refl, arith, cell_columns, cell_count, column_of, kind_at, MemberList, owner_of, cell_of, member_of}
use Rattle.table_schema.specs.declared.column.ColumnKind.TheVariants as kind
use Rattle.metadata.specs.declared.member_lists.MemberList.TheVariants as list_of

pub list_within : (list : MemberList) → cell_of list < cell_count (owner_of list)
unfolding cell_columns
list_within list_of.Fields = omega arith
list_within _ = omega arith

pub list_kind : (list : MemberList) → kind_at (owner_of list) (cell_of list) ≡ kind.List (member_of list)
unfolding cell_columns
list_kind list_of.Fields = refl
list_kind _ = refl

pub list_column : (list : MemberList) → column_of (owner_of list) (cell_of list) ≡ cell_of list
unfolding cell_columns
list_column list_of.Fields = refl
list_column _ = refl
