-- What is visible outside of an assembly (ECMA-335 II.22 and II.23.1).
use Rattle.std.specs.Prelude.{◌≡◌, ◌==◌, ◌&&◌, ◌||◌, ℕ, zero, suc, ◌+◌, ◌<◌, Bool, true, false, bit_and, nat_le, if◌then◌else◌, List, [], ◌∷◌, length, map, slice_index_or, Option, None, Some}
use Rattle.std.specs.List.{list_any, range_with_len}
use Rattle.table_schema.specs.declared.table.TableId.{TableId}
use Rattle.table_schema.specs.declared.table.TableId.TheVariants.{TypeDef, Field, MethodDef, Param, Event, Property, MethodSemantics, MethodImpl, ManifestResource, NestedClass}
use Rattle.table_schema.specs.declared.token.Token.{Token}
use Rattle.metadata.specs.Cell.{Cell, number_in, reference_in, start_in}
use Rattle.metadata.specs.Metadata.{Metadata, cell_in, count_in}
use Rattle.metadata.specs.Model.{IsModel}
use Rattle.metadata.specs.Valid.{row_in}
use Rattle.metadata.specs.declared.member_lists.MemberList.{MemberList}
use Rattle.metadata.specs.declared.member_lists.MemberList.TheVariants as list
use Rattle.metadata.specs.MemberLists.{cell_of, owner_of}
use Rattle.navigation.specs.declared.links.Link.TheVariants as linked_by
use Rattle.navigation.specs.Linked.{linked}
use Rattle.opening.specs.Views.{row_count}
use Rattle.visible_rows.specs.Declaring.{described_last}

-- who can refer to a row: the lowest three bits of its flags
abbrev pub access_in : Cell → ℕ
access_in cell = bit_and (number_in cell) 7

-- ---- types

-- the type that encloses another, or 0 if there is none: by the first row of NestedClass of the nested type among these (II.22.32)
abbrev pub outer_among : Metadata → List ℕ → ℕ → ℕ
outer_among model [] class = 0
outer_among model (row ∷ rows) class =
    if row_in (cell_in model NestedClass row 0) == class then row_in (cell_in model NestedClass row 1) else outer_among model rows class

abbrev pub outer_of : Metadata → ℕ → ℕ
outer_of model class = outer_among model (range_with_len 1 (count_in model NestedClass)) class

-- public; nested public, nested family, and nested family or assembly (II.23.1.15)
abbrev pub is_public_type : ℕ → Bool
is_public_type access = access == 1

abbrev pub is_open_nested : ℕ → Bool
is_open_nested access = access == 2 || access == 4 || access == 7

-- A type is visible if it is public, or if its enclosing type is visible and does not hide it. No type is in row 0, and a type is in
-- a higher row than the one that encloses it. So its own row is enough for the depth.
unfoldable pub is_visible_within : Metadata → ℕ → ℕ → Bool
is_visible_within model zero class = false
is_visible_within model (suc depth) zero = false
is_visible_within model (suc depth) (suc before) =
    let access = access_in (cell_in model TypeDef (suc before) 0) in
    is_public_type access || (is_open_nested access && is_visible_within model depth (outer_of model (suc before)))

abbrev pub is_visible_type : Metadata → ℕ → Bool
is_visible_type model class = is_visible_within model class class

-- ---- members

-- of the first owners, this many, the last one whose members begin at a member or before it: the owner of the member (II.22)
unfoldable pub owner_among : Metadata → MemberList → ℕ → ℕ → ℕ
owner_among model list member zero = 0
owner_among model list member (suc before) =
    if nat_le (start_in (cell_in model (owner_of list) (suc before) (cell_of list))) member then suc before else owner_among model list member before

abbrev pub owner_in : Metadata → MemberList → ℕ → ℕ
owner_in model list member = owner_among model list member (count_in model (owner_of list))

-- family, family or assembly, and public (II.23.1.5, II.23.1.10)
abbrev pub is_open_member : ℕ → Bool
is_open_member access = access == 4 || access == 5 || access == 6

abbrev pub is_visible_field : Metadata → ℕ → Bool
is_visible_field model row = is_open_member (access_in (cell_in model Field row 0)) && is_visible_type model (owner_in model list.Fields row)

abbrev pub is_visible_method : Metadata → ℕ → Bool
is_visible_method model row = is_open_member (access_in (cell_in model MethodDef row 2)) && is_visible_type model (owner_in model list.Methods row)

-- the method of an accessor is visible, or that of one of the accessors of an event or a property (II.22.28)
abbrev pub is_visible_accessor : Metadata → ℕ → Bool
is_visible_accessor model row = is_visible_method model (row_in (cell_in model MethodSemantics row 1))

abbrev pub has_visible_accessor : TableId → Metadata → ℕ → Bool
has_visible_accessor table model row = list_any (is_visible_accessor model) (linked model linked_by.Accessors (record { table = table; row = row }))

-- ---- rows

-- A row that describes no other. A parameter is visible if its method is, and a resource if it is public (II.23.1.9).
abbrev pub is_visible_row : Metadata → TableId → ℕ → Bool
is_visible_row model TypeDef row = is_visible_type model row
is_visible_row model Field row = is_visible_field model row
is_visible_row model MethodDef row = is_visible_method model row
is_visible_row model Param row = is_visible_method model (owner_in model list.Params row)
is_visible_row model Event row = has_visible_accessor Event model row
is_visible_row model Property row = has_visible_accessor Property model row
is_visible_row model MethodSemantics row = is_visible_accessor model row
is_visible_row model ManifestResource row = access_in (cell_in model ManifestResource row 1) == 1
is_visible_row model _ row = true

-- the body of an override is visible if it is a method of this module (II.22.27)
abbrev pub is_visible_body : Metadata → Option Token → Bool
is_visible_body model None = true
is_visible_body model (Some body) = is_visible_row model body.table body.row

abbrev pub has_visible_body : Metadata → TableId → ℕ → Bool
has_visible_body model MethodImpl row = is_visible_body model (reference_in (cell_in model MethodImpl row 1))
has_visible_body model _ row = true

-- a row is visible outside of the assembly if what it describes is; an override also needs a visible body
abbrev pub is_visible : Metadata → Token → Bool
is_visible model of = let last = described_last model of in is_visible_row model last.table last.row && has_visible_body model of.table of.row

-- ---- tables of results

-- for each type the type that encloses it
abbrev pub AreOuters : List ℕ → List ℕ → Type 0
AreOuters root outers = (model : Metadata) → IsModel root model → (k : ℕ) → k < length outers → slice_index_or outers k 0 ≡ outer_of model (k + 1)

-- whether each row is visible, from row 0 on, where no type is
pub record AreVisibleTypes (root : List ℕ) (types : List Bool) : Type 0 where
  pub long : length types ≡ row_count root TypeDef + 1
  pub are : (model : Metadata) → IsModel root model → types ≡ map (is_visible_type model) (range_with_len 0 (row_count root TypeDef + 1))

-- whether each row has a visible accessor, from row 1 on
pub record HaveVisibleAccessors (root : List ℕ) (table : TableId) (results : List Bool) : Type 0 where
  pub long : length results ≡ row_count root table
  pub are : (model : Metadata) → IsModel root model → results ≡ map (has_visible_accessor table model) (range_with_len 1 (row_count root table))
