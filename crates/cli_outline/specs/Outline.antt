-- The outline of a model: which rows have a line, and in which order (ECMA-335 II.22).
use Rattle.std.specs.Prelude.{ℕ, ◌+◌, ◌-◌, Bool, true, false, if◌then◌else◌, List, [], ◌∷◌, ◌++◌}
use Rattle.std.specs.List.{flat_map, range_with_len}
use Rattle.cli_outline.specs.Words.{TableId, Assembly, AssemblyRef, Module, ModuleRef, File, ManifestResource, ExportedType, TypeDef, InterfaceImpl, GenericParam, GenericParamConstraint, MethodImpl, MethodSemantics, Event, Property, ImplMap, DeclSecurity, CustomAttribute, TypeRef, MemberRef, Param, Token, token_at, Metadata, count_in, MemberList, member_of, linked, Order, row_at, run_start}
use Rattle.metadata.specs.declared.member_lists.MemberList.TheVariants as list
use Rattle.navigation.specs.declared.links.Link.{Link}
use Rattle.navigation.specs.declared.links.Link.TheVariants as linked_by

-- the order of the rows themselves
abbrev pub by_row : Order
by_row table = []

-- what there is for the row at each position of an order, from one position on and before another
unfoldable pub each_from : (ℕ → List Token) → List ℕ → ℕ → ℕ → List Token
each_from rows order first past = flat_map (λ position. rows (row_at order position)) (range_with_len first (past - first))

-- a row of a table, alone
abbrev pub row_of : TableId → ℕ → List Token
row_of table row = token_at table row ∷ []

-- the rows of a table have accessors
abbrev pub has_accessors : TableId → Bool
has_accessors Event = true
has_accessors Property = true
has_accessors _ = false

-- a row, and after an event or a property its accessors (II.22.28)
unfoldable pub own_rows : Metadata → TableId → ℕ → List Token
own_rows model table row =
    token_at table row ∷ (if has_accessors table then flat_map (row_of MethodSemantics) (linked model linked_by.Accessors (token_at table row)) else [])

-- all rows of a table
abbrev pub all_rows : Order → Metadata → TableId → List Token
all_rows order model table = each_from (own_rows model table) (order table) 1 (count_in model table + 1)

-- the members of an owner: a type, or a row of EventMap or PropertyMap. They end before those of the next owner (II.22.37)
abbrev pub members : Order → Metadata → MemberList → ℕ → List Token
members order model list owner = each_from (own_rows model (member_of list)) (order (member_of list)) (run_start model list owner) (run_start model list (owner + 1))

-- the events or the properties of a type: those of each row of their map that refers to it, wherever it stands (II.22.12, II.22.35)
unfoldable pub type_rows : Order → Metadata → MemberList → Link → ℕ → List Token
type_rows order model list link class = flat_map (members order model list) (linked model link (token_at TypeDef class))

-- a type, its fields, its methods, its events and its properties
unfoldable pub class_rows : Order → Metadata → ℕ → List Token
class_rows order model row =
    token_at TypeDef row
    ∷ (members order model list.Fields row ++ (members order model list.Methods row
    ++ (type_rows order model list.Events linked_by.Events row ++ type_rows order model list.Properties linked_by.Properties row)))

-- the tables whose rows come before the types
unfoldable pub first_tables : List TableId
first_tables = Assembly ∷ AssemblyRef ∷ Module ∷ ModuleRef ∷ File ∷ ManifestResource ∷ ExportedType ∷ []

-- the tables whose rows come after the types
unfoldable pub last_tables : List TableId
last_tables = Param ∷ InterfaceImpl ∷ GenericParam ∷ GenericParamConstraint ∷ MethodImpl ∷ ImplMap ∷ DeclSecurity ∷ CustomAttribute ∷ []

-- the rows that have a line, in the order of the lines
unfoldable pub outline_rows : Order → Metadata → List Token
outline_rows order model =
    flat_map (all_rows order model) first_tables
    ++ (each_from (class_rows order model) (order TypeDef) 1 (count_in model TypeDef + 1) ++ flat_map (all_rows order model) last_tables)

-- ---- references to other modules

-- the tables whose rows refer to other modules and to what is in them (II.22.25, II.22.31, II.22.38)
unfoldable pub ref_tables : List TableId
ref_tables = ModuleRef ∷ TypeRef ∷ MemberRef ∷ []

-- their rows, by table and row
abbrev pub refs_rows : Metadata → List Token
refs_rows model = flat_map (all_rows by_row model) ref_tables
