-- The types of the parameters of a constructor of attributes (ECMA-335 II.22.10, II.23.3).
use Rattle.std.specs.Prelude.{ℕ, ◌&&◌, nat_le, Bool, true, false, not, if◌then◌else◌, List, [], ◌∷◌, ◌++◌, length, codes, Option, None, Some, option_map, option_and_then}
use Rattle.table_schema.specs.declared.table.TableId.{TableId}
use Rattle.table_schema.specs.declared.table.TableId.TheVariants.{MemberRef, MethodDef}
use Rattle.sig_items.specs.declared.item.Item.{Item}
use Rattle.sig_items.specs.declared.item.Item.TheVariants as item
use Rattle.blob_values.specs.declared.types.ElementType.{ElementType}
use Rattle.blob_values.specs.declared.types.ElementType.TheVariants.{Simple, SystemType}
use Rattle.blob_values.specs.declared.types.ArgumentType.{ArgumentType}
use Rattle.blob_values.specs.declared.types.ArgumentType.TheVariants.{One, Vector}
use Rattle.metadata.specs.Metadata.{Metadata, cell_in}
use Rattle.custom_attributes.specs.Signatures.{is_method, is_void, items_in}
use Rattle.custom_attributes.specs.Types.{enum_type, is_system_type}

-- the type of an element that an item of a signature stands for: a type of one byte, System.Type, or an enum of this file
abbrev pub element_type : Metadata → Item → Option ElementType
element_type model (item.Simple of) = Some (Simple of)
element_type model (item.Class of) = if is_system_type model (codes "Type") of then Some SystemType else None
element_type model (item.Value of) = option_map (λ x. Simple x) (enum_type model of)
element_type model _ = None

-- of an element, or of an array of such elements
abbrev pub argument_type : Bool → ElementType → ArgumentType
argument_type vector of = if vector then Vector of else One of

abbrev pub is_vector : Item → Bool
is_vector item.Vector = true
is_vector _ = false

-- the mark of an array, and not within another one
abbrev pub begins_vector : Bool → Item → Bool
begins_vector vector i = not vector && is_vector i

-- The types of the parameters whose items these are, if each has one. Before the first item there may be the mark of an array.
unfoldable pub params_from : Metadata → Bool → List Item → Option (List ArgumentType)
params_from model vector [] = if vector then None else Some []
params_from model vector (i ∷ items) =
    if begins_vector vector i then params_from model true items
    else option_and_then (λ of. option_map (λ later. argument_type vector of ∷ later) (params_from model false items)) (element_type model i)

-- the largest number of parameters
abbrev pub most_params : ℕ
most_params = 64

abbrev pub if_few : Option (List ArgumentType) → Option (List ArgumentType)
if_few params = option_and_then (λ types. if nat_le (length types) most_params then Some types else None) params

-- these types, and then others; for private clauses
abbrev pub preceded : List ArgumentType → Option (List ArgumentType) → Option (List ArgumentType)
preceded earlier params = option_map (λ later. earlier ++ later) params

-- those of the items of a method without a result
abbrev pub params_in : Metadata → List Item → Option (List ArgumentType)
params_in model (head ∷ result ∷ items) = if is_method head && is_void result then if_few (params_from model false items) else None
params_in model _ = None

-- the types of the parameters of a constructor (II.22.25, II.22.26), unless one has no type here or there are too many
abbrev pub params_of_constructor : Metadata → TableId → ℕ → Option (List ArgumentType)
params_of_constructor model MethodDef row = params_in model (items_in (cell_in model MethodDef row 4))
params_of_constructor model MemberRef row = params_in model (items_in (cell_in model MemberRef row 2))
params_of_constructor model _ row = None
