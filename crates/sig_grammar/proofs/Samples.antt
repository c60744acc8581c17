-- The definitions applied to small signatures, which are encoded by hand from ECMA-335 II.23.2.
use Rattle.std.proofs.Common.{◌≡◌, false, true, Some, None, [], ◌∷◌, refl, arith}
use Rattle.std.specs.Prelude.{ℕ, pos, negsuc}
use Rattle.table_schema.specs.declared.table.TableId.TheVariants.{TypeDef, TypeRef, TypeSpec}
use Rattle.table_schema.specs.declared.token.Token.{Token}
use Rattle.sig_grammar.specs.declared.types.Modifier.{Modifier}
use Rattle.sig_grammar.specs.declared.element.Element.TheVariants.{I4, R4, R8, String}
use Rattle.sig_grammar.specs.declared.body.Prefix.TheVariants.{Pinned}
use Rattle.sig_grammar.specs.Syntax.{Core, simple, void_pointer, pointer, vector, array, mvar, instance, function, typed, no_types, type_then, typed_ref, plain, by_ref, Slot, slot, no_slots, slot_then, some_ret, void_ret, Method, method, local, field, method_body, property, locals, instance_body, type_spec}
use Rattle.sig_grammar.specs.Parts.{index_number}
use Rattle.sig_grammar.specs.Limits.{IsSentinel, core_depth}
use Rattle.sig_grammar.specs.Encodes.{short}

integer : Core
integer = simple I4

-- a value without modifiers
holds : Core → Slot
holds core = slot [] (plain core)

second_type_def : Token
second_type_def = record { table = TypeDef; row = 2 }

required : Modifier
required = record { required = true; of = second_type_def }

optional : Modifier
optional = record { required = false; of = record { table = TypeSpec; row = 1 } }

-- a vararg method whose only parameter follows SENTINEL
vararg : Method
vararg = method 5 false false None (void_ret []) (slot_then (holds integer) no_slots) (Some 0)

-- II.23.2.8: the row, then two bits of tag: TypeDef 0, TypeRef 1, TypeSpec 2
index_of_type_def : index_number second_type_def ≡ 0x08
unfolding second_type_def
index_of_type_def = refl

index_of_type_ref : index_number (record { table = TypeRef; row = 2 }) ≡ 0x09
index_of_type_ref = refl

index_of_type_spec : index_number (record { table = TypeSpec; row = 2 }) ≡ 0x0A
index_of_type_spec = refl

-- II.23.2.4, II.23.2.7 and II.23.2.10
modified_field : short (field (slot (required ∷ optional ∷ []) (by_ref [] integer))) ≡ 0x06 ∷ 0x1F ∷ 0x08 ∷ 0x20 ∷ 0x06 ∷ 0x10 ∷ 0x08 ∷ []
unfolding required optional second_type_def integer
modified_field = refl

-- II.23.2.5: the type of a property precedes its parameters
indexed_property : short (property true (holds (simple String)) (holds integer ∷ holds (simple R8) ∷ [])) ≡ 0x28 ∷ 0x02 ∷ 0x0E ∷ 0x08 ∷ 0x0D ∷ []
unfolding holds integer
indexed_property = refl

-- II.23.2.6
pinned_local : short (locals (local (Pinned ∷ []) (plain integer) ∷ local [] typed_ref ∷ [])) ≡ 0x07 ∷ 0x02 ∷ 0x45 ∷ 0x08 ∷ 0x16 ∷ []
unfolding integer
pinned_local = refl

-- II.23.2.13: the sizes precede the lower bounds, and the bounds are signed
shaped_array : short (type_spec (some_ret (holds (array (typed [] integer) (record { rank = 2; sizes = 5 ∷ []; low = negsuc 2 ∷ pos 3 ∷ [] })))))
    ≡ 0x14 ∷ 0x08 ∷ 0x02 ∷ 0x01 ∷ 0x05 ∷ 0x02 ∷ 0x7B ∷ 0x06 ∷ []
unfolding holds integer
shaped_array = refl

-- II.23.2.1: the number of generic parameters precedes the number of parameters
generic_method : short (method_body (method 0 true false (Some 1) (some_ret (holds (mvar 0))) no_slots None)) ≡ 0x30 ∷ 0x01 ∷ 0x00 ∷ 0x1E ∷ 0x00 ∷ []
unfolding holds
generic_method = refl

-- II.23.2.2: the parameter count does not include SENTINEL
pointed_method : short (type_spec (some_ret (holds (function vararg)))) ≡ 0x1B ∷ 0x05 ∷ 0x01 ∷ 0x01 ∷ 0x41 ∷ 0x08 ∷ []
unfolding holds vararg integer
pointed_method = refl

-- II.23.2.12
generic_instance : short (instance_body (typed [] (instance false (record { table = TypeRef; row = 1 }) (type_then (typed [] integer) no_types)) ∷ []))
    ≡ 0x0A ∷ 0x01 ∷ 0x15 ∷ 0x12 ∷ 0x05 ∷ 0x01 ∷ 0x08 ∷ []
unfolding integer
generic_instance = refl

pointers : short (type_spec (some_ret (holds (pointer [] (void_pointer (required ∷ [])))))) ≡ 0x0F ∷ 0x0F ∷ 0x1F ∷ 0x08 ∷ 0x01 ∷ []
unfolding holds required second_type_def
pointers = refl

floats : short (instance_body (typed [] (simple R4) ∷ typed [] (vector (typed [] (simple R8))) ∷ [])) ≡ 0x0A ∷ 0x02 ∷ 0x0C ∷ 0x1D ∷ 0x0D ∷ []
floats = refl

-- a pointer to a method is one deeper than the method's parameters and result
depth_of_function : core_depth (function vararg) ≡ 2
unfolding vararg integer holds
depth_of_function = refl

depth_of_pointer : core_depth (pointer [] (void_pointer [])) ≡ 3
depth_of_pointer = refl

-- SENTINEL precedes a parameter, and never follows the last one
no_sentinel_behind : (count : ℕ) → IsSentinel 5 count count → ⊥
no_sentinel_behind count is = omega (arith, is.0)
