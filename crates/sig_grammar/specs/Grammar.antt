-- The grammar of signatures (ECMA-335 II.23.2): the parts of each value, in encoded order.
use Rattle.std.specs.Prelude.{ℕ, ℤ, zero, suc, ◌+◌, Bool, if◌then◌else◌, Option, Some, None, is_some, List, [], ◌∷◌, ◌++◌, length}
use Rattle.sig_grammar.specs.declared.types.Modifier.{Modifier}
use Rattle.sig_grammar.specs.declared.body.Prefix.{Prefix}
use Rattle.sig_grammar.specs.declared.body.Prefix.TheVariants.{Mod, Pinned}
use Rattle.sig_grammar.specs.ElementTypes.{element_code, VOID, PTR, BYREF, VALUETYPE, CLASS, VAR, ARRAY, GENERICINST, TYPEDBYREF, FNPTR, SZARRAY, MVAR, CMOD_REQD, CMOD_OPT, SENTINEL, PINNED}
use Rattle.sig_grammar.specs.Parts.{Part, byte, number, signed, index}
use Rattle.sig_grammar.specs.Syntax.{Core, simple, void_pointer, pointer, vector, array, class, value, var, mvar, instance, function, Typed, typed, Types, no_types, type_then, Content, typed_ref, plain, by_ref, Slot, slot, Slots, no_slots, slot_then, Ret, some_ret, void_ret, Method, method, ArrayShape, LocalVariable, local, Body, field, method_body, property, locals, instance_body, type_spec}

-- the parts of all values of a list, in order
abbrev pub list_parts : {A : Type 0} → (A → List Part) → List A → List Part
list_parts parts [] = []
list_parts parts (x ∷ xs) = parts x ++ list_parts parts xs

-- CustomMod (II.23.2.7)
abbrev pub modifier_parts : Modifier → List Part
modifier_parts modifier = byte (if modifier.required then CMOD_REQD else CMOD_OPT) ∷ index modifier.of ∷ []

abbrev pub modifiers_parts : List Modifier → List Part
modifiers_parts modifiers = list_parts modifier_parts modifiers

abbrev pub numbers_parts : List ℕ → List Part
numbers_parts numbers = list_parts (λ n. number n ∷ []) numbers

abbrev pub bounds_parts : List ℤ → List Part
bounds_parts bounds = list_parts (λ z. signed z ∷ []) bounds

-- ArrayShape (II.23.2.13): the rank, the number of sizes, the sizes, the number of lower bounds, the lower bounds
abbrev pub shape_parts : ArrayShape → List Part
shape_parts shape =
    number shape.rank ∷ number (length shape.sizes) ∷ (numbers_parts shape.sizes ++ number (length shape.low) ∷ bounds_parts shape.low)

abbrev pub count_types : Types → ℕ
count_types no_types = 0
count_types (type_then t ts) = suc (count_types ts)

abbrev pub count_slots : Slots → ℕ
count_slots no_slots = 0
count_slots (slot_then s ss) = suc (count_slots ss)

abbrev pub named_code : Bool → ℕ
named_code is_value = if is_value then VALUETYPE else CLASS

-- one bit of a method's first byte
abbrev pub flag : Bool → ℕ → ℕ
flag set bit = if set then bit else 0

-- the first byte of a method (II.23.2.1): its calling convention, and a bit each for GENERIC, HASTHIS and EXPLICITTHIS
abbrev pub method_code : ℕ → Bool → Bool → Option ℕ → ℕ
method_code kind this explicit generic = kind + flag (is_some generic) 0x10 + flag this 0x20 + flag explicit 0x40

abbrev pub generic_parts : Option ℕ → List Part
generic_parts None = []
generic_parts (Some n) = number n ∷ []

abbrev mutual
  -- Type (II.23.2.12), without the modifiers before it
  pub core_parts : Core → List Part
  core_parts (simple element) = byte (element_code element) ∷ []
  core_parts (void_pointer modifiers) = byte PTR ∷ (modifiers_parts modifiers ++ byte VOID ∷ [])
  core_parts (pointer modifiers to) = byte PTR ∷ (modifiers_parts modifiers ++ core_parts to)
  core_parts (vector of) = byte SZARRAY ∷ typed_parts of
  core_parts (array of shape) = byte ARRAY ∷ (typed_parts of ++ shape_parts shape)
  core_parts (class of) = byte CLASS ∷ index of ∷ []
  core_parts (value of) = byte VALUETYPE ∷ index of ∷ []
  core_parts (var n) = byte VAR ∷ number n ∷ []
  core_parts (mvar n) = byte MVAR ∷ number n ∷ []
  core_parts (instance is_value of args) = byte GENERICINST ∷ byte (named_code is_value) ∷ index of ∷ number (count_types args) ∷ types_parts args
  core_parts (function m) = byte FNPTR ∷ method_parts m

  pub typed_parts : Typed → List Part
  typed_parts (typed modifiers core) = modifiers_parts modifiers ++ core_parts core

  pub types_parts : Types → List Part
  types_parts no_types = []
  types_parts (type_then t ts) = typed_parts t ++ types_parts ts

  -- Param (II.23.2.10), without the modifiers before it
  pub content_parts : Content → List Part
  content_parts typed_ref = byte TYPEDBYREF ∷ []
  content_parts (plain core) = core_parts core
  content_parts (by_ref modifiers core) = byte BYREF ∷ (modifiers_parts modifiers ++ core_parts core)

  pub slot_parts : Slot → List Part
  slot_parts (slot modifiers content) = modifiers_parts modifiers ++ content_parts content

  -- the parameters, with SENTINEL after the given number of them
  pub slots_parts : Slots → Option ℕ → List Part
  slots_parts no_slots sentinel = []
  slots_parts (slot_then s ss) None = slot_parts s ++ slots_parts ss None
  slots_parts (slot_then s ss) (Some zero) = byte SENTINEL ∷ (slot_parts s ++ slots_parts ss None)
  slots_parts (slot_then s ss) (Some (suc before)) = slot_parts s ++ slots_parts ss (Some before)

  -- RetType (II.23.2.11)
  pub ret_parts : Ret → List Part
  ret_parts (some_ret s) = slot_parts s
  ret_parts (void_ret modifiers) = modifiers_parts modifiers ++ byte VOID ∷ []

  -- MethodDefSig, MethodRefSig and StandAloneMethodSig (II.23.2.1 to II.23.2.3)
  pub method_parts : Method → List Part
  method_parts (method kind this explicit generic ret params sentinel) =
      byte (method_code kind this explicit generic) ∷ (generic_parts generic ++ number (count_slots params) ∷ (ret_parts ret ++ slots_parts params sentinel))

-- CustomMod or Constraint before a local variable (II.23.2.6)
abbrev pub prefix_parts : Prefix → List Part
prefix_parts (Mod modifier) = modifier_parts modifier
prefix_parts Pinned = byte PINNED ∷ []

abbrev pub prefixes_parts : List Prefix → List Part
prefixes_parts prefixes = list_parts prefix_parts prefixes

abbrev pub local_parts : LocalVariable → List Part
local_parts (local prefixes content) = prefixes_parts prefixes ++ content_parts content

-- the sections, in order: II.23.2.4, II.23.2.1 to II.23.2.3, II.23.2.5, II.23.2.6, II.23.2.15 and II.23.2.14
abbrev pub body_parts : Body → List Part
body_parts (field s) = byte 0x06 ∷ slot_parts s
body_parts (method_body m) = method_parts m
body_parts (property this of params) = byte (0x08 + flag this 0x20) ∷ number (length params) ∷ (slot_parts of ++ list_parts slot_parts params)
body_parts (locals variables) = byte 0x07 ∷ number (length variables) ∷ list_parts local_parts variables
body_parts (instance_body args) = byte 0x0A ∷ number (length args) ∷ list_parts typed_parts args
body_parts (type_spec ret) = ret_parts ret
