-- The text of a signature in the notation of ILAsm (ECMA-335 II.7.1, II.14.2, II.15.3), as the pieces that a sink receives.
use Rattle.std.specs.Prelude.{ℕ, zero, suc, ◌+◌, ◌==◌, ◌&&◌, ℤ, pos, ◌+ℤ◌, ◌-ℤ◌, nat_le, max, Bool, if◌then◌else◌, Option, Some, None, slice_get, drop, length, List, [], ◌∷◌, ◌++◌, codes}
use Rattle.table_schema.specs.declared.token.Token.{Token}
use Rattle.sig_grammar.specs.declared.element.Element.{Element}
use Rattle.sig_grammar.specs.declared.element.Element.TheVariants.{Boolean, Char, I1, U1, I2, U2, I4, U4, I8, U8, R4, R8, String, I, U, Object}
use Rattle.sig_grammar.specs.declared.types.Modifier.{Modifier}
use Rattle.sig_grammar.specs.declared.body.Prefix.{Prefix}
use Rattle.sig_grammar.specs.declared.body.Prefix.TheVariants.{Mod, Pinned}
use Rattle.sig_grammar.specs.declared.calling_convention.CallingConvention.{CallingConvention}
use Rattle.sig_grammar.specs.declared.calling_convention.CallingConvention.TheVariants as convention
use Rattle.sig_grammar.specs.Conventions.{convention_of}
use Rattle.sig_grammar.specs.Syntax.{Core, simple, void_pointer, pointer, vector, array, class, value, var, mvar, instance, function, Typed, typed, Types, no_types, type_then, Content, typed_ref, plain, by_ref, Slot, slot, Slots, no_slots, slot_then, Ret, some_ret, void_ret, Method, method, ArrayShape, LocalVariable, local, Body, field, method_body, property, locals, instance_body, type_spec}

-- What a sink receives: a text, a number in decimal digits, and the name of a row. In a declaration also the name of the
-- method, its generic parameters by their number, and of the parameter at a position its flags, and a space and its name.
pub data Piece : Type 0 where
  word : List ℕ → Piece
  number : ℕ → Piece
  signed : ℤ → Piece
  name : Token → Piece
  method_name : Piece
  generic_params : ℕ → Piece
  param_flags : ℕ → Piece
  param_name : ℕ → Piece

-- values one after another, with a comma between them; the first list precedes the first value
abbrev pub comma : List Piece
comma = word (codes ", ") ∷ []

abbrev pub listed : {A : Type 0} → (A → List Piece) → List Piece → List A → List Piece
listed text before [] = []
listed text before (x ∷ xs) = before ++ (text x ++ listed text comma xs)

-- what precedes a type in the bytes follows it in the text, the last first
abbrev pub following : {A : Type 0} → (A → List Piece) → List A → List Piece
following text [] = []
following text (x ∷ xs) = following text xs ++ text x

-- a custom modifier (II.7.1.1)
abbrev pub modifier_text : Modifier → List Piece
modifier_text m = word (if m.required then codes " modreq(" else codes " modopt(") ∷ name m.of ∷ word (codes ")") ∷ []

abbrev pub modifiers_text : List Modifier → List Piece
modifiers_text modifiers = following modifier_text modifiers

abbrev pub prefix_text : Prefix → List Piece
prefix_text (Mod m) = modifier_text m
prefix_text Pinned = word (codes " pinned") ∷ []

-- the names of the types that are encoded as one byte (II.7.1)
unfoldable pub element_text : Element → List ℕ
element_text Boolean = codes "bool"
element_text Char = codes "char"
element_text I1 = codes "int8"
element_text U1 = codes "unsigned int8"
element_text I2 = codes "int16"
element_text U2 = codes "unsigned int16"
element_text I4 = codes "int32"
element_text U4 = codes "unsigned int32"
element_text I8 = codes "int64"
element_text U8 = codes "unsigned int64"
element_text R4 = codes "float32"
element_text R8 = codes "float64"
element_text String = codes "string"
element_text I = codes "native int"
element_text U = codes "native unsigned int"
element_text Object = codes "object"

abbrev pub kind_text : Bool → List ℕ
kind_text is_value = if is_value then codes "valuetype " else codes "class "

-- a dimension of an array (II.14.2): its lower bound and its size, if they are given. The upper bound is low + size - 1.
abbrev pub dimension_text : Option ℤ → Option ℕ → List Piece
dimension_text None None = []
dimension_text None (Some size) = number size ∷ []
dimension_text (Some low) None = signed low ∷ word (codes "...") ∷ []
dimension_text (Some low) (Some size) = signed low ∷ word (codes "...") ∷ signed ((low +ℤ pos size) -ℤ pos 1) ∷ []

-- the given number of dimensions; the sizes and the lower bounds are those of the first of them
abbrev pub dimensions_text : List Piece → ℕ → List ℕ → List ℤ → List Piece
dimensions_text before zero sizes low = []
dimensions_text before (suc n) sizes low =
    before ++ (dimension_text (slice_get low 0) (slice_get sizes 0) ++ dimensions_text (word (codes ",") ∷ []) n (drop 1 sizes) (drop 1 low))

-- a single dimension without bounds is marked, because a vector is written without one
abbrev pub mark_text : ℕ → ℕ → ℕ → List Piece
mark_text rank sizes low = if rank == 1 && sizes == 0 && low == 0 then word (codes "...") ∷ [] else []

-- The number of dimensions that are written one by one. Six bytes can encode a rank of 2^29 - 1 (II.23.2.13). So of more than
-- 32 dimensions only those are written that have a size or a lower bound.
abbrev pub written_dimensions : ℕ → ℕ → ℕ → ℕ
written_dimensions rank sizes low = if nat_le rank 32 then rank else max sizes low

-- the rank, if not all dimensions are written
abbrev pub rank_text : ℕ → ℕ → List Piece
rank_text rank written = if written == rank then [] else word (codes ",... rank ") ∷ number rank ∷ []

abbrev pub shape_text : ArrayShape → List Piece
shape_text s =
    let written = written_dimensions s.rank (length s.sizes) (length s.low) in
    word (codes "[") ∷ (mark_text s.rank (length s.sizes) (length s.low) ++ (dimensions_text [] written s.sizes s.low ++ (rank_text s.rank written ++ word (codes "]") ∷ [])))

-- calling conventions (II.15.3)
unfoldable pub convention_text : CallingConvention → List ℕ
convention_text convention.Default = []
convention_text convention.C = codes "unmanaged cdecl "
convention_text convention.StdCall = codes "unmanaged stdcall "
convention_text convention.ThisCall = codes "unmanaged thiscall "
convention_text convention.FastCall = codes "unmanaged fastcall "
convention_text convention.VarArg = codes "vararg "
convention_text convention.Unmanaged = codes "unmanaged "

-- a word, if the flag is set
abbrev pub flag_text : Bool → List ℕ → List Piece
flag_text set text = if set then word text ∷ [] else []

abbrev pub call_text : ℕ → Bool → Bool → List Piece
call_text kind this explicit =
    flag_text this (codes "instance ") ++ (flag_text explicit (codes "explicit ") ++ word (convention_text (convention_of kind)) ∷ [])

-- the number of generic parameters of a method that is pointed to
abbrev pub arity_text : Option ℕ → List Piece
arity_text None = []
arity_text (Some n) = word (codes "<[") ∷ number n ∷ word (codes "]>") ∷ []

-- the generic parameters of the method that is declared
abbrev pub generics_text : Option ℕ → List Piece
generics_text None = []
generics_text (Some n) = generic_params n ∷ []

-- SENTINEL, before the first of the variable arguments; and the number of parameters before it, after one of them
abbrev pub sentinel_text : Option ℕ → List Piece
sentinel_text (Some zero) = word (codes "..., ") ∷ []
sentinel_text _ = []

abbrev pub sentinel_after : Option ℕ → Option ℕ
sentinel_after (Some (suc n)) = Some n
sentinel_after _ = None

abbrev mutual
  -- Type (II.23.2.12), without its modifiers
  pub core_text : Core → List Piece
  core_text (simple element) = word (element_text element) ∷ []
  core_text (void_pointer modifiers) = word (codes "void") ∷ (modifiers_text modifiers ++ word (codes "*") ∷ [])
  core_text (pointer modifiers to) = core_text to ++ (modifiers_text modifiers ++ word (codes "*") ∷ [])
  core_text (vector of) = typed_text of ++ word (codes "[]") ∷ []
  core_text (array of shape) = typed_text of ++ shape_text shape
  core_text (class of) = word (codes "class ") ∷ name of ∷ []
  core_text (value of) = word (codes "valuetype ") ∷ name of ∷ []
  core_text (var n) = word (codes "!") ∷ number n ∷ []
  core_text (mvar n) = word (codes "!!") ∷ number n ∷ []
  core_text (instance is_value of args) = word (kind_text is_value) ∷ name of ∷ word (codes "<") ∷ (types_text [] args ++ word (codes ">") ∷ [])
  core_text (function m) = method_text m

  pub typed_text : Typed → List Piece
  typed_text (typed modifiers core) = core_text core ++ modifiers_text modifiers

  -- types with a comma between them; the list precedes the first
  pub types_text : List Piece → Types → List Piece
  types_text before no_types = []
  types_text before (type_then t ts) = before ++ (typed_text t ++ types_text comma ts)

  -- Param (II.23.2.10), without its modifiers
  pub content_text : Content → List Piece
  content_text typed_ref = word (codes "typedref") ∷ []
  content_text (plain core) = core_text core
  content_text (by_ref modifiers core) = core_text core ++ (modifiers_text modifiers ++ word (codes "&") ∷ [])

  pub slot_text : Slot → List Piece
  slot_text (slot modifiers content) = content_text content ++ modifiers_text modifiers

  -- parameters with a comma between them, and SENTINEL after the given number of them
  pub slots_text : List Piece → Slots → Option ℕ → List Piece
  slots_text before no_slots sentinel = []
  slots_text before (slot_then s ss) sentinel =
      before ++ (sentinel_text sentinel ++ (slot_text s ++ slots_text comma ss (sentinel_after sentinel)))

  -- RetType (II.23.2.11)
  pub ret_text : Ret → List Piece
  ret_text (some_ret s) = slot_text s
  ret_text (void_ret modifiers) = word (codes "void") ∷ modifiers_text modifiers

  -- a pointer to a method (II.14.5)
  pub method_text : Method → List Piece
  method_text (method kind this explicit generic ret params sentinel) =
      word (codes "method ") ∷ (call_text kind this explicit ++ (ret_text ret ++ (word (codes " *") ∷ (arity_text generic ++ (word (codes "(") ∷ (slots_text [] params sentinel ++ word (codes ")") ∷ []))))))

-- a local variable (II.23.2.6)
abbrev pub local_text : LocalVariable → List Piece
local_text (local prefixes content) = content_text content ++ following prefix_text prefixes

-- the text of a signature; the sections, in order: II.23.2.4, II.23.2.1 to II.23.2.3, II.23.2.5, II.23.2.6, II.23.2.15 and II.23.2.14
abbrev pub text_of : Body → List Piece
text_of (field s) = slot_text s
text_of (method_body m) = method_text m
text_of (property this of params) =
    flag_text this (codes "instance ") ++ (slot_text of ++ (word (codes " ") ∷ (word (codes "(") ∷ (listed slot_text [] params ++ word (codes ")") ∷ []))))
text_of (locals variables) = word (codes "(") ∷ (listed local_text [] variables ++ word (codes ")") ∷ [])
text_of (instance_body args) = word (codes "<") ∷ (listed typed_text [] args ++ word (codes ">") ∷ [])
text_of (type_spec ret) = ret_text ret

-- ---- the declaration of a method (II.15.3) or of a property (II.17): its name and its generic parameters stand in it, and the flags and the names of its parameters

-- parameters with their flags and names, and SENTINEL after the given number of them; positions are counted from 1
abbrev pub named_slots_text : List Piece → ℕ → Slots → Option ℕ → List Piece
named_slots_text before position no_slots sentinel = []
named_slots_text before position (slot_then s ss) sentinel =
    before ++ (sentinel_text sentinel ++ (param_flags position ∷ (slot_text s ++ (param_name position ∷ named_slots_text comma (position + 1) ss (sentinel_after sentinel)))))

abbrev pub declared_text : Method → List Piece
declared_text (method kind this explicit generic ret params sentinel) =
    call_text kind this explicit ++ (ret_text ret ++ (word (codes " ") ∷ (method_name ∷ (generics_text generic ++ (word (codes "(") ∷ (named_slots_text [] 1 params sentinel ++ word (codes ")") ∷ []))))))
