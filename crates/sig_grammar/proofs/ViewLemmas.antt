-- The content of each form of a value (ECMA-335 II.23.2), from the content of its parts.
use Rattle.std.proofs.Common.{◌≡◌, ℕ, Bool, Some, None, Vec, Global, map, ap, sym, ◌∙◌, refl, rules}
use Rattle.std.specs.declared.boxed.Box.{Box}
use Rattle.table_schema.specs.declared.token.Token.{Token}
use Rattle.sig_grammar.specs.declared.element.Element.{Element}
use Rattle.sig_grammar.specs.declared.types.Modifier.{Modifier}
use Rattle.sig_grammar.specs.declared.types.Shape.{Shape}
use Rattle.sig_grammar.specs.declared.types.TypeSig as types
use Rattle.sig_grammar.specs.declared.types.TypeSig.{TypeSig}
use Rattle.sig_grammar.specs.declared.types.MethodSig as methods
use Rattle.sig_grammar.specs.declared.types.MethodSig.{MethodSig}
use Rattle.sig_grammar.specs.declared.types.Slot as slots
use Rattle.sig_grammar.specs.declared.types.Slot.{Slot}
use Rattle.sig_grammar.specs.declared.types.Core as cores
use Rattle.sig_grammar.specs.declared.types.Core.TheVariants.{rolls-Pointer, rolls-Vector, rolls-Array, rolls-Instance, rolls-Function}
use Rattle.sig_grammar.specs.declared.types.SlotKind as kinds
use Rattle.sig_grammar.specs.declared.types.SlotKind.TheVariants.{rolls-Plain, rolls-ByRef}
use Rattle.sig_grammar.specs.declared.types.Ret as rets
use Rattle.sig_grammar.specs.declared.types.Ret.TheVariants.{rolls-Slot, rolls-Void}
use Rattle.sig_grammar.specs.Views.{core_of, type_of, content_of, slot_of, ret_of, method_of, shape_of, types_from, slots_from}
use Rattle.sig_grammar.specs.Syntax as sig

-- ---- types

pub view_simple : (e : Element) → core_of (cores.Simple e) ≡ sig.simple e
unfolding core_of
view_simple e = search (rules, cores.the_lemmas)

pub view_void_pointer : (mods : Vec Modifier Global) → core_of (cores.Pointer mods None) ≡ sig.void_pointer mods.items
unfolding core_of
view_void_pointer mods = ap core_of (sym (rolls-Pointer mods None)) ∙ search (rules, cores.the_lemmas)

pub view_pointer : (mods : Vec Modifier Global) (to : Box cores.Core Global)
    → core_of (cores.Pointer mods (Some to)) ≡ sig.pointer mods.items (core_of to.value)
unfolding core_of
view_pointer mods to = ap core_of (sym (rolls-Pointer mods (Some to))) ∙ search (rules, cores.the_lemmas)

pub view_vector : (of : Box TypeSig Global) → core_of (cores.Vector of) ≡ sig.vector (type_of of.value)
unfolding core_of type_of
view_vector of = ap core_of (sym (rolls-Vector of)) ∙ rw cores.fold-roll-Core refl

pub view_array : (of : Box TypeSig Global) (shape : Shape) → core_of (cores.Array of shape) ≡ sig.array (type_of of.value) (shape_of shape)
unfolding core_of type_of
view_array of shape = ap core_of (sym (rolls-Array of shape)) ∙ rw cores.fold-roll-Core refl

pub view_class : (t : Token) → core_of (cores.Class t) ≡ sig.class t
unfolding core_of
view_class t = search (rules, cores.the_lemmas)

pub view_value : (t : Token) → core_of (cores.Value t) ≡ sig.value t
unfolding core_of
view_value t = search (rules, cores.the_lemmas)

pub view_var : (n : ℕ) → core_of (cores.Var n) ≡ sig.var n
unfolding core_of
view_var n = search (rules, cores.the_lemmas)

pub view_mvar : (n : ℕ) → core_of (cores.MVar n) ≡ sig.mvar n
unfolding core_of
view_mvar n = search (rules, cores.the_lemmas)

pub view_instance : (is_value : Bool) (of : Token) (args : Vec TypeSig Global)
    → core_of (cores.Instance is_value of args) ≡ sig.instance is_value of (types_from (map type_of args.items))
unfolding core_of type_of
view_instance is_value of args = ap core_of (sym (rolls-Instance is_value of args)) ∙ rw cores.fold-roll-Core refl

pub view_function : (m : Box MethodSig Global) → core_of (cores.Function m) ≡ sig.function (method_of m.value)
unfolding core_of method_of
view_function m = ap core_of (sym (rolls-Function m)) ∙ rw cores.fold-roll-Core refl

-- ---- the kind of a parameter

pub view_typed_ref : content_of kinds.TypedRef ≡ sig.typed_ref
unfolding content_of
view_typed_ref = search (rules, kinds.the_lemmas)

pub view_plain : (c : cores.Core) → content_of (kinds.Plain c) ≡ sig.plain (core_of c)
unfolding content_of core_of
view_plain c = ap content_of (sym (rolls-Plain c)) ∙ rw kinds.fold-roll-SlotKind refl

pub view_by_ref : (mods : Vec Modifier Global) (c : cores.Core) → content_of (kinds.ByRef mods c) ≡ sig.by_ref mods.items (core_of c)
unfolding content_of core_of
view_by_ref mods c = ap content_of (sym (rolls-ByRef mods c)) ∙ rw kinds.fold-roll-SlotKind refl

-- ---- results

pub view_some_ret : (s : Slot) → ret_of (rets.Slot s) ≡ sig.some_ret (slot_of s)
unfolding ret_of slot_of
view_some_ret s = ap ret_of (sym (rolls-Slot s)) ∙ rw rets.fold-roll-Ret refl

pub view_void_ret : (mods : Vec Modifier Global) → ret_of (rets.Void mods) ≡ sig.void_ret mods.items
unfolding ret_of
view_void_ret mods = ap ret_of (sym (rolls-Void mods)) ∙ rw rets.fold-roll-Ret refl

-- ---- the fields of a type, a parameter and a method

pub view_type : (t : types.TypeSig) → type_of t ≡ sig.typed (types.out-TypeSig t).mods.items (core_of (types.out-TypeSig t).core)
unfolding type_of core_of
view_type t = types.fold_out-TypeSig _ _ _ _ _ _ _ _ _ _ _ _ t

pub view_slot : (s : slots.Slot) → slot_of s ≡ sig.slot (slots.out-Slot s).mods.items (content_of (slots.out-Slot s).kind)
unfolding slot_of content_of
view_slot s = slots.fold_out-Slot _ _ _ _ _ _ _ _ _ _ _ _ s

pub view_method : (m : methods.MethodSig)
    → method_of m ≡ sig.method (methods.out-MethodSig m).kind (methods.out-MethodSig m).this (methods.out-MethodSig m).explicit
    (methods.out-MethodSig m).generic (ret_of (methods.out-MethodSig m).ret)
    (slots_from (map slot_of (methods.out-MethodSig m).params.items)) (methods.out-MethodSig m).sentinel
unfolding method_of ret_of slot_of
view_method m = methods.fold_out-MethodSig _ _ _ _ _ _ _ _ _ _ _ _ m

pub ruleset views = (
  view_simple,
  view_void_pointer,
  view_pointer,
  view_vector,
  view_array,
  view_class,
  view_value,
  view_var,
  view_mvar,
  view_instance,
  view_function,
  view_typed_ref,
  view_plain,
  view_by_ref,
  view_some_ret,
  view_void_ret,
)
