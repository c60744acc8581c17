-- The content of a value of the Rust types, independent of memory layout.
use Rattle.std.specs.Prelude.{Some, None, List, [], ◌∷◌, map}
use Rattle.sig_grammar.specs.Syntax as sig
use Rattle.sig_grammar.specs.declared.types.Shape.{Shape}
use Rattle.sig_grammar.specs.declared.types.Core.{Core, Core-F, fold-Core}
use Rattle.sig_grammar.specs.declared.types.Core.TheOpen.{Simple, Pointer, Vector, Array, Class, Value, Var, MVar, Instance, Function, Slot, Void, TypedRef, Plain, ByRef}
use Rattle.sig_grammar.specs.declared.types.Ret.{Ret, Ret-F, fold-Ret}
use Rattle.sig_grammar.specs.declared.types.SlotKind.{SlotKind, SlotKind-F, fold-SlotKind}
use Rattle.sig_grammar.specs.declared.types.MethodSig.{MethodSig, MethodSig-F, fold-MethodSig}
use Rattle.sig_grammar.specs.declared.types.Slot.{Slot as SlotSig, Slot-F, fold-Slot}
use Rattle.sig_grammar.specs.declared.types.TypeSig.{TypeSig, TypeSig-F, fold-TypeSig}
use Rattle.sig_grammar.specs.declared.body.Local.{Local}
use Rattle.sig_grammar.specs.declared.body.SigBody as rust
use Rattle.sig_grammar.specs.declared.body.SigBody.TheVariants as body

abbrev pub types_from : List sig.Typed → sig.Types
types_from [] = sig.no_types
types_from (t ∷ ts) = sig.type_then t (types_from ts)

abbrev pub slots_from : List sig.Slot → sig.Slots
slots_from [] = sig.no_slots
slots_from (s ∷ ss) = sig.slot_then s (slots_from ss)

abbrev pub shape_of : Shape → sig.ArrayShape
shape_of s = record { rank = s.rank; sizes = s.sizes.items; low = s.low.items }

-- Each case is one layer of the value, with the content of its parts already computed.
abbrev pub core_layer : Core-F sig.Core sig.Ret sig.Content sig.Method sig.Slot sig.Typed → sig.Core
core_layer (Simple e) = sig.simple e
core_layer (Pointer modifiers None) = sig.void_pointer modifiers.items
core_layer (Pointer modifiers (Some to)) = sig.pointer modifiers.items to.value
core_layer (Vector of) = sig.vector of.value
core_layer (Array of shape) = sig.array of.value (shape_of shape)
core_layer (Class of) = sig.class of
core_layer (Value of) = sig.value of
core_layer (Var n) = sig.var n
core_layer (MVar n) = sig.mvar n
core_layer (Instance value of args) = sig.instance value of (types_from args.items)
core_layer (Function m) = sig.function m.value

abbrev pub ret_layer : Ret-F sig.Core sig.Ret sig.Content sig.Method sig.Slot sig.Typed → sig.Ret
ret_layer (Slot s) = sig.some_ret s
ret_layer (Void modifiers) = sig.void_ret modifiers.items

abbrev pub content_layer : SlotKind-F sig.Core sig.Ret sig.Content sig.Method sig.Slot sig.Typed → sig.Content
content_layer TypedRef = sig.typed_ref
content_layer (Plain c) = sig.plain c
content_layer (ByRef modifiers c) = sig.by_ref modifiers.items c

abbrev pub method_layer : MethodSig-F sig.Core sig.Ret sig.Content sig.Method sig.Slot sig.Typed → sig.Method
method_layer m = sig.method m.kind m.this m.explicit m.generic m.ret (slots_from m.params.items) m.sentinel

abbrev pub slot_layer : Slot-F sig.Core sig.Ret sig.Content sig.Method sig.Slot sig.Typed → sig.Slot
slot_layer s = sig.slot s.mods.items s.kind

abbrev pub type_layer : TypeSig-F sig.Core sig.Ret sig.Content sig.Method sig.Slot sig.Typed → sig.Typed
type_layer t = sig.typed t.mods.items t.core

unfoldable pub core_of : Core → sig.Core
core_of = fold-Core sig.Core sig.Ret sig.Content sig.Method sig.Slot sig.Typed core_layer ret_layer content_layer method_layer slot_layer type_layer

unfoldable pub ret_of : Ret → sig.Ret
ret_of = fold-Ret sig.Core sig.Ret sig.Content sig.Method sig.Slot sig.Typed core_layer ret_layer content_layer method_layer slot_layer type_layer

unfoldable pub content_of : SlotKind → sig.Content
content_of = fold-SlotKind sig.Core sig.Ret sig.Content sig.Method sig.Slot sig.Typed core_layer ret_layer content_layer method_layer slot_layer type_layer

unfoldable pub method_of : MethodSig → sig.Method
method_of = fold-MethodSig sig.Core sig.Ret sig.Content sig.Method sig.Slot sig.Typed core_layer ret_layer content_layer method_layer slot_layer type_layer

unfoldable pub slot_of : SlotSig → sig.Slot
slot_of = fold-Slot sig.Core sig.Ret sig.Content sig.Method sig.Slot sig.Typed core_layer ret_layer content_layer method_layer slot_layer type_layer

unfoldable pub type_of : TypeSig → sig.Typed
type_of = fold-TypeSig sig.Core sig.Ret sig.Content sig.Method sig.Slot sig.Typed core_layer ret_layer content_layer method_layer slot_layer type_layer

abbrev pub local_of : Local → sig.LocalVariable
local_of l = sig.local l.prefix.items (content_of l.kind)

-- the content of a whole signature
abbrev pub body_of : rust.SigBody → sig.Body
body_of (body.Field f) = sig.field (slot_of f.0)
body_of (body.Method m) = sig.method_body (method_of m)
body_of (body.Property p) = sig.property p.this (slot_of p.of) (map slot_of p.params.items)
body_of (body.Locals l) = sig.locals (map local_of l.0.items)
body_of (body.Instance i) = sig.instance_body (map type_of i.0.items)
body_of (body.TypeSpec r) = sig.type_spec (ret_of r)
