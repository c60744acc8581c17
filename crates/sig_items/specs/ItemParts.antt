-- The bytes of an item (ECMA-335 II.23.2).
use Rattle.std.specs.Prelude.{ℕ, ◌+◌, List, [], ◌∷◌, ◌++◌, flat_map}
use Rattle.std.specs.List.{AllByRecursion}
use Rattle.sig_grammar.specs.declared.calling_convention.CallingConvention.{CallingConvention}
use Rattle.sig_grammar.specs.declared.calling_convention.CallingConvention.TheVariants as convention
use Rattle.sig_grammar.specs.ElementTypes.{element_code, VOID, PTR, BYREF, VALUETYPE, CLASS, VAR, ARRAY, GENERICINST, TYPEDBYREF, FNPTR, SZARRAY, MVAR, SENTINEL, PINNED}
use Rattle.sig_grammar.specs.Parts.{Part, byte, number, signed, index, short_part, HasEncoding}
use Rattle.sig_grammar.specs.Grammar.{modifier_parts, generic_parts, named_code, method_code, flag}
use Rattle.sig_items.specs.declared.item.Item.{Item}
use Rattle.sig_items.specs.declared.item.Item.TheVariants as item

-- the calling convention in a first byte (II.23.2.1, II.23.2.3)
abbrev pub convention_code : CallingConvention → ℕ
convention_code convention.Default = 0
convention_code convention.C = 1
convention_code convention.StdCall = 2
convention_code convention.ThisCall = 3
convention_code convention.FastCall = 4
convention_code convention.VarArg = 5
convention_code convention.Unmanaged = 9

-- the parts of an item, in encoded order
abbrev pub item_parts : Item → List Part
item_parts item.Field = byte 0x06 ∷ []
item_parts (item.Method head) =
    byte (method_code (convention_code head.convention) head.this head.explicit head.generic) ∷ (generic_parts head.generic ++ number head.params ∷ [])
item_parts (item.Property this params) = byte (0x08 + flag this 0x20) ∷ number params ∷ []
item_parts (item.Locals count) = byte 0x07 ∷ number count ∷ []
item_parts (item.Arguments count) = byte 0x0A ∷ number count ∷ []
item_parts (item.Modifier modifier) = modifier_parts modifier
item_parts item.Pinned = byte PINNED ∷ []
item_parts item.Sentinel = byte SENTINEL ∷ []
item_parts item.Void = byte VOID ∷ []
item_parts item.TypedRef = byte TYPEDBYREF ∷ []
item_parts item.ByRef = byte BYREF ∷ []
item_parts (item.Simple element) = byte (element_code element) ∷ []
item_parts item.Pointer = byte PTR ∷ []
item_parts item.Vector = byte SZARRAY ∷ []
item_parts item.Array = byte ARRAY ∷ []
item_parts (item.Class of) = byte CLASS ∷ index of ∷ []
item_parts (item.Value of) = byte VALUETYPE ∷ index of ∷ []
item_parts (item.Var n) = byte VAR ∷ number n ∷ []
item_parts (item.MVar n) = byte MVAR ∷ number n ∷ []
item_parts (item.Instance is_value of args) = byte GENERICINST ∷ byte (named_code is_value) ∷ index of ∷ number args ∷ []
item_parts item.Function = byte FNPTR ∷ []
item_parts (item.Shape rank sizes) = number rank ∷ number sizes ∷ []
item_parts (item.Size n) = number n ∷ []
item_parts (item.LowBounds count) = number count ∷ []
item_parts (item.LowBound z) = signed z ∷ []

-- the bytes of parts, one after another, each in its shortest form
abbrev pub short_parts : List Part → List ℕ
short_parts parts = flat_map short_part parts

-- the bytes of an item, in its shortest form
abbrev pub encoded_item : Item → List ℕ
encoded_item i = short_parts (item_parts i)

-- each part of the item has an encoding
abbrev pub HasItemEncoding : Item → Type 0
HasItemEncoding i = AllByRecursion HasEncoding (item_parts i)
