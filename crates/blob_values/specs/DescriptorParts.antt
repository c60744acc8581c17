-- The bytes of a descriptor (ECMA-335 II.23.4), as parts that follow one another.
use Rattle.std.specs.Prelude.{◌≡◌, ℕ, true, Option, Some, None, List, [], ◌∷◌, ◌++◌, length, IsUtf8, ⊤}
use Rattle.packed.specs.Packed.{IsPacked}
use Rattle.blob_values.specs.declared.native.Native.{Native}
use Rattle.blob_values.specs.declared.descriptor.ArraySize.{ArraySize}
use Rattle.blob_values.specs.declared.descriptor.ArraySize.TheVariants.{Unknown, Param, ParamAndCount, WithFlags}
use Rattle.blob_values.specs.Codes.{native_code, ARRAY, FIXED_STRING, SAFE_ARRAY, FIXED_ARRAY, CUSTOM, MAX, is_interface}
use Rattle.blob_values.specs.DescriptorValues.{Descriptor, native, array, interface_of, fixed_string, fixed_array, safe_array, safe_array_of, safe_array_named, custom}

-- a byte, a packed number (II.23.2), or a text in UTF-8 after its length as a packed number
pub data Part : Type 0 where
  byte : ℕ → Part
  number : ℕ → Part
  text : List ℕ → Part

-- the bytes encode the part
abbrev pub IsPart : Part → List ℕ → Type 0
IsPart (byte c) bytes = bytes ≡ c ∷ []
IsPart (number n) bytes = IsPacked n bytes
IsPart (text t) bytes = IsUtf8 t × ((prefix : List ℕ) × IsPacked (length t) prefix × (bytes ≡ prefix ++ t))

-- the bytes are those of the parts, and then the tail
abbrev pub AreParts : List Part → List ℕ → List ℕ → Type 0
AreParts [] tail bytes = bytes ≡ tail
AreParts (part ∷ parts) tail bytes =
    (head : List ℕ) × (remainder : List ℕ) × (bytes ≡ head ++ remainder) × IsPart part head × AreParts parts tail remainder

-- ArrayElemType
abbrev pub element_code : Option Native → ℕ
element_code None = MAX
element_code (Some of) = native_code of

-- ParamNum, NumElem, and Microsoft's flags
abbrev pub size_parts : ArraySize → List Part
size_parts Unknown = []
size_parts (Param p) = number p ∷ []
size_parts (ParamAndCount p n) = number p ∷ number n ∷ []
size_parts (WithFlags p n flags) = number p ∷ number n ∷ number flags ∷ []

-- the type of the elements of a fixed array may be absent
abbrev pub absent_or : Option Native → List Part
absent_or None = []
absent_or (Some of) = byte (native_code of) ∷ []

abbrev pub parts_of : Descriptor → List Part
-- those of the standard
parts_of (native of) = byte (native_code of) ∷ []
parts_of (array of size) = byte ARRAY ∷ byte (element_code of) ∷ size_parts size
-- Microsoft's
parts_of (interface_of of n) = byte (native_code of) ∷ number n ∷ []
parts_of (fixed_string n) = byte FIXED_STRING ∷ number n ∷ []
parts_of (fixed_array n of) = byte FIXED_ARRAY ∷ number n ∷ absent_or of
parts_of safe_array = byte SAFE_ARRAY ∷ []
parts_of (safe_array_of n) = byte SAFE_ARRAY ∷ number n ∷ []
parts_of (safe_array_named n name) = byte SAFE_ARRAY ∷ number n ∷ text name ∷ []
parts_of (custom c) = byte CUSTOM ∷ text c.guid ∷ text c.unmanaged ∷ text c.marshaler ∷ text c.cookie ∷ []

-- only the identifier of an interface is in a parameter
abbrev pub IsKnown : Descriptor → Type 0
IsKnown (interface_of of n) = is_interface of ≡ true
IsKnown _ = ⊤

-- the bytes are the descriptor
pub record IsDescriptor (v : Descriptor) (bytes : List ℕ) : Type 0 where
  pub known : IsKnown v
  pub parts : AreParts (parts_of v) [] bytes
