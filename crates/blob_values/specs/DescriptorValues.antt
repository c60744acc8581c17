-- Marshalling descriptors, independent of their bytes (ECMA-335 II.23.4).
use Rattle.std.specs.Prelude.{ℕ, Option, List}
use Rattle.blob_values.specs.declared.native.Native.{Native}
use Rattle.blob_values.specs.declared.descriptor.ArraySize.{ArraySize}

-- the texts of a custom marshaler: a GUID, the name of an unmanaged type, the name of the type that marshals, and what it is given
pub record Custom : Type 0 where
  pub guid : List ℕ
  pub unmanaged : List ℕ
  pub marshaler : List ℕ
  pub cookie : List ℕ

pub data Descriptor : Type 0 where
  native : Native → Descriptor
  -- the type of the elements, if it is known, and their number
  array : Option Native → ArraySize → Descriptor
  -- Microsoft's: an interface, and the number of the parameter with its identifier
  interface_of : Native → ℕ → Descriptor
  -- a text of a number of characters in place
  fixed_string : ℕ → Descriptor
  -- a number of elements in place, and their type, if it is known
  fixed_array : ℕ → Option Native → Descriptor
  -- an array of COM: of any type, of a type of VARIANT, and with the name of the type of its elements
  safe_array : Descriptor
  safe_array_of : ℕ → Descriptor
  safe_array_named : ℕ → List ℕ → Descriptor
  custom : Custom → Descriptor
