-- The text of a marshalling descriptor (ECMA-335 II.7.4, II.23.4, and Microsoft's ilasm).
use Rattle.std.specs.Prelude.{ℕ, ◌%◌, ◌==◌, nat_le, if◌then◌else◌, Option, None, Some, List, [], ◌∷◌, ◌++◌, length, codes, decimal, flat_map}
use Rattle.table_schema.specs.Tokens.{hexadecimal}
use Rattle.full_names.specs.Quoted.{quoted_bytes}
use Rattle.blob_values.specs.declared.native.Native.{Native}
use Rattle.blob_values.specs.declared.descriptor.ArraySize.{ArraySize}
use Rattle.blob_values.specs.declared.descriptor.ArraySize.TheVariants.{Unknown, Param, ParamAndCount, WithFlags}
use Rattle.blob_values.specs.DescriptorReading.{descriptor_of}
use Rattle.blob_values.specs.DescriptorValues.{Custom, Descriptor, native, array, interface_of, fixed_string, fixed_array, safe_array, safe_array_of, safe_array_named, custom}
use Rattle.blob_values.specs.Words.{native_word, variant_word}

-- the word for the type of elements, if it is known
abbrev pub element_word : Option Native → List ℕ
element_word None = []
element_word (Some of) = native_word of

-- a number of elements, and the parameter with the number that is added, if there is one
abbrev pub sum_text : ℕ → Option ℕ → List ℕ
sum_text n None = codes "[" ++ (decimal n ++ codes "]")
sum_text n (Some p) = codes "[" ++ (decimal n ++ (codes " + " ++ (decimal p ++ codes "]")))

-- parameter 0 is none, but for Microsoft's flags
abbrev pub size_text : ArraySize → List ℕ
size_text Unknown = codes "[]"
size_text (Param p) = codes "[+ " ++ (decimal p ++ codes "]")
size_text (ParamAndCount p n) = sum_text n (if p == 0 then None else Some p)
size_text (WithFlags p n flags) = sum_text n (if flags % 2 == 1 then Some p else None)

-- a type of VARIANT after a space: its word, or its number if it has none. Type 0 is any
abbrev pub word_or_number : List ℕ → ℕ → List ℕ
word_or_number [] n = decimal n
word_or_number (c ∷ word) n = c ∷ word

abbrev pub variant_text : ℕ → List ℕ
variant_text n = if n == 0 then [] else codes " " ++ word_or_number (variant_word n) n

abbrev pub quoted_text : List ℕ → List ℕ
quoted_text t = codes "\"" ++ (quoted_bytes t ++ codes "\"")

-- the name of a type after a comma, if it is not empty
abbrev pub type_after : List ℕ → List ℕ
type_after [] = []
type_after (c ∷ name) = codes ", " ++ quoted_text (c ∷ name)

-- the first two texts of a custom marshaler, unless both are empty
abbrev pub library_text : List ℕ → List ℕ → List ℕ
library_text [] [] = []
library_text guid unmanaged = quoted_text guid ++ (codes ", " ++ (quoted_text unmanaged ++ codes ", "))

abbrev pub custom_text : Custom → List ℕ
custom_text c =
    codes "custom(" ++ (library_text c.guid c.unmanaged ++ (quoted_text c.marshaler ++ (codes ", " ++ (quoted_text c.cookie ++ codes ")"))))

abbrev pub safe_text : ℕ → List ℕ → List ℕ
safe_text n name = codes "safearray" ++ (variant_text n ++ type_after name)

-- the text of an array in place: the type of its elements after a space, if it is known
abbrev pub fixed_text : ℕ → Option Native → List ℕ
fixed_text n None = codes "fixed array [" ++ (decimal n ++ codes "]")
fixed_text n (Some of) = codes "fixed array [" ++ (decimal n ++ (codes "] " ++ native_word of))

abbrev pub descriptor_text : Descriptor → List ℕ
descriptor_text (native of) = native_word of
descriptor_text (array of size) = element_word of ++ size_text size
descriptor_text (interface_of of n) = native_word of ++ (codes "(iidparam = " ++ (decimal n ++ codes ")"))
descriptor_text (fixed_string n) = codes "fixed sysstring [" ++ (decimal n ++ codes "]")
descriptor_text (fixed_array n of) = fixed_text n of
descriptor_text safe_array = codes "safearray"
descriptor_text (safe_array_of n) = safe_text n []
descriptor_text (safe_array_named n name) = safe_text n name
descriptor_text (custom c) = custom_text c

-- the largest blob that is decoded, in bytes
abbrev pub descriptor_limit : ℕ
descriptor_limit = 0x10000

-- the descriptor that a blob is (II.23.4), unless it is too long
abbrev pub descriptor_in : List ℕ → Option Descriptor
descriptor_in blob = if nat_le (length blob) descriptor_limit then descriptor_of blob else None

-- two hexadecimal digits for each byte
abbrev pub bytes_text : List ℕ → List ℕ
bytes_text blob = flat_map (hexadecimal 2) blob

-- a descriptor, or the bytes of a blob that is none
abbrev pub content_text : Option Descriptor → List ℕ → List ℕ
content_text None blob = bytes_text blob
content_text (Some of) blob = descriptor_text of

-- how a parameter or a result is marshalled (II.7.4, II.15.4)
abbrev pub marshal_text : List ℕ → List ℕ
marshal_text blob = codes "marshal(" ++ (content_text (descriptor_in blob) blob ++ codes ")")
