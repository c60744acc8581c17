-- Readers as functions on lists. Private functions compute them. It is proved that they read what the relation says, and
-- nothing else.
use Rattle.std.specs.Prelude.{ℕ, ◌==◌, nat_lt, if◌then◌else◌, Option, Some, None, option_map, option_and_then, List, [], ◌∷◌, length, take, drop}
use Rattle.std.specs.Str.{is_utf8}
use Rattle.packed.specs.Prefix.{unsigned_at}
use Rattle.blob_values.specs.declared.native.Native.{Native}
use Rattle.blob_values.specs.declared.descriptor.ArraySize.{ArraySize}
use Rattle.blob_values.specs.declared.descriptor.ArraySize.TheVariants.{Unknown, Param, ParamAndCount, WithFlags}
use Rattle.blob_values.specs.Codes.{ARRAY, FIXED_STRING, SAFE_ARRAY, FIXED_ARRAY, CUSTOM, MAX, is_interface, native_of}
use Rattle.blob_values.specs.DescriptorValues.{Descriptor, native, array, interface_of, fixed_string, fixed_array, safe_array, safe_array_of, safe_array_named, custom}

-- the first value and the remaining bytes
abbrev pub Reader : Type 0 → Type 0
Reader A = List ℕ → Option (A × List ℕ)

unfoldable pub number_at : Reader ℕ
number_at b = option_map (λ x. (x.0, drop x.1 b)) (unsigned_at b)

abbrev pub text_in : ℕ → Reader (List ℕ)
text_in n b = if nat_lt (length b) n then None else if is_utf8 (take n b) then Some (take n b, drop n b) else None

unfoldable pub text_at : Reader (List ℕ)
text_at b = option_and_then (λ x. text_in x.0 x.1) (number_at b)

-- a value, if no byte remains
abbrev pub at_end : {A : Type 0} → A → List ℕ → Option A
at_end v [] = Some v
at_end v (c ∷ b) = None

abbrev pub flags_of : (p n : ℕ) → List ℕ → Option ArraySize
flags_of p n [] = Some (ParamAndCount p n)
flags_of p n (c ∷ b) = option_and_then (λ x. at_end (WithFlags p n x.0) x.1) (number_at (c ∷ b))

abbrev pub count_of : ℕ → List ℕ → Option ArraySize
count_of p [] = Some (Param p)
count_of p (c ∷ b) = option_and_then (λ x. flags_of p x.0 x.1) (number_at (c ∷ b))

unfoldable pub size_of : List ℕ → Option ArraySize
size_of [] = Some Unknown
size_of (c ∷ b) = option_and_then (λ x. count_of x.0 x.1) (number_at (c ∷ b))

-- the type of elements with this code
abbrev pub element_of : ℕ → Option (Option Native)
element_of c = if c == MAX then Some None else option_map (λ of. Some of) (native_of c)

unfoldable pub array_of : List ℕ → Option Descriptor
array_of [] = None
array_of (c ∷ b) = option_and_then (λ of. option_map (array of) (size_of b)) (element_of c)

unfoldable pub fixed_string_of : List ℕ → Option Descriptor
fixed_string_of b = option_and_then (λ x. at_end (fixed_string x.0) x.1) (number_at b)

abbrev pub fixed_elements_of : ℕ → List ℕ → Option Descriptor
fixed_elements_of n [] = Some (fixed_array n None)
fixed_elements_of n (c ∷ b) = option_and_then (λ of. at_end (fixed_array n (Some of)) b) (native_of c)

unfoldable pub fixed_array_of : List ℕ → Option Descriptor
fixed_array_of b = option_and_then (λ x. fixed_elements_of x.0 x.1) (number_at b)

abbrev pub named_of : ℕ → List ℕ → Option Descriptor
named_of n [] = Some (safe_array_of n)
named_of n (c ∷ b) = option_and_then (λ x. at_end (safe_array_named n x.0) x.1) (text_at (c ∷ b))

unfoldable pub safe_of : List ℕ → Option Descriptor
safe_of [] = Some safe_array
safe_of (c ∷ b) = option_and_then (λ x. named_of x.0 x.1) (number_at (c ∷ b))

abbrev pub custom_by : (guid unmanaged marshaler cookie : List ℕ) → Descriptor
custom_by guid unmanaged marshaler cookie = custom (record { guid = guid; unmanaged = unmanaged; marshaler = marshaler; cookie = cookie })

unfoldable pub custom_of : List ℕ → Option Descriptor
custom_of b =
    option_and_then (λ g. option_and_then (λ u. option_and_then (λ m. option_and_then (λ k. at_end (custom_by g.0 u.0 m.0 k.0) k.1)
    (text_at m.1)) (text_at u.1)) (text_at g.1)) (text_at b)

abbrev pub interface_with : Native → List ℕ → Option Descriptor
interface_with of b = if is_interface of then option_and_then (λ x. at_end (interface_of of x.0) x.1) (number_at b) else None

abbrev pub native_then : Native → List ℕ → Option Descriptor
native_then of [] = Some (native of)
native_then of (c ∷ b) = interface_with of (c ∷ b)

unfoldable pub coded_of : ℕ → List ℕ → Option Descriptor
coded_of c b =
    if c == ARRAY then array_of b else if c == FIXED_STRING then fixed_string_of b else if c == FIXED_ARRAY then fixed_array_of b
    else if c == SAFE_ARRAY then safe_of b else if c == CUSTOM then custom_of b else option_and_then (λ of. native_then of b) (native_of c)

-- the descriptor that the bytes are, if they are one
unfoldable pub descriptor_of : List ℕ → Option Descriptor
descriptor_of [] = None
descriptor_of (c ∷ b) = coded_of c b
