-- What is encoded so is read: each form of a descriptor.
use Rattle.blob_values.proofs.DescriptorPrelude.{◌≡◌, ℕ, Option, Some, None, List, [], ◌∷◌, refl, Native, Boolean, ArraySize, Unknown, Param, ParamAndCount, WithFlags, native_code, native_of, Descriptor, native, array, interface_of, fixed_string, fixed_array, safe_array, safe_array_of, safe_array_named, custom, byte, number, text, AreParts, IsDescriptor, element_code, size_parts, parts_of, IsKnown, size_of, element_of, array_of, fixed_string_of, fixed_array_of, safe_of, custom_of, native_then, coded_of, descriptor_of}
use Rattle.blob_values.proofs.DescriptorPartLemmas.{NumbersAreRead, number_first, number_again, text_first, text_again}

native_again : (of : Native) → native_of (native_code of) ≡ Some of
unfolding native_of
native_again Boolean = refl
native_again _ = refl

element_again : (of : Option Native) → element_of (element_code of) ≡ Some of
unfolding native_of
element_again None = refl
element_again (Some Boolean) = refl
element_again (Some _) = refl

-- a type that its code alone encodes has none of the codes that something follows
coded_native : (of : Native) (b : List ℕ) → coded_of (native_code of) b ≡ native_then of b
unfolding coded_of native_of
coded_native Boolean b = refl
coded_native _ b = refl

module _ (known : NumbersAreRead) where
  size_again : (s : ArraySize) (b : List ℕ) → AreParts (size_parts s) [] b → size_of b ≡ Some s
  unfolding size_of
  size_again Unknown b f = rw f refl
  size_again (Param p) b f = let x = number_first known p [] [] b f in rw (x.2, x.3, f.4) refl
  size_again (ParamAndCount p n) b f =
      let x = number_first known p (number n ∷ []) [] b f in
      let y = number_first known n [] [] f.1 f.4 in
      rw (x.2, x.3, y.2, y.3, f.4.4) refl
  size_again (WithFlags p n flags) b f =
      let x = number_first known p (number n ∷ number flags ∷ []) [] b f in
      let y = number_first known n (number flags ∷ []) [] f.1 f.4 in
      let z = number_first known flags [] [] f.4.1 f.4.4 in
      rw (x.2, x.3, y.2, y.3, z.2, z.3, f.4.4.4) refl

  again : (v : Descriptor) (b : List ℕ) → IsKnown v → AreParts (parts_of v) [] b → descriptor_of b ≡ Some v
  unfolding descriptor_of coded_of array_of fixed_string_of fixed_array_of safe_of custom_of
  again (native of) b k f = rw (f.2, f.3, f.4, coded_native of []) refl
  again (array of size) b k f = rw (f.2, f.3, f.4.2, f.4.3, element_again of, size_again size f.4.1 f.4.4) refl
  again (interface_of of n) b k f =
      let x = number_first known n [] [] f.1 f.4 in
      rw (f.2, f.3, coded_native of f.1, x.2, k, x.3, f.4.4) refl
  again (fixed_string n) b k f = rw (f.2, f.3, number_again known n [] [] f.1 f.4, f.4.4) refl
  again (fixed_array n None) b k f = rw (f.2, f.3, number_again known n [] [] f.1 f.4, f.4.4) refl
  again (fixed_array n (Some of)) b k f =
      rw (f.2, f.3, number_again known n (byte (native_code of) ∷ []) [] f.1 f.4, f.4.4.2, f.4.4.3, native_again of, f.4.4.4) refl
  again safe_array b k f = rw (f.2, f.3, f.4) refl
  again (safe_array_of n) b k f = let x = number_first known n [] [] f.1 f.4 in rw (f.2, f.3, x.2, x.3, f.4.4) refl
  again (safe_array_named n name) b k f =
      let x = number_first known n (text name ∷ []) [] f.1 f.4 in
      let y = text_first known name [] [] f.4.1 f.4.4 in
      rw (f.2, f.3, x.2, x.3, y.2, y.3, f.4.4.4) refl
  again (custom c) b k f =
      rw (
        f.2,
        f.3,
        text_again known c.guid (text c.unmanaged ∷ text c.marshaler ∷ text c.cookie ∷ []) [] f.1 f.4,
        text_again known c.unmanaged (text c.marshaler ∷ text c.cookie ∷ []) [] f.4.1 f.4.4,
        text_again known c.marshaler (text c.cookie ∷ []) [] f.4.4.1 f.4.4.4,
        text_again known c.cookie [] [] f.4.4.4.1 f.4.4.4.4,
        f.4.4.4.4.4,
      ) refl

  pub descriptor_again : (v : Descriptor) (b : List ℕ) → IsDescriptor v b → descriptor_of b ≡ Some v
  descriptor_again v b is = again v b is.known is.parts
