-- What is read is encoded so: each form of a descriptor.
use Rattle.blob_values.proofs.DescriptorPrelude.{◌≡◌, ◌∙◌, ℕ, Option, Some, None, List, [], ◌∷◌, refl, sym, ap, subst, ◌==◌, if◌then◌else◌, option_map, cond_both, eqb-true, option_and_then_some, Native, Boolean, I1, U1, I2, U2, I4, U4, I8, U8, R4, R8, LpStr, LpwStr, Int, Uint, Func, Currency, BStr, LptStr, IUnknown, IDispatch, Struct, Interface, ByValStr, AnsiBStr, TBStr, VariantBool, AsAny, LpStruct, Error, IInspectable, HString, LpUtf8Str, ArraySize, Unknown, Param, ParamAndCount, WithFlags, native_code, native_of, pick, is_interface, ARRAY, FIXED_STRING, SAFE_ARRAY, FIXED_ARRAY, CUSTOM, MAX, Descriptor, native, array, interface_of, fixed_string, fixed_array, safe_array, safe_array_of, safe_array_named, byte, number, Part, ⊤, suc, parts_of, IsKnown, AreParts, IsDescriptor, element_code, size_parts, at_end, flags_of, count_of, size_of, element_of, array_of, fixed_string_of, fixed_elements_of, fixed_array_of, named_of, safe_of, custom_by, custom_of, native_then, coded_of, descriptor_of}
use Rattle.blob_values.proofs.DescriptorPartLemmas.{AreBytes, NumbersAreRead, Ends, map_some, byte_begins, at_ended, part_then, number_then, text_then}

-- ---- codes

picked : (c n : ℕ) (of v : Native) (other : Option Native) → native_code of ≡ n → (other ≡ Some v → c ≡ native_code v) → pick c n of other ≡ Some v → c ≡ native_code v
picked c n of v other is h =
    cond_both (c == n) (Some of) other (λ o. o ≡ Some v → c ≡ native_code v)
    (λ t e. let same : of ≡ v = cc in eqb-true c n t ∙ sym is ∙ ap native_code same) (λ _. h)

native_found : (c : ℕ) (v : Native) → native_of c ≡ Some v → c ≡ native_code v
unfolding native_of
native_found c v =
    picked c 0x02 Boolean v _ refl (picked c 0x03 I1 v _ refl (picked c 0x04 U1 v _ refl (picked c 0x05 I2 v _ refl (picked c 0x06 U2 v _ refl
    (picked c 0x07 I4 v _ refl (picked c 0x08 U4 v _ refl (picked c 0x09 I8 v _ refl (picked c 0x0A U8 v _ refl (picked c 0x0B R4 v _ refl
    (picked c 0x0C R8 v _ refl (picked c 0x0F Currency v _ refl (picked c 0x13 BStr v _ refl (picked c 0x14 LpStr v _ refl
    (picked c 0x15 LpwStr v _ refl (picked c 0x16 LptStr v _ refl (picked c 0x19 IUnknown v _ refl (picked c 0x1A IDispatch v _ refl
    (picked c 0x1B Struct v _ refl (picked c 0x1C Interface v _ refl (picked c 0x1F Int v _ refl (picked c 0x20 Uint v _ refl
    (picked c 0x22 ByValStr v _ refl (picked c 0x23 AnsiBStr v _ refl (picked c 0x24 TBStr v _ refl (picked c 0x25 VariantBool v _ refl
    (picked c 0x26 Func v _ refl (picked c 0x28 AsAny v _ refl (picked c 0x2B LpStruct v _ refl (picked c 0x2D Error v _ refl
    (picked c 0x2E IInspectable v _ refl (picked c 0x2F HString v _ refl (picked c 0x30 LpUtf8Str v None refl (λ e. cc)))))))))))))))))))))))))))))))))

element_found : (c : ℕ) (of : Option Native) → element_of c ≡ Some of → c ≡ element_code of
element_found c of =
    cond_both (c == MAX) (Some None) (option_map (λ n. Some n) (native_of c)) (λ o. o ≡ Some of → c ≡ element_code of)
    (λ t e. let same : None ≡ of = cc in eqb-true c MAX t ∙ ap element_code same)
    (λ _ e. map_some (λ n. Some n) (native_of c) of e (λ n is same. native_found c n is ∙ ap element_code same))

-- ---- forms, after their code

module _ (known : NumbersAreRead) where
  module _ (s : ArraySize) where
    abbrev SizeEnds : List Part → List ℕ → Type 0
    SizeEnds ps b = Ends size_parts (λ (z : ArraySize). ⊤) s ps b

    flags_found : (p n : ℕ) (c : List ℕ) → AreBytes c → flags_of p n c ≡ Some s → SizeEnds (number p ∷ number n ∷ []) c
    flags_found p n [] h e = at_ended (ParamAndCount p n) tt [] e
    flags_found p n (c ∷ b) h e = number_then known h e (λ x g f. at_ended (WithFlags p n x.0) tt x.1 f)

    count_found : (p : ℕ) (c : List ℕ) → AreBytes c → count_of p c ≡ Some s → SizeEnds (number p ∷ []) c
    count_found p [] h e = at_ended (Param p) tt [] e
    count_found p (c ∷ b) h e = number_then known h e (λ x g f. flags_found p x.0 x.1 g f)

    size_found : (b : List ℕ) → AreBytes b → size_of b ≡ Some s → SizeEnds [] b
    unfolding size_of
    size_found [] h e = at_ended Unknown tt [] e
    size_found (c ∷ b) h e = number_then known h e (λ x g f. count_found x.0 x.1 g f)

  module _ (v : Descriptor) where
    -- after these parts of the descriptor
    abbrev EndsIn : List Part → List ℕ → Type 0
    EndsIn ps b = Ends parts_of IsKnown v ps b

    array_found : (b : List ℕ) → AreBytes b → array_of b ≡ Some v → EndsIn (byte ARRAY ∷ []) b
    unfolding array_of
    array_found [] h e = cc
    array_found (c ∷ b) h e =
        option_and_then_some (λ of. option_map (array of) (size_of b)) (element_of c) v e
        (λ of element more. map_some (array of) (size_of b) v more
        (λ s size same.
        let ends = size_found s b (λ k. h (suc k)) size in
        let sizes : AreParts (size_parts s) [] b = rw ends.whole ends.are in
        subst (λ (z : Descriptor). Ends parts_of IsKnown z (byte ARRAY ∷ []) (c ∷ b)) same
        (part_then (byte_begins c (element_code of) b h (element_found c of element)) (record { others = size_parts s; whole = refl; are = sizes; good = tt }))))

    fixed_string_found : (b : List ℕ) → AreBytes b → fixed_string_of b ≡ Some v → EndsIn (byte FIXED_STRING ∷ []) b
    unfolding fixed_string_of
    fixed_string_found b h e = number_then known h e (λ x g f. at_ended (fixed_string x.0) tt x.1 f)

    fixed_elements_found : (n : ℕ) (c : List ℕ) → AreBytes c → fixed_elements_of n c ≡ Some v → EndsIn (byte FIXED_ARRAY ∷ number n ∷ []) c
    fixed_elements_found n [] h e = at_ended (fixed_array n None) tt [] e
    fixed_elements_found n (c ∷ b) h e =
        option_and_then_some (λ of. at_end (fixed_array n (Some of)) b) (native_of c) v e
        (λ of is f. part_then (byte_begins c (native_code of) b h (native_found c of is)) (at_ended (fixed_array n (Some of)) tt b f))

    fixed_array_found : (b : List ℕ) → AreBytes b → fixed_array_of b ≡ Some v → EndsIn (byte FIXED_ARRAY ∷ []) b
    unfolding fixed_array_of
    fixed_array_found b h e = number_then known h e (λ x g f. fixed_elements_found x.0 x.1 g f)

    named_found : (n : ℕ) (c : List ℕ) → AreBytes c → named_of n c ≡ Some v → EndsIn (byte SAFE_ARRAY ∷ number n ∷ []) c
    named_found n [] h e = at_ended (safe_array_of n) tt [] e
    named_found n (c ∷ b) h e = text_then known h e (λ x g f. at_ended (safe_array_named n x.0) tt x.1 f)

    safe_found : (b : List ℕ) → AreBytes b → safe_of b ≡ Some v → EndsIn (byte SAFE_ARRAY ∷ []) b
    unfolding safe_of
    safe_found [] h e = at_ended safe_array tt [] e
    safe_found (c ∷ b) h e = number_then known h e (λ x g f. named_found x.0 x.1 g f)

    custom_found : (b : List ℕ) → AreBytes b → custom_of b ≡ Some v → EndsIn (byte CUSTOM ∷ []) b
    unfolding custom_of
    custom_found b h e =
        text_then known h e (λ g h e. text_then known h e (λ u h e. text_then known h e (λ m h e. text_then known h e
        (λ k h f. at_ended (custom_by g.0 u.0 m.0 k.0) tt k.1 f))))

    native_then_found : (of : Native) (b : List ℕ) → AreBytes b → native_then of b ≡ Some v → EndsIn (byte (native_code of) ∷ []) b
    native_then_found of [] h e = at_ended (native of) tt [] e
    native_then_found of (c ∷ b) h e =
        cond_both (is_interface of) _ None (λ o. o ≡ Some v → EndsIn (byte (native_code of) ∷ []) (c ∷ b))
        (λ is e. number_then known h e (λ x g f. at_ended (interface_of of x.0) is x.1 f)) (λ _ e. cc) e

    coded_found : (c n : ℕ) (b : List ℕ) → c ≡ n → EndsIn (byte n ∷ []) b → IsDescriptor v (c ∷ b)
    coded_found c n b e ends = record { known = ends.good; parts = rw ends.whole (c ∷ [], b, refl, ap (λ (x : ℕ). x ∷ []) e, ends.are) }

    -- one of the codes of types that something follows, or another
    form_found : (c n : ℕ) (b : List ℕ) (mine other : Option Descriptor) → (mine ≡ Some v → EndsIn (byte n ∷ []) b) → (other ≡ Some v → IsDescriptor v (c ∷ b))
        → (if c == n then mine else other) ≡ Some v → IsDescriptor v (c ∷ b)
    form_found c n b mine other here there =
        cond_both (c == n) mine other (λ o. o ≡ Some v → IsDescriptor v (c ∷ b)) (λ t e. coded_found c n b (eqb-true c n t) (here e)) (λ _. there)

    pub descriptor_found : (b : List ℕ) → AreBytes b → descriptor_of b ≡ Some v → IsDescriptor v b
    unfolding descriptor_of coded_of
    descriptor_found [] h e = cc
    descriptor_found (c ∷ b) h e =
        let tail : AreBytes b = λ k. h (suc k) in
        form_found c ARRAY b (array_of b) _ (array_found b tail)
        (form_found c FIXED_STRING b (fixed_string_of b) _ (fixed_string_found b tail)
        (form_found c FIXED_ARRAY b (fixed_array_of b) _ (fixed_array_found b tail)
        (form_found c SAFE_ARRAY b (safe_of b) _ (safe_found b tail)
        (form_found c CUSTOM b (custom_of b) _ (custom_found b tail)
        (λ e. option_and_then_some (λ of. native_then of b) (native_of c) v e
        (λ of is more. coded_found c (native_code of) b (native_found c of is) (native_then_found of b tail more)))))))
        e
