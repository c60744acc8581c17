-- The words of ILAsm for native types and for types of VARIANT (ECMA-335 II.7.4, and Microsoft's ilasm).
use Rattle.std.specs.Prelude.{ℕ, ◌==◌, if◌then◌else◌, List, [], ◌∷◌, codes}
use Rattle.blob_values.specs.declared.native.Native.{Native}
use Rattle.blob_values.specs.declared.native.Native.TheVariants.{Boolean, I1, U1, I2, U2, I4, U4, I8, U8, R4, R8, LpStr, LpwStr, Int, Uint, Func, Currency, BStr, LptStr, IUnknown, IDispatch, Struct, Interface, ByValStr, AnsiBStr, TBStr, VariantBool, AsAny, LpStruct, Error, IInspectable, HString, LpUtf8Str}

abbrev pub native_word : Native → List ℕ
native_word Boolean = codes "bool"
native_word I1 = codes "int8"
native_word U1 = codes "unsigned int8"
native_word I2 = codes "int16"
native_word U2 = codes "unsigned int16"
native_word I4 = codes "int32"
native_word U4 = codes "unsigned int32"
native_word I8 = codes "int64"
native_word U8 = codes "unsigned int64"
native_word R4 = codes "float32"
native_word R8 = codes "float64"
native_word LpStr = codes "lpstr"
native_word LpwStr = codes "lpwstr"
native_word Int = codes "int"
native_word Uint = codes "unsigned int"
native_word Func = codes "method"
native_word Currency = codes "currency"
native_word BStr = codes "bstr"
native_word LptStr = codes "lptstr"
native_word IUnknown = codes "iunknown"
native_word IDispatch = codes "idispatch"
native_word Struct = codes "struct"
native_word Interface = codes "interface"
native_word ByValStr = codes "byvalstr"
native_word AnsiBStr = codes "ansi bstr"
native_word TBStr = codes "tbstr"
native_word VariantBool = codes "variant bool"
native_word AsAny = codes "as any"
native_word LpStruct = codes "lpstruct"
native_word Error = codes "error"
native_word IInspectable = codes "iinspectable"
native_word HString = codes "hstring"
native_word LpUtf8Str = codes "lputf8str"

-- VARENUM of Microsoft's wtypes.h
abbrev pub variant_words : List (ℕ × List ℕ)
variant_words =
    (1, codes "null") ∷ (2, codes "int16") ∷ (3, codes "int32") ∷ (4, codes "float32") ∷ (5, codes "float64") ∷
    (6, codes "currency") ∷ (7, codes "date") ∷ (8, codes "bstr") ∷ (9, codes "idispatch") ∷ (10, codes "error") ∷
    (11, codes "bool") ∷ (12, codes "variant") ∷ (13, codes "iunknown") ∷ (14, codes "decimal") ∷ (16, codes "int8") ∷
    (17, codes "unsigned int8") ∷ (18, codes "unsigned int16") ∷ (19, codes "unsigned int32") ∷ (20, codes "int64") ∷
    (21, codes "unsigned int64") ∷ (22, codes "int") ∷ (23, codes "unsigned int") ∷ (24, codes "void") ∷ (25, codes "hresult") ∷
    (26, codes "*") ∷ (27, codes "safearray") ∷ (28, codes "carray") ∷ (29, codes "userdefined") ∷ (30, codes "lpstr") ∷
    (31, codes "lpwstr") ∷ (36, codes "record") ∷ (64, codes "filetime") ∷ (65, codes "blob") ∷ (66, codes "stream") ∷
    (67, codes "storage") ∷ (68, codes "streamed_object") ∷ (69, codes "stored_object") ∷ (70, codes "blob_object") ∷
    (71, codes "cf") ∷ (72, codes "clsid") ∷ []

abbrev pub word_among : List (ℕ × List ℕ) → ℕ → List ℕ
word_among [] n = []
word_among (pair ∷ pairs) n = if n == pair.0 then pair.1 else word_among pairs n

-- the word for a type of VARIANT with this number, or the empty text if there is none
abbrev pub variant_word : ℕ → List ℕ
variant_word n = word_among variant_words n
