-- The codes of native types (ECMA-335 II.23.4, and NATIVE_TYPE in Microsoft's corhdr.h).
use Rattle.std.specs.Prelude.{ℕ, ◌==◌, Bool, true, false, if◌then◌else◌, Option, Some, None}
use Rattle.blob_values.specs.declared.native.Native.{Native}
use Rattle.blob_values.specs.declared.native.Native.TheVariants.{Boolean, I1, U1, I2, U2, I4, U4, I8, U8, R4, R8, LpStr, LpwStr, Int, Uint, Func, Currency, BStr, LptStr, IUnknown, IDispatch, Struct, Interface, ByValStr, AnsiBStr, TBStr, VariantBool, AsAny, LpStruct, Error, IInspectable, HString, LpUtf8Str}

abbrev pub native_code : Native → ℕ
-- those of the standard
native_code Boolean = 0x02
native_code I1 = 0x03
native_code U1 = 0x04
native_code I2 = 0x05
native_code U2 = 0x06
native_code I4 = 0x07
native_code U4 = 0x08
native_code I8 = 0x09
native_code U8 = 0x0A
native_code R4 = 0x0B
native_code R8 = 0x0C
native_code LpStr = 0x14
native_code LpwStr = 0x15
native_code Int = 0x1F
native_code Uint = 0x20
native_code Func = 0x26
-- Microsoft's
native_code Currency = 0x0F
native_code BStr = 0x13
native_code LptStr = 0x16
native_code IUnknown = 0x19
native_code IDispatch = 0x1A
native_code Struct = 0x1B
native_code Interface = 0x1C
native_code ByValStr = 0x22
native_code AnsiBStr = 0x23
native_code TBStr = 0x24
native_code VariantBool = 0x25
native_code AsAny = 0x28
native_code LpStruct = 0x2B
native_code Error = 0x2D
native_code IInspectable = 0x2E
native_code HString = 0x2F
native_code LpUtf8Str = 0x30

-- the codes of types that something follows: the first is of the standard
abbrev pub ARRAY : ℕ
ARRAY = 0x2A

abbrev pub FIXED_STRING : ℕ
FIXED_STRING = 0x17

abbrev pub SAFE_ARRAY : ℕ
SAFE_ARRAY = 0x1D

abbrev pub FIXED_ARRAY : ℕ
FIXED_ARRAY = 0x1E

abbrev pub CUSTOM : ℕ
CUSTOM = 0x2C

-- MAX: the type of the elements is not known
abbrev pub MAX : ℕ
MAX = 0x50

-- the number of a parameter with an interface's identifier may follow
abbrev pub is_interface : Native → Bool
is_interface IUnknown = true
is_interface IDispatch = true
is_interface Interface = true
is_interface _ = false

abbrev pub pick : (c n : ℕ) → Native → Option Native → Option Native
pick c n of other = if c == n then Some of else other

-- the type with this code
unfoldable pub native_of : ℕ → Option Native
native_of c =
    pick c 0x02 Boolean (pick c 0x03 I1 (pick c 0x04 U1 (pick c 0x05 I2 (pick c 0x06 U2 (pick c 0x07 I4 (pick c 0x08 U4 (pick c 0x09 I8
    (pick c 0x0A U8 (pick c 0x0B R4 (pick c 0x0C R8 (pick c 0x0F Currency (pick c 0x13 BStr (pick c 0x14 LpStr (pick c 0x15 LpwStr
    (pick c 0x16 LptStr (pick c 0x19 IUnknown (pick c 0x1A IDispatch (pick c 0x1B Struct (pick c 0x1C Interface (pick c 0x1F Int
    (pick c 0x20 Uint (pick c 0x22 ByValStr (pick c 0x23 AnsiBStr (pick c 0x24 TBStr (pick c 0x25 VariantBool (pick c 0x26 Func
    (pick c 0x28 AsAny (pick c 0x2B LpStruct (pick c 0x2D Error (pick c 0x2E IInspectable (pick c 0x2F HString
    (pick c 0x30 LpUtf8Str None))))))))))))))))))))))))))))))))
