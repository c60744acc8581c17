-- The codes of element types (ECMA-335 II.23.1.16), under the names of the standard.
use Rattle.std.specs.Prelude.{ℕ}
use Rattle.sig_grammar.specs.declared.element.Element.{Element}
use Rattle.sig_grammar.specs.declared.element.Element.TheVariants.{Boolean, Char, I1, U1, I2, U2, I4, U4, I8, U8, R4, R8, String, I, U, Object}

-- types that are encoded as one byte
abbrev pub element_code : Element → ℕ
element_code Boolean = 0x02
element_code Char = 0x03
element_code I1 = 0x04
element_code U1 = 0x05
element_code I2 = 0x06
element_code U2 = 0x07
element_code I4 = 0x08
element_code U4 = 0x09
element_code I8 = 0x0A
element_code U8 = 0x0B
element_code R4 = 0x0C
element_code R8 = 0x0D
element_code String = 0x0E
element_code I = 0x18
element_code U = 0x19
element_code Object = 0x1C

-- the other codes
abbrev pub VOID : ℕ
VOID = 0x01

abbrev pub PTR : ℕ
PTR = 0x0F

abbrev pub BYREF : ℕ
BYREF = 0x10

abbrev pub VALUETYPE : ℕ
VALUETYPE = 0x11

abbrev pub CLASS : ℕ
CLASS = 0x12

abbrev pub VAR : ℕ
VAR = 0x13

abbrev pub ARRAY : ℕ
ARRAY = 0x14

abbrev pub GENERICINST : ℕ
GENERICINST = 0x15

abbrev pub TYPEDBYREF : ℕ
TYPEDBYREF = 0x16

abbrev pub FNPTR : ℕ
FNPTR = 0x1B

abbrev pub SZARRAY : ℕ
SZARRAY = 0x1D

abbrev pub MVAR : ℕ
MVAR = 0x1E

abbrev pub CMOD_REQD : ℕ
CMOD_REQD = 0x1F

abbrev pub CMOD_OPT : ℕ
CMOD_OPT = 0x20

abbrev pub SENTINEL : ℕ
SENTINEL = 0x41

abbrev pub PINNED : ℕ
PINNED = 0x45
