-- The words that stand for bits of flags (ECMA-335 II.23.1).
use Rattle.std.specs.Prelude.{ℕ, ◌==◌, if◌then◌else◌, bit_and, List, [], ◌∷◌, ◌++◌, codes, flat_map}
use Rattle.type_heads.specs.declared.flag_words.FlagTable.{FlagTable}
use Rattle.type_heads.specs.declared.flag_words.FlagTable.TheVariants as table
use Rattle.type_heads.specs.declared.flag_words.FlagWord.{FlagWord}

-- a word: it is written if the bits of the flags under a mask have this value
pub record Word : Type 0 where
  pub mask : ℕ
  pub value : ℕ
  pub text : List ℕ

-- a word of the program, as a value of specs/
abbrev pub shown_word : FlagWord → Word
shown_word of = record { mask = of.mask; value = of.value; text = of.text.now }

abbrev pub word : ℕ → ℕ → List ℕ → Word
word mask value text = record { mask = mask; value = value; text = text }

-- a word that stands for one bit
abbrev pub bit : ℕ → List ℕ → Word
bit mask text = word mask mask text

-- a space and the word, or nothing
abbrev pub word_text : ℕ → Word → List ℕ
word_text flags of = if bit_and flags of.mask == of.value then codes " " ++ of.text else []

-- the words of flags, in the order of a table
abbrev pub words_text : ℕ → List Word → List ℕ
words_text flags words = flat_map (word_text flags) words

-- the same, with each space after its word
abbrev pub leading_text : ℕ → Word → List ℕ
leading_text flags of = if bit_and flags of.mask == of.value then of.text ++ codes " " else []

abbrev pub leading_words : ℕ → List Word → List ℕ
leading_words flags words = flat_map (leading_text flags) words

-- the words of each kind of flags, in the order of the standard
abbrev pub words_of : FlagTable → List Word
-- II.23.1.15: visibility, layout, semantics, implementation, string formatting, initialization, and the others
words_of table.Type =
    word 0x00000007 0x00000000 (codes "private") ∷ word 0x00000007 0x00000001 (codes "public") ∷
    word 0x00000007 0x00000002 (codes "nested public") ∷ word 0x00000007 0x00000003 (codes "nested private") ∷
    word 0x00000007 0x00000004 (codes "nested family") ∷ word 0x00000007 0x00000005 (codes "nested assembly") ∷
    word 0x00000007 0x00000006 (codes "nested famandassem") ∷
    word 0x00000007 0x00000007 (codes "nested famorassem") ∷ word 0x00000018 0x00000000 (codes "auto") ∷
    word 0x00000018 0x00000008 (codes "sequential") ∷ word 0x00000018 0x00000010 (codes "explicit") ∷
    bit 0x00000020 (codes "interface") ∷ bit 0x00000080 (codes "abstract") ∷ bit 0x00000100 (codes "sealed") ∷
    bit 0x00000400 (codes "specialname") ∷ bit 0x00001000 (codes "import") ∷
    bit 0x00002000 (codes "serializable") ∷ word 0x00030000 0x00000000 (codes "ansi") ∷
    word 0x00030000 0x00010000 (codes "unicode") ∷ word 0x00030000 0x00020000 (codes "autochar") ∷
    bit 0x00100000 (codes "beforefieldinit") ∷ bit 0x00000800 (codes "rtspecialname") ∷
    bit 0x00200000 (codes "forwarder") ∷ []
-- II.23.1.2
words_of table.Assembly = bit 0x0100 (codes "retargetable") ∷ []
words_of table.Key =
    bit 0x0001 (codes ".publickey") ∷ word 0x0001 0x0000 (codes ".publickeytoken") ∷ []
-- II.23.1.6
words_of table.File = bit 0x0001 (codes "nometadata") ∷ []
-- II.23.1.9
words_of table.Resource =
    word 0x0007 0x0001 (codes "public") ∷ word 0x0007 0x0002 (codes "private") ∷ []
-- II.23.1.7
words_of table.Generic =
    word 0x0003 0x0001 (codes "+") ∷ word 0x0003 0x0002 (codes "-") ∷ bit 0x0004 (codes "class") ∷
    bit 0x0008 (codes "valuetype") ∷ bit 0x0010 (codes ".ctor") ∷ []
-- II.23.1.4 and II.23.1.14
words_of table.Mapped =
    bit 0x0200 (codes "specialname") ∷ bit 0x0400 (codes "rtspecialname") ∷ []
-- II.23.1.12
words_of table.Semantics =
    bit 0x0001 (codes ".set") ∷ bit 0x0002 (codes ".get") ∷ bit 0x0004 (codes ".other") ∷
    bit 0x0008 (codes ".addon") ∷ bit 0x0010 (codes ".removeon") ∷ bit 0x0020 (codes ".fire") ∷ []
-- II.23.1.13
words_of table.Param =
    bit 0x0001 (codes "[in]") ∷ bit 0x0002 (codes "[out]") ∷ bit 0x0010 (codes "[opt]") ∷ []
-- II.23.1.8: names, character set, errors, calling convention
words_of table.Import =
    bit 0x0001 (codes "nomangle") ∷ word 0x0006 0x0002 (codes "ansi") ∷ word 0x0006 0x0004 (codes "unicode") ∷
    word 0x0006 0x0006 (codes "autochar") ∷ bit 0x0040 (codes "lasterr") ∷
    word 0x0700 0x0100 (codes "platformapi") ∷ word 0x0700 0x0200 (codes "cdecl") ∷
    word 0x0700 0x0300 (codes "stdcall") ∷ word 0x0700 0x0400 (codes "thiscall") ∷
    word 0x0700 0x0500 (codes "fastcall") ∷ []
-- II.23.1.5: access, contract, and the others
words_of table.Field =
    word 0x0007 0x0000 (codes "compilercontrolled") ∷ word 0x0007 0x0001 (codes "private") ∷
    word 0x0007 0x0002 (codes "famandassem") ∷ word 0x0007 0x0003 (codes "assembly") ∷
    word 0x0007 0x0004 (codes "family") ∷ word 0x0007 0x0005 (codes "famorassem") ∷
    word 0x0007 0x0006 (codes "public") ∷ bit 0x0010 (codes "static") ∷ bit 0x0020 (codes "initonly") ∷
    bit 0x0040 (codes "literal") ∷ bit 0x0080 (codes "notserialized") ∷ bit 0x0200 (codes "specialname") ∷
    bit 0x2000 (codes "pinvokeimpl") ∷ bit 0x0400 (codes "rtspecialname") ∷ []
-- II.23.1.10: access, contract, layout of the vtable, and the others
words_of table.Method =
    word 0x0007 0x0000 (codes "compilercontrolled") ∷ word 0x0007 0x0001 (codes "private") ∷
    word 0x0007 0x0002 (codes "famandassem") ∷ word 0x0007 0x0003 (codes "assembly") ∷
    word 0x0007 0x0004 (codes "family") ∷ word 0x0007 0x0005 (codes "famorassem") ∷
    word 0x0007 0x0006 (codes "public") ∷ bit 0x0010 (codes "static") ∷ bit 0x0020 (codes "final") ∷
    bit 0x0040 (codes "virtual") ∷ bit 0x0080 (codes "hidebysig") ∷ bit 0x0100 (codes "newslot") ∷
    bit 0x0200 (codes "strict") ∷ bit 0x0400 (codes "abstract") ∷ bit 0x0800 (codes "specialname") ∷
    bit 0x2000 (codes "pinvokeimpl") ∷ bit 0x0008 (codes "unmanagedexp") ∷ bit 0x1000 (codes "rtspecialname") ∷
    bit 0x8000 (codes "reqsecobj") ∷ []
-- II.23.1.11
words_of table.Implementation =
    word 0x0003 0x0000 (codes "cil") ∷ word 0x0003 0x0001 (codes "native") ∷
    word 0x0003 0x0002 (codes "optil") ∷ word 0x0003 0x0003 (codes "runtime") ∷ bit 0x0004 (codes "unmanaged") ∷
    word 0x0004 0x0000 (codes "managed") ∷ bit 0x0010 (codes "forwardref") ∷ bit 0x0080 (codes "preservesig") ∷
    bit 0x1000 (codes "internalcall") ∷ bit 0x0020 (codes "synchronized") ∷ bit 0x0008 (codes "noinlining") ∷
    bit 0x0040 (codes "nooptimization") ∷ []
