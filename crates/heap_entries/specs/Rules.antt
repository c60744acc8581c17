-- The rules for an index into a heap, in order (ECMA-335 II.24.2.3 to II.24.2.5). A broken rule is reported at
-- the offset of the index, in the bytes that contain it.
use Rattle.std.specs.Prelude.{◌≡◌, ℕ, List, [], ◌∷◌, ◌⊎◌, Option, Result, Ok, Err}
use Rattle.packed.specs.declared.code.FaultCode.{FaultCode}
use Rattle.packed.specs.declared.code.FaultCode.TheVariants as fault_code
use Rattle.packed.specs.declared.fault.Fault.{Fault}
use Rattle.packed.specs.Rule.{Rule, rule, fault}
use Rattle.heap_entries.specs.declared.fault.HeapFault.{HeapFault}
use Rattle.heap_entries.specs.declared.fault.HeapFault.TheVariants.{BadString, BadUtf8, BadBlob, BadGuid, BadUserString}
use Rattle.heap_entries.specs.Entries.{IsEnded, IsText, IsBlob, UserText, IsUserString, IsGuid}

-- the rule that a heap's fault reports as broken
abbrev pub code_of : HeapFault → FaultCode
code_of BadString = fault_code.BadString
code_of BadUtf8 = fault_code.BadUtf8
code_of BadBlob = fault_code.BadBlob
code_of BadGuid = fault_code.BadGuid
code_of BadUserString = fault_code.BadUserString

-- a result whose fault is reported at the offset of the index
abbrev pub at_offset : {X : Type 0} → ℕ → Result X HeapFault → Result X Fault
at_offset offset (Ok x) = Ok x
at_offset offset (Err found) = Err (fault (code_of found) offset)

-- for `#Strings` (II.24.2.3): a NUL is at the index or after it, and the bytes before the first such NUL are UTF-8
abbrev pub rules_of_text : List ℕ → ℕ → ℕ → List (Rule Fault)
rules_of_text heap index offset =
    rule ((index ≡ 0) ⊎ ((bytes : List ℕ) × IsEnded heap index bytes)) fault_code.BadString offset
    ∷ rule ((text : List ℕ) × IsText heap index text) fault_code.BadUtf8 offset
    ∷ []

-- for `#Blob` (II.24.2.4): there is a blob at the index
abbrev pub rules_of_blob : List ℕ → ℕ → ℕ → List (Rule Fault)
rules_of_blob heap index offset = rule ((blob : List ℕ) × IsBlob heap index blob) fault_code.BadBlob offset ∷ []

-- for `#US` (II.24.2.4): there is a blob at the index, and its number of bytes is odd or 0
abbrev pub rules_of_user_string : List ℕ → ℕ → ℕ → List (Rule Fault)
rules_of_user_string heap index offset =
    rule ((blob : List ℕ) × IsBlob heap index blob) fault_code.BadBlob offset
    ∷ rule ((string : UserText) × IsUserString heap index string) fault_code.BadUserString offset
    ∷ []

-- for `#GUID` (II.24.2.5): the index is null or the number of an entry
abbrev pub rules_of_guid : List ℕ → ℕ → ℕ → List (Rule Fault)
rules_of_guid heap index offset = rule ((guid : Option (List ℕ)) × IsGuid heap index guid) fault_code.BadGuid offset ∷ []
