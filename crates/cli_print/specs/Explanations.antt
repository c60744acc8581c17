-- What `clim explain` prints of a rule. The texts of a rule, and how they fill lines, are tested, not proved.
use Rattle.std.specs.Prelude.{◌≡◌, ℕ, Bool, true, false, List, [], ◌∷◌, ◌++◌, codes, Option, None, Some}
use Rattle.std.specs.List.{list_all}
use Rattle.std.specs.Borrow.{Bor}
use Rattle.packed.specs.Codes.{codes_in_order, name_of, number_of_code}
use Rattle.packed.specs.declared.code.FaultCode.{FaultCode}
use Rattle.cli_faults.specs.declared.explained.Explanation.{Explanation}
use Rattle.cli_lines.specs.declared.names.Name.{Name}
use Rattle.cli_lines.specs.declared.names.Name.TheVariants as name
use Rattle.cli_lines.specs.Lines.{Part, word, field, member, number, plain}
use Rattle.cli_lines.specs.Printed.{Begins, Printed, Prints}

-- a space before a name of a rule
abbrev pub space_before : List ℕ → List ℕ
space_before [] = []
space_before title = codes " "

-- the member with a text, if the text is known
abbrev pub known_parts : Name → Option (Bor (List ℕ)) → List Part
known_parts key None = []
known_parts key (Some known) = member key (plain known.now) ∷ []

-- the line of a rule: its number, its name, what is wrong and, in JSON, its other texts
unfoldable pub rule_line : Explanation → List Part
rule_line it =
    field name.Code (number (number_of_code it.code)) ∷ word (space_before (name_of (number_of_code it.code)))
    ∷ field name.Name (plain (name_of (number_of_code it.code))) ∷ word (codes ": ") ∷ field name.Summary (plain it.summary.now)
    ∷ member name.Rule (plain it.rule.now) ∷ member name.Offset (plain it.offset.now)
    ∷ (known_parts name.Section it.section ++ known_parts name.Cause it.cause)

-- a part that only a line of text has
abbrev pub is_word : Part → Bool
is_word (word of) = true
is_word _ = false

-- lines that JSON does not have
abbrev pub AreWords : List (List Part) → Type 0
AreWords lines = list_all (list_all is_word) lines ≡ true

-- the line of a rule, and then lines that only text has
abbrev pub IsExplanation : FaultCode → List (List Part) → Type 0
IsExplanation rule lines =
    (it : Explanation) × (more : List (List Part)) × (it.code ≡ rule) × AreWords more × (lines ≡ rule_line it ∷ more)

-- the lines of rules, one rule after another
unfoldable pub AreEach : (FaultCode → List (List Part) → Type 0) → List FaultCode → List (List Part) → Type 0
AreEach IsOf [] lines = lines ≡ []
AreEach IsOf (rule ∷ rules) lines =
    (first : List (List Part)) × (later : List (List Part)) × IsOf rule first × AreEach IsOf rules later × (lines ≡ first ++ later)

-- the line of a rule alone
abbrev pub IsRule : FaultCode → List (List Part) → Type 0
IsRule rule lines = (it : Explanation) × (it.code ≡ rule) × (lines ≡ rule_line it ∷ [])

-- an explanation after an empty line
abbrev pub IsAnother : FaultCode → List (List Part) → Type 0
IsAnother rule lines = (first : List (List Part)) × IsExplanation rule first × (lines ≡ [] ∷ first)

-- explanations with an empty line between two of them; without any rule, the lines of all rules, in the order of their numbers
abbrev pub AreExplanations : List FaultCode → List (List Part) → Type 0
AreExplanations [] lines = AreEach IsRule codes_in_order lines
AreExplanations (rule ∷ rules) lines =
    (first : List (List Part)) × (later : List (List Part)) × IsExplanation rule first × AreEach IsAnother rules later × (lines ≡ first ++ later)

-- the lines of rules were printed, one rule after another
abbrev pub PrintsEach : {W : Type 0} → (FaultCode → List (List Part) → Type 0) → List FaultCode → Printed W → Printed W → Type 0
PrintsEach IsOf rules old new = (lines : List (List Part)) × AreEach IsOf rules lines × Prints old new lines

-- lines that JSON does not have were printed
abbrev pub PrintsWords : {W : Type 0} → Printed W → Printed W → Type 0
PrintsWords old new = (lines : List (List Part)) × AreWords lines × Prints old new lines

-- the same, and then a line was begun that JSON does not have
abbrev pub BeginsWords : {W : Type 0} → Printed W → Printed W → Type 0
BeginsWords old new =
    (between : Printed _) × (parts : List Part) × PrintsWords old between × (list_all is_word parts ≡ true) × Begins between new parts
