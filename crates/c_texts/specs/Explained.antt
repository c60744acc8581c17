-- The text that explains a rule.
use Rattle.std.specs.Prelude.{ℕ, ◌+◌, ◌/◌, ◌%◌, List, [], ◌∷◌, codes, Option, Some, None}
use Rattle.std.specs.Borrow.{Bor}
use Rattle.std.specs.List.{concat}
use Rattle.packed.specs.Codes.{name_of, number_of_code}
use Rattle.cli_faults.specs.declared.explained.Explanation.{Explanation}

-- the three decimal digits of a rule's number
abbrev pub three_digits : ℕ → List ℕ
three_digits number = (48 + number / 100 % 10) ∷ (48 + number / 10 % 10) ∷ (48 + number % 10) ∷ []

-- a space before a name, if there is one
abbrev pub space_before : List ℕ → List ℕ
space_before [] = []
space_before (letter ∷ letters) = 32 ∷ []

-- a label before a text, and the text, if there is one
abbrev pub label_before : List ℕ → Option (Bor (List ℕ)) → List ℕ
label_before label None = []
label_before label (Some text) = label

abbrev pub text_in : Option (Bor (List ℕ)) → List ℕ
text_in None = []
text_in (Some text) = text.now

-- The number and the name of a rule, and what is wrong; an empty line; and a line for each other part that there is: the
-- rule, the section of the standard, where the offset points, and the usual cause.
abbrev pub explanation_text : Explanation → List ℕ
explanation_text explanation = concat (
    three_digits (number_of_code explanation.code)
    ∷ space_before (name_of (number_of_code explanation.code))
    ∷ name_of (number_of_code explanation.code)
    ∷ codes ": "
    ∷ explanation.summary.now
    ∷ (10 ∷ 10 ∷ codes "- Rule: ")
    ∷ explanation.rule.now
    ∷ label_before (10 ∷ codes "- Section: ") explanation.section
    ∷ text_in explanation.section
    ∷ (10 ∷ codes "- Offset: ")
    ∷ explanation.offset.now
    ∷ label_before (10 ∷ codes "- Usual cause: ") explanation.cause
    ∷ text_in explanation.cause
    ∷ (10 ∷ [])
    ∷ [])
