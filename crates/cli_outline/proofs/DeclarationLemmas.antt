-- The first word of a declaration, and its line in each form.
use Rattle.cli_outline.proofs.Prelude.{◌≡◌, ◌<◌, Bool, true, false, not, ℕ, List, None, Some, sym, arith, [], ◌∷◌, ◌++◌, Option, refl, subst, get_or, length, unwrap_or, position, position_or_len, nat_tests, Token, Text, Letters, JsonLines, Part, line_from, style, styled_text, as_is, Tokens, declaration_line, ends_word, json_line, text_line, unindented, Asked, Printed, Prints}
use Rattle.std.specs.Str.{IsCharBoundary}
use Rattle.std.proofs.lemmas.List.Sums.{passes_at_first, prefix_len-le-length}
use Rattle.cli_lines.specs.declared.parts.Form.{Form}
use Rattle.cli_sending.specs.Letters.{readable_after}
use Rattle.cli_names.specs.declared.source.Tokens.TheVariants.{Shown, Hidden}

-- the byte that ends a word is ASCII
ends_low : (byte : ℕ) → ends_word byte ≡ true → byte < 128
ends_low byte ends = grind (arith, nat_tests)

pub word_boundary : (text : List ℕ) → IsCharBoundary text (position_or_len ends_word text)
word_boundary text = (
  prefix_len-le-length (λ byte. not (ends_word byte)) text,
  λ lt high. let low = ends_low (get_or text (position_or_len ends_word text) 0) (passes_at_first ends_word text 0 lt) in absurd (omega (arith, low, high)),
)

-- a search finds its end
pub word_len : (text : List ℕ) → unwrap_or (position ends_word text) (length text) ≡ position_or_len ends_word text
word_len text = let most = prefix_len-le-length (λ byte. not (ends_word byte)) text in grind (arith, nat_tests)

-- ---- the line in each form

-- a line of text has no members
pub same_text : (form : Form) (file : Option (List ℕ)) (tokens : Tokens) (of : Token) (class : Option Token) (directive : Bool) (declared : List ℕ) → (form ≡ JsonLines → ⊥)
    → styled_text (style form file) (text_line tokens of declared ∷ []) ≡ styled_text (style form file) (declaration_line tokens of class directive declared ∷ [])
unfolding declaration_line styled_text line_from readable_after
same_text Text file tokens of None true declared is = refl
same_text Text file tokens of None false declared is = refl
same_text Text file tokens of (Some class) true declared is = refl
same_text Text file tokens of (Some class) false declared is = refl
same_text Letters file tokens of None true declared is = refl
same_text Letters file tokens of None false declared is = refl
same_text Letters file tokens of (Some class) true declared is = refl
same_text Letters file tokens of (Some class) false declared is = refl
same_text JsonLines file tokens of class directive declared is = absurd (is refl)

-- a line of JSON has nothing else
pub same_json : (file : Option (List ℕ)) (tokens : Tokens) (of : Token) (class : Option Token) (directive : Bool) (declared : List ℕ)
    → styled_text (style JsonLines file) (json_line of class directive (unindented declared) (as_is (unindented declared)) ∷ [])
    ≡ styled_text (style JsonLines file) (declaration_line tokens of class directive declared ∷ [])
unfolding declaration_line styled_text line_from
same_json file Shown of class directive declared = refl
same_json file Hidden of class directive declared = refl

-- a line is printed if one with the same text is
pub line_printed : {W : Type 0} {a b : Printed W} {line other : List Part} {form : Form} → a.style.form ≡ form
    → styled_text (style form a.style.file) (other ∷ []) ≡ styled_text (style form a.style.file) (line ∷ []) → Prints a b (other ∷ []) → Prints a b (line ∷ [])
line_printed {a = a} {b = b} {line = line} {other = other} is same printed = record {
  same = printed.same;
  asked = λ start text asked. subst (λ (t : List ℕ). Asked start b (text ++ t))
      (subst (λ (f : Form). styled_text (style f a.style.file) (other ∷ []) ≡ styled_text (style f a.style.file) (line ∷ [])) (sym is) same) (printed.asked start text asked);
}
