-- Texts one after another, each with a property of its own.
use Rattle.std.specs.Prelude.{◌≡◌, ◌==◌, ℕ, ◌+◌, List, [], ◌∷◌, ◌++◌, drop, if◌then◌else◌, length, string_bytes}
use Rattle.cli_declarations.specs.declared.declared.Declared.{Declared}
use Rattle.cli_declarations.specs.Parts.{cut_mark, text_limit}

-- the text is the texts of the items, one after another
abbrev pub AreTexts : {X : Type 0} → (X → List ℕ → Type 0) → List X → List ℕ → Type 0
AreTexts is_text [] text = text ≡ []
AreTexts is_text (x ∷ xs) text = (first : List ℕ) × is_text x first × (tail : List ℕ) × AreTexts is_text xs tail × (text ≡ first ++ tail)

-- a text with this property follows what was there
abbrev pub Follows : (List ℕ → Type 0) → List ℕ → List ℕ → Type 0
Follows is_text before after = (text : List ℕ) × is_text text × (after ≡ before ++ text)

abbrev pub Gains : (List ℕ → Type 0) → Declared → Declared → Type 0
Gains is_text old new = Follows is_text (string_bytes old.text) (string_bytes new.text)

-- a text of the file begins after what was there, and ends, with a mark if it was cut; for private clauses
abbrev pub Begins : Declared → Declared → Type 0
Begins old new = (string_bytes new.text ≡ string_bytes old.text) × (new.left ≡ text_limit + 1) × (new.begun ≡ length (string_bytes old.text))

abbrev pub Ends : Declared → Declared → Type 0
Ends old new = string_bytes new.text ≡ string_bytes old.text ++ (if old.left == 0 then cut_mark (drop old.begun (string_bytes old.text)) else [])
