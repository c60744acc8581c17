-- The parts of a line of JSON, one after another.
use Rattle.cli_lines.proofs.Prelude.{◌≡◌, ◌∙◌, ◌⊎◌, ℕ, Bool, true, false, List, [], ◌∷◌, ◌++◌, Option, None, Some, fold, map, refl, ap, sym, append_assoc, append-nil, codes, decimal, table_name, token_text, has_unpaired_surrogate, utf16_lossy_chars, ⊎_elim, Value, reference, guid, json_from, named_token, part_tokens, row_values, items_tokens, units_tokens, value_tokens, shown, shown_value, Brace}
use Rattle.std.specs.Str.{encode_utf8_all}
use Rattle.json.specs.Print.{ends, ends_value, escape, escape_byte, print, print_from, quoted}
use Rattle.json.proofs.Printed.Tokens.{print_from-append}
use Rattle.json.specs.Token as json
use Rattle.table_schema.specs.declared.token.Token.{Token}
use Rattle.cli_lines.specs.declared.parts.Part.{Part as KeptPart}
use Rattle.cli_lines.specs.declared.parts.Part.TheVariants.{Field, Member, Spaced, RowNumber, RowToken}
use Rattle.cli_lines.specs.declared.parts.Value.{Value as KeptValue}
use Rattle.cli_lines.specs.Names.{row_start}
use Rattle.cli_lines.proofs.PlainLemmas.{token_is_plain}
use Rattle.cli_lines.specs.declared.line.Before.TheVariants as at
use Rattle.cli_lines.specs.declared.names.Name.{Name}
use Rattle.cli_lines.specs.declared.names.Name.TheVariants as name

-- the tokens of a value were appended after a name
pub tokens_pushed : (file : Option (List ℕ)) (tokens : List json.Token) (line new : List ℕ) → ends_value tokens ≡ true → new ≡ line ++ print tokens
    → (more : List json.Token) → new ++ json_from file at.Value more ≡ line ++ json_from file Brace (tokens ++ more)
tokens_pushed file tokens line new ends is more =
    rw (is, append_assoc tokens more (json.end_object ∷ []), print_from-append false tokens (more ++ json.end_object ∷ []), ends) (simp append_assoc)

pub value_ends : (value : Value) → ends_value (value_tokens value) ≡ true
value_ends (reference None) = refl
value_ends (reference (Some of)) = refl
value_ends (guid None) = refl
value_ends (guid (Some of)) = refl
value_ends _ = refl

-- the text of a row after the name of its first member
pub row_prints : (row : Token) → row_start row.table ++ (decimal row.row ++ (codes ",\"token\":" ++ (34 ∷ (token_text row ++ 34 ∷ [])))) ≡ print (row_values row)
unfolding print_from escape_byte
row_prints row =
    let table = quoted (table_name row.table) in
    let digits = decimal row.row in
    append_assoc table (codes ",\"row\":") (digits ++ (codes ",\"token\":" ++ (34 ∷ (token_text row ++ 34 ∷ []))))
    ∙ ap (λ (of : List ℕ). table ++ (codes ",\"row\":" ++ (digits ++ (codes ",\"token\":" ++ (34 ∷ (of ++ 34 ∷ [])))))) (sym (token_is_plain row))
    ∙ ap (λ (of : List ℕ). table ++ (codes ",\"row\":" ++ (digits ++ (codes ",\"token\":" ++ (34 ∷ of))))) (sym (append-nil (escape (token_text row) ++ 34 ∷ [])))

-- the tokens of a part that is a row, and of one that is a member
pub row_tokens_are : (part : KeptPart) (row : Token) → (part ≡ RowNumber row) ⊎ (part ≡ RowToken row) → part_tokens (shown part) ≡ named_token name.Table ∷ row_values row
row_tokens_are part row =
    let of = λ (p : KeptPart). part_tokens (shown p) in
    ⊎_elim (λ e. ap of e) (λ e. ap of e)

pub tokens_are : (part : KeptPart) (key : Name) (value : KeptValue) → (part ≡ Field key value) ⊎ ((part ≡ Member key value) ⊎ (part ≡ Spaced key value))
    → part_tokens (shown part) ≡ named_token key ∷ value_tokens (shown_value value)
tokens_are part key value =
    let of = λ (p : KeptPart). part_tokens (shown p) in
    ⊎_elim (λ e. ap of e) (⊎_elim (λ e. ap of e) (λ e. ap of e))

-- ---- units

abbrev pub items_text : List ℕ → List ℕ
items_text units = print_from true (items_tokens units)

items_end : (after : Bool) (units : List ℕ) → fold (λ _ t. ends t) after (items_tokens units) ≡ true
items_end after [] = refl
items_end after (unit ∷ units) = items_end true units

pub array_ends : (units : List ℕ) → ends_value (json.begin_array ∷ items_tokens units) ≡ true
array_ends units = items_end false units

-- the member of units that are a text, and of units that are none
pub text_tokens : (units of : List ℕ) → has_unpaired_surrogate units ≡ false → of ≡ encode_utf8_all (utf16_lossy_chars units)
    → named_token name.Text ∷ json.string of ∷ [] ≡ units_tokens units
text_tokens units of paired is = rw (paired, is)

pub unit_tokens : (units : List ℕ) → has_unpaired_surrogate units ≡ true → named_token name.Units ∷ json.begin_array ∷ items_tokens units ≡ units_tokens units
unit_tokens units unpaired = rw unpaired
