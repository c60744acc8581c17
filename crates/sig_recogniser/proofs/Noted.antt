-- The first token whose row does not exist, over several lists of tokens.
use Rattle.sig_recogniser.proofs.Prelude.{◌≡◌, ℕ, Bool, true, false, cond, not, Option, Some, None, is_some, List, [], ◌∷◌, ◌++◌, refl, ap, ◌∙◌, flat_map, flat_map-append, Token, Part, number, signed, index, part_tokens, has_row, first_bad, noted}
use Rattle.std.specs.Prelude.{◌||◌, ℤ}
use Rattle.std.specs.Option.{option_or}
use Rattle.std.proofs.lemmas.List.Folds.{find-append}

-- the parts of a number, of a signed number and of a type index
abbrev pub number_parts : ℕ → List Part
number_parts n = number n ∷ []

abbrev pub signed_parts : ℤ → List Part
signed_parts z = signed z ∷ []

abbrev pub index_parts : Token → List Part
index_parts token = index token ∷ []

or_or : {T : Type 0} (x y z : Option T) → option_or x (option_or y z) ≡ option_or (option_or x y) z
or_or None y z = refl
or_or (Some t) y z = refl

pub noted-append : (counts : List ℕ) (bad : Option Token) (ts us : List Token) → noted counts bad (ts ++ us) ≡ noted counts (noted counts bad ts) us
noted-append counts bad ts us =
    ap (λ (o : Option Token). option_or bad o) (find-append (λ token. not (has_row counts token)) ts us) ∙ or_or bad (first_bad counts ts) (first_bad counts us)

pub noted-none : (counts : List ℕ) (bad : Option Token) → noted counts bad [] ≡ bad
noted-none counts None = refl
noted-none counts (Some t) = refl

-- the same over the parts of values
abbrev pub noted_parts : List ℕ → Option Token → List Part → Option Token
noted_parts counts bad parts = noted counts bad (flat_map part_tokens parts)

pub noted_parts-append : (counts : List ℕ) (bad : Option Token) (ps qs : List Part) → noted_parts counts bad (ps ++ qs) ≡ noted_parts counts (noted_parts counts bad ps) qs
noted_parts-append counts bad ps qs =
    ap (λ (ts : List Token). noted counts bad ts) (flat_map-append part_tokens ps qs) ∙ noted-append counts bad (flat_map part_tokens ps) (flat_map part_tokens qs)

-- one more token
pub note_one : (counts : List ℕ) (bad : Option Token) (token : Token) (p : Bool) → p ≡ has_row counts token → cond (is_some bad || p) bad (Some token) ≡ noted counts bad (token ∷ [])
note_one counts (Some t) token p e = refl
note_one counts None token true e = rw (← e) refl
note_one counts None token false e = rw (← e) refl
