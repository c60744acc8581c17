-- Whether the characters of a locale are UTF-8.
use Rattle.std.specs.Prelude.{ℕ, ◌==◌, ◌||◌, Bool, List, [], ◌∷◌, Option, Some, codes}
use Rattle.std.specs.List.{before_first, after_first}
use Rattle.std.specs.Str.{bytes_eq, str_to_ascii_lowercase}

-- the value of a variable, or another one if it is not set or empty (POSIX, Base Definitions, 8.2)
abbrev pub set_or : Option (List ℕ) → List ℕ → List ℕ
set_or (Some (first ∷ tail)) other = first ∷ tail
set_or _ other = other

-- the codeset of a locale such as `de_DE.UTF-8@euro`
abbrev pub codeset : List ℕ → List ℕ
codeset locale = before_first (λ byte. byte == 64) (after_first (λ byte. byte == 46) locale)

abbrev pub is_utf8_name : List ℕ → Bool
is_utf8_name name = bytes_eq (str_to_ascii_lowercase name) (codes "utf-8") || bytes_eq (str_to_ascii_lowercase name) (codes "utf8")

-- the first of LC_ALL, LC_CTYPE and LANG that is set and not empty decides
abbrev pub is_utf8_locale : Option (List ℕ) → Option (List ℕ) → Option (List ℕ) → Bool
is_utf8_locale lc_all lc_ctype lang = is_utf8_name (codeset (set_or lc_all (set_or lc_ctype (set_or lang []))))
