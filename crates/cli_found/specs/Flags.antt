-- The words of the flags in a cell (ECMA-335 II.22 and II.23.1).
use Rattle.std.specs.Prelude.{ℕ, ◌&&◌, ◌==◌, if◌then◌else◌, bit_and, find, List, [], ◌∷◌, ◌++◌, codes, fold, Option}
use Rattle.cli_found.specs.Words.{TableId, table_number, Word, words_of, Name, Part, plain, spaced}
use Rattle.type_heads.specs.declared.flag_words.FlagTable.{FlagTable}
use Rattle.cli_found.specs.declared.flags.TheConstants.{FLAG_COLUMNS}

-- the table, the number and the kind of the flags of a column, if it has flags: `src/flags.rt` lists these columns
abbrev pub flags_at : TableId → ℕ → Option (TableId × ℕ × FlagTable)
flags_at table column = find (λ row. table_number row.0 == table_number table && row.1 == column) FLAG_COLUMNS

-- a word after a space, and after no words without one
abbrev pub after_words : List ℕ → List ℕ → List ℕ
after_words [] word = word
after_words (first ∷ words) word = (first ∷ words) ++ (codes " " ++ word)

-- a word is added if the bits of the flags under its mask have its value
abbrev pub with_word : ℕ → List ℕ → Word → List ℕ
with_word number words of = if bit_and number of.mask == of.value then after_words words of.text else words

-- the words that flags have, in the order of the standard, with a space between them
abbrev pub flag_text : FlagTable → ℕ → List ℕ
flag_text of number = fold (with_word number) [] (words_of of)

-- they follow a space; in JSON they are a member
abbrev pub text_parts : Name → List ℕ → List Part
text_parts label [] = []
text_parts label (first ∷ words) = spaced label (plain (first ∷ words)) ∷ []

abbrev pub flag_parts : Name → FlagTable → ℕ → List Part
flag_parts label of number = text_parts label (flag_text of number)
