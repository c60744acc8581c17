-- What the arguments of a command line ask for, by what `clap` gives for them.
use Rattle.std.specs.Prelude.{◌≡◌, ◌==◌, ◌&&◌, ◌||◌, ℕ, ◌<◌, ◌-◌, ◌^◌, Bool, true, false, not, MatchOption, List, [], ◌∷◌, ◌++◌, drop, length, map, take, Option, Some, None, is_some, codes, find, option_map, unwrap_or}
use Rattle.std.specs.List.{list_all}
use Rattle.std.specs.Str.{bytes_eq, str_eq_ignore_ascii_case}
use Rattle.std.specs.Option.{SomeIff}
use Rattle.std.specs.Str.Parse.{IsNumeral, digits_value, without_leading_plus}
use Rattle.clap.specs.Words.{Row, Text, all_of, first_of, one_of, subcommand_of}
use Rattle.cli_arguments.specs.CommandLine.{clim, name_of, subcommands}
use Rattle.cli_arguments.specs.declared.asked.Ask.{Ask}
use Rattle.cli_arguments.specs.declared.asked.Subcommand.{Subcommand}
use Rattle.cli_arguments.specs.declared.asked.Subcommand.TheVariants.{Show, Outline, Refs, Where}

-- the subcommand with this name
abbrev pub subcommand_named : Text → Option Subcommand
subcommand_named word = find (λ of. bytes_eq word (name_of of)) subcommands

-- decimal digits of a number of 64 bits, with or without a leading plus sign
abbrev pub IsByteCount : List ℕ → Type 0
IsByteCount word = IsNumeral 10 (without_leading_plus word) × (digits_value 10 (without_leading_plus word) < 2 ^ 64)

-- the number that the argument denotes; `None` if there is no argument, or it does not denote one
abbrev pub IsCountOf : Option Text → Option ℕ → Type 0
IsCountOf given number = MatchOption given (number ≡ None) (λ word. SomeIff number (IsByteCount word) (digits_value 10 (without_leading_plus word)))

-- no dash, dot or slash
abbrev pub is_plain_word : Text → Bool
is_plain_word word = list_all (λ byte. not (byte == 45) && not (byte == 46) && not (byte == 47)) word

abbrev pub begins_with : Text → Text → Bool
begins_with prefix word = bytes_eq prefix (take (length prefix) word)

-- the word ends with these small letters, in any case
abbrev pub ends_in : Text → Text → Bool
ends_in ending word = str_eq_ignore_ascii_case (drop (length word - length ending) word) ending

-- the word ends like the name of an assembly
abbrev pub is_assembly : Text → Bool
is_assembly word = ends_in (codes ".dll") word || ends_in (codes ".exe") word || ends_in (codes ".winmd") word || ends_in (codes ".netmodule") word

-- the word has the form of a path: it is `-`, the standard input; it begins at the root, in this directory or in the one that
-- contains it; or it ends like the name of an assembly
abbrev pub is_path : Text → Bool
is_path word =
    bytes_eq word (codes "-") || begins_with (codes "/") word || begins_with (codes "./") word || begins_with (codes "../") word || is_assembly word

-- the argument has the value `true`, which `clap` gives to a flag
abbrev pub is_true : Option Text → Bool
is_true None = false
is_true (Some word) = bytes_eq word (codes "true")

abbrev pub has_flag : List Row → Text → Bool
has_flag rows id = is_true (one_of id rows)

-- there are files: these, or those of a list, since the arguments have `--files-from` or `-0`
abbrev pub has_files : List Row → List Text → Bool
has_files rows files = is_some (first_of (codes "files-from") rows) || has_flag rows (codes "null") || not (length files == 0)

-- The last argument of the subcommand says what to print, where it matters whether there are files besides. Of `show` it is a
-- TABLE if it has no dash, dot or slash; of `outline` and `refs` a NAME unless it has the form of a path; of `where` always the OFFSET.
abbrev pub is_part : Subcommand → Bool → Text → Bool
is_part Show there word = there && is_plain_word word
is_part Outline there word = there && not (is_path word)
is_part Refs there word = there && not (is_path word)
is_part Where there word = true
is_part of there word = false

-- the files among these arguments, and what to print of them, if the last argument says that
abbrev pub AreParts : Subcommand → List Row → List Text → List Text → Option Text → Type 0
AreParts of rows words files (Some part) = (words ≡ files ++ part ∷ []) × (is_part of (has_files rows files) part ≡ true)
AreParts of rows words files None =
    (files ≡ words) × ((before : List Text) (last : Text) → words ≡ before ++ last ∷ [] → is_part of (has_files rows before) last ≡ false)

-- the arguments name the subcommand, and give it this flag and these values
pub record Gives (words : List Text) (ask : Ask) : Type 0 where
  -- the values that `clap` gives for each argument of the subcommand
  pub rows : List Row
  pub subcommand : subcommand_of clim words ≡ Some (name_of ask.subcommand, rows)
  pub bare : ask.bare ≡ has_flag rows (codes "bare")
  pub file : option_map (λ word. word.now) ask.file ≡ first_of (codes "FILE") rows
  pub second : option_map (λ word. word.now) ask.second ≡ first_of (codes "second") rows
  pub tokens : map (λ word. word.now) ask.tokens.items ≡ unwrap_or (all_of (codes "HEX") rows) []
  pub ignored : map (λ word. word.now) ask.ignored.items ≡ unwrap_or (all_of (codes "ignore") rows) []
  pub budget : IsCountOf (one_of (codes "budget") rows) ask.budget
  pub parts : AreParts ask.subcommand rows (unwrap_or (all_of (codes "FILE") rows) []) (map (λ word. word.now) ask.files.items) (option_map (λ word. word.now) ask.part)
  pub json : ask.json ≡ has_flag rows (codes "json")
  pub faults : map (λ word. word.now) ask.codes.items ≡ unwrap_or (all_of (codes "CODE") rows) []
  pub files_from : option_map (λ word. word.now) ask.files_from ≡ first_of (codes "files-from") rows
  pub null : ask.null ≡ has_flag rows (codes "null")
  pub quiet : ask.quiet ≡ has_flag rows (codes "quiet")
  pub names : ask.names ≡ has_flag rows (codes "names")
  pub until_fault : ask.until_fault ≡ has_flag rows (codes "until-fault")
  pub locates : ask.locates ≡ has_flag rows (codes "where")
  pub root : option_map (λ word. word.now) ask.root ≡ first_of (codes "root") rows
  pub unsigned : ask.unsigned ≡ has_flag rows (codes "unsigned")
  pub recursive : ask.recursive ≡ has_flag rows (codes "recursive")
  pub extract : option_map (λ word. word.now) ask.extract ≡ first_of (codes "extract") rows
  pub no_tokens : ask.no_tokens ≡ has_flag rows (codes "no-tokens")
  pub public : ask.public ≡ has_flag rows (codes "public")
  pub sorted : ask.sorted ≡ has_flag rows (codes "sorted")
