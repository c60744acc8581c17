-- The command line of the program as `clap` sees it: the name of each subcommand, and the arguments that it takes.
use Rattle.std.specs.Prelude.{List, [], ◌∷◌, Some, true, codes, map}
use Rattle.std.specs.List.{fold}
use Rattle.clap.specs.Words.{App, Rule, Shape, Text, new_app, new_rule, with_subcommand}
use Rattle.clap.specs.Simple.{new_shape, on_top}
use Rattle.clap.specs.Lexer.{usize_max}
use Rattle.clap.specs.declared.builder.action.ArgAction.TheVariants.{Append, Set, SetTrue}
use Rattle.clap.specs.declared.builder.value_parser.ValueParser.TheVariants.{Unsigned}
use Rattle.cli_arguments.specs.declared.argument.Argument.{Argument}
use Rattle.cli_arguments.specs.declared.argument.Kind.{Kind}
use Rattle.cli_arguments.specs.declared.argument.Kind.TheVariants as kind
use Rattle.cli_arguments.specs.declared.asked.Subcommand.{Subcommand}
use Rattle.cli_arguments.specs.declared.asked.Subcommand.TheVariants.{Root, Info, Check, Show, Types, Outline, Refs, Resources, Strings, Token, Where, Rewrite, Embed, Digest, Compare, Explain}
use Rattle.cli_arguments.specs.declared.subcommands.Usage.{Usage}

-- `NAME`, one value
abbrev pub value : Text → Rule
value id = record (new_rule id) { action = Some Set; value_names = 1 }

-- `ID..`, any number of values
abbrev pub values : Text → Rule
values id = record (new_rule id) { action = Some Append; range = Some (record { start_inclusive = 1; end_inclusive = usize_max }) }

abbrev pub required : Rule → Rule
required of = record of { required = true }

-- `--ID`, a flag
abbrev pub flag : Text → Rule
flag id = record (new_rule id) { long = Some id; action = Some SetTrue }

-- `--ID NAME`, one value
abbrev pub option : Text → Rule
option id = record (value id) { long = Some id }

-- `--ID NAME`, a number of 64 bits
abbrev pub number : Text → Rule
number id = record (option id) { parser = Some (Unsigned 0 0xFFFF_FFFF_FFFF_FFFF) }

-- an argument of this kind
abbrev pub rule_of_kind : Text → Kind → Rule
rule_of_kind id (kind.Required name) = required (value id)
rule_of_kind id kind.Several = required (values id)
rule_of_kind id kind.AnyNumber = values id
rule_of_kind id kind.Flag = flag id
rule_of_kind id (kind.ShortFlag letter) = record (new_rule id) { short = Some letter; action = Some SetTrue }
rule_of_kind id (kind.EitherFlag letter) = record (flag id) { short = Some letter }
rule_of_kind id (kind.Option name) = option id
rule_of_kind id (kind.Number name) = number id
rule_of_kind id (kind.Repeated name) = record (option id) { action = Some Append }

-- an argument of the program, as `clap` sees it
abbrev pub rule : Argument → Rule
rule of = rule_of_kind of.id.now of.kind

-- a subcommand with these arguments
abbrev pub shape_with : Text → List Rule → Shape
shape_with name rules = record (new_shape name) { rules = rules }

-- a subcommand of the program, as `clap` sees it
abbrev pub shape : Usage → Shape
shape of = shape_with of.name.now (map rule of.arguments.now)

-- the arguments of several subcommands: the file or the files, and the flags `--bare` and `--json`
abbrev pub file : Rule
file = required (value (codes "FILE"))

abbrev pub files : Rule
files = values (codes "FILE")

abbrev pub bare : Rule
bare = flag (codes "bare")

abbrev pub json : Rule
json = flag (codes "json")

-- `--budget N`, the limit of what is checked
abbrev pub budget : Rule
budget = number (codes "budget")

-- `--files-from LIST` and `-0`, the source of a list of files; the ASCII code of `0` is 48
abbrev pub files_from : Rule
files_from = option (codes "files-from")

abbrev pub null : Rule
null = record (new_rule (codes "null")) { short = Some 48; action = Some SetTrue }

-- `-r` or `--recursive`, for directories; the ASCII code of `r` is 114
abbrev pub recursive : Rule
recursive = record (flag (codes "recursive")) { short = Some 114 }

-- `-q` or `--quiet`; the ASCII code of `q` is 113
abbrev pub quiet : Rule
quiet = record (flag (codes "quiet")) { short = Some 113 }

-- the value after the file
abbrev pub second : Rule
second = required (value (codes "second"))

-- `clim SUBCOMMAND ..`; the subcommand is required. `-V` and `--version` have texts of their own
abbrev pub without_subcommands : App
without_subcommands = on_top (λ s. record s { has_version = true; has_long_version = true; subcommand_required = true }) (new_app (codes "clim"))

-- the arguments of a report on files, and others: `[--bare] [--budget N] [--files-from LIST] [-0] [-r] [--json] [FILE]..`
abbrev pub report : List Rule → List Rule
report others = files ∷ bare ∷ budget ∷ files_from ∷ null ∷ recursive ∷ json ∷ others

-- the name and the arguments of a subcommand; of `show`, `outline`, `refs` and `where` the TABLE, the NAME or the OFFSET is among the values of FILE
abbrev pub shape_of : Subcommand → Shape
-- `root [--bare] [--files-from LIST] [-0] [-r] [--json] [--until-fault] [FILE]..`
shape_of Root = shape_with (codes "root") (files ∷ bare ∷ files_from ∷ null ∷ recursive ∷ json ∷ flag (codes "until-fault") ∷ [])
shape_of Info = shape_with (codes "info") (report [])
-- `check [--bare] [--budget N] [--files-from LIST] [-0] [-r] [-q] [--json] [--where] [FILE]..`
shape_of Check = shape_with (codes "check") (files ∷ bare ∷ budget ∷ files_from ∷ null ∷ recursive ∷ quiet ∷ json ∷ flag (codes "where") ∷ [])
shape_of Show = shape_with (codes "show") (report (flag (codes "names") ∷ flag (codes "until-fault") ∷ []))
shape_of Types = shape_with (codes "types") (report [])
shape_of Outline = shape_with (codes "outline") (report (flag (codes "no-tokens") ∷ flag (codes "public") ∷ flag (codes "sorted") ∷ []))
shape_of Refs = shape_with (codes "refs") (report [])
-- `resources [--budget N] [--files-from LIST] [-0] [-r] [--json] [--extract NAME] [FILE]..`
shape_of Resources = shape_with (codes "resources") (files ∷ budget ∷ files_from ∷ null ∷ recursive ∷ json ∷ option (codes "extract") ∷ [])
shape_of Strings = shape_with (codes "strings") (report [])
-- `token [--bare] [--budget N] [--json] FILE HEX..`
shape_of Token = shape_with (codes "token") (file ∷ bare ∷ budget ∷ json ∷ required (values (codes "HEX")) ∷ [])
shape_of Where = shape_with (codes "where") (report [])
-- `rewrite [--bare] [--budget N] FILE OUT`
shape_of Rewrite = shape_with (codes "rewrite") (file ∷ bare ∷ budget ∷ second ∷ [])
-- `embed [--json] [--root ROOT] [--unsigned] FILE OUT`
shape_of Embed = shape_with (codes "embed") (file ∷ json ∷ second ∷ option (codes "root") ∷ flag (codes "unsigned") ∷ [])
shape_of Digest = shape_with (codes "digest") (report [])
-- `compare [--bare] [--budget N] [-q] [--json] [--ignore TABLE.COLUMN].. FILE OTHER`
shape_of Compare = shape_with (codes "compare") (file ∷ bare ∷ budget ∷ quiet ∷ json ∷ second ∷ record (option (codes "ignore")) { action = Some Append } ∷ [])
-- `explain [--json] [CODE]..`
shape_of Explain = shape_with (codes "explain") (values (codes "CODE") ∷ json ∷ [])

abbrev pub name_of : Subcommand → Text
name_of of = (shape_of of).name

-- the subcommands
abbrev pub subcommands : List Subcommand
subcommands = Root ∷ Info ∷ Check ∷ Show ∷ Types ∷ Outline ∷ Refs ∷ Resources ∷ Strings ∷ Token ∷ Where ∷ Rewrite ∷ Embed ∷ Digest ∷ Compare ∷ Explain ∷ []

-- the command line with its subcommands; `clap` adds `help`
unfoldable pub clim : App
clim = fold (λ above of. with_subcommand above (shape_of of)) without_subcommands subcommands
