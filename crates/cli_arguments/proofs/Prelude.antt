-- What several proofs of this crate name of std, of the crates below, and of its own definitions.
pub use Rattle.std.proofs.Common.{◌≡◌, ◌&&◌, ◌||◌, ◌∙◌, Bool, true, false, cond, List, [], ◌∷◌, Option, Some, None, ap, is_some, refl, subst, sym, ℕ, not, codes, ap₂, take, drop}
pub use Rattle.std.proofs.lemmas.List.{length_push, map_push, same_from_push, take_all, map_more, at_drop_all, at_drop_more}
pub use Rattle.std.proofs.lemmas.Result.{IfOk-weaker}
pub use Rattle.std.proofs.lemmas.Slice.Eq.{bytes_eq-Decides}
pub use Rattle.std.specs.Borrow.{Bor}
pub use Rattle.std.specs.Prelude.{find, IsSome}
pub use Rattle.std.specs.Str.{bytes_eq}
pub use Rattle.std.specs.Str.Parse.{ParsesBool, ParsesUnsigned, ExplainsUnsignedError, HasUnsignedDigitsIfOk}
unfoldable pub use Rattle.clap.proofs.OnLiterals.{clap_on_literals}
pub use Rattle.clap.proofs.WalkLemmas.{first_value-rows, one_text-rows, raw_values-rows}
pub use Rattle.clap.specs.Simple.{app_of_fields, on_top}
pub use Rattle.clap.specs.Words.{app_of, new_app, with_subcommand, App, found_of, one_of, rows_of}
pub use Rattle.cli_arguments.specs.Asked.{subcommand_named, AreParts, IsCountOf}
pub use Rattle.cli_arguments.specs.CommandLine.{name_of, subcommands}
unfoldable pub use Rattle.cli_arguments.specs.CommandLine.{clim}
pub use Rattle.cli_arguments.specs.declared.asked.Subcommand.{Subcommand}
