-- What several proofs of this crate name of std, of the crates below, and of its own definitions.
pub use Rattle.std.proofs.Common.{◌==◌, false, true, ◌≡◌, ℕ, zero, suc, ◌-◌, ◌<◌, ◌≤◌, Bool, if◌then◌else◌, Option, Some, None, Result, Ok, Err, MatchResult, IsUtf8, Bor, List, [], ◌∷◌, ◌++◌, drop, length, ap, append_assoc, append-nil, arith, refl, sym, ◌∙◌, ◌*◌, get_or, take, take-append-drop, subst}
pub use Rattle.std.proofs.lemmas.Bool.{false_from_ne_true}
pub use Rattle.std.proofs.lemmas.List.{drop_all, drop-drop}
pub use Rattle.std.proofs.lemmas.Str.{IsUtf8-from_is_utf8, is_utf8-from_IsUtf8}
pub use Rattle.std.specs.Prelude.{slice_get, slice_index}
unfoldable pub use Rattle.std.specs.Str.{is_utf8, chars}
pub use Rattle.cli_sending.specs.AsIs.{as_is}
unfoldable pub use Rattle.cli_sending.specs.Escapes.{escaped_at}
pub use Rattle.cli_sending.specs.Letters.{first_char, readable}
unfoldable pub use Rattle.cli_sending.specs.Letters.{found_at, readable_after}
