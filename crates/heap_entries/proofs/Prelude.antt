-- What several proofs of this crate name of std, of the crates below, and of its own definitions.
pub use Rattle.std.proofs.Common.{◌≡◌, ℕ, ◌<◌, List, ◌++◌, drop, inl, inr, ap, ◌∙◌, arith, ◌∷◌, length, take, get_or, Option, Some, None, refl, sym, ◌-◌, ◌*◌, ◌≤◌, ◌≢◌, ◌+◌, slice_index, IsUtf8, subst, ⊎_elim, length-append, suc, ◌/◌, ◌%◌, [], flat_map, slice_get, zero, is_some, Result, Ok, Err, MatchResult, length-drop, eq-eqb, rules, true≢false}
pub use Rattle.std.proofs.lemmas.Bool.{cases_lt, eqb-true, false_from_ne_true, false≢true}
pub use Rattle.std.proofs.lemmas.List.{drop_at, take_at, take-append-drop, length-take-le, get_or-take, drop_more, get_or_append_left, get_or_at, get_or-append-add, get_or_past, get_or-drop}
pub use Rattle.std.proofs.lemmas.List.Elements.{All-from_get_or, All-cons}
pub use Rattle.std.proofs.lemmas.Str.{IsCharBoundary-start, IsCharBoundary-from_rest, IsCharBoundary-before_ascii, IsUtf8-between, IsUtf8-from_is_utf8, is_utf8-from_IsUtf8}
pub use Rattle.std.specs.Prelude.{IsCharBoundary, IfSome, unwrap_or}
unfoldable pub use Rattle.std.specs.Str.{is_utf8}
pub use Rattle.memchr.specs.Find.{IsLastByte, is_byte, NoneBefore, Nowhere, Passes}
pub use Rattle.packed.specs.Rule.{Reports}
pub use Rattle.heap_entries.specs.Entries.{IsCounted, IsBlob, IsText, IsGuid, IsUserString, UserText, IsGuidEntry, IsEnded, EncodesUserText, HasNoNul}
pub use Rattle.heap_entries.specs.Rules.{at_offset, rules_of_text}
pub use Rattle.heap_entries.specs.StringsView.{heap_of, IsWhole, IsKnown}
pub use Rattle.heap_entries.specs.UserView.{user_text, units_in, last_of}
