-- What several proofs of this crate name of std, of the crates below, and of its own definitions.
pub use Rattle.std.proofs.Common.{◌≡◌, ℕ, suc, ◌+◌, ◌-◌, ◌*◌, ◌/◌, ◌<◌, ◌≤◌, List, ◌∷◌, ◌++◌, length, take, drop, refl, sym, ap, ◌∙◌, arith, length-append, length-drop, Result, Ok, Err, Some, None, subst, ◌^◌, Option, ◌≢◌, zero, true, false, inl, inr, [], get_or, eqb, lt-ltb, le-ltb, ltb, ◌%◌, rules}
pub use Rattle.std.proofs.lemmas.Bool.{cases_lt}
pub use Rattle.std.proofs.lemmas.List.{take_at, length-take-le, get_or-take, append-nil, drop_at, drop-drop, take-append-drop, drop_all, drop_more, get_or_append_left, get_or_at}
pub use Rattle.std.proofs.lemmas.Result.{err_from_is_err_and}
pub use Rattle.std.specs.List.{All, position, position_or_len, find}
pub use Rattle.std.specs.Result.{result_ok, MatchResult, IfOk, IsOkAnd}
pub use Rattle.std.specs.Str.{IsAscii, bytes_eq, IsUtf8}
pub use Rattle.packed.proofs.RuleLemmas.{all_prefix, all_back, none_fails, all_append, before_none, before_more, before_all, before_of_all, before_fewer, fails_prefix, fails_back, reports_first, before_fails}
pub use Rattle.packed.specs.Offsets.{part}
pub use Rattle.packed.specs.Rule.{AllHold, Reports, HoldBefore}
unfoldable pub use Rattle.packed.specs.Rule.{rules_from}
pub use Rattle.root.specs.Fields.{before_nul, header_at, header_length, root_read, header_count, headers_before, version_length, version_of, header_offset}
pub use Rattle.root.specs.Root.{IsHeader, IsPadded, IsRoot, signature, AreHeaders, EndsWithin, IsNew, IsCompressed, AllMeet, IsVersion}
pub use Rattle.root.specs.Rules.{HasHeader, rules_of_root_header, rules_of_header, rules_of_tables, rules_of_root, HasSignature, HasVersion}
pub use Rattle.root.specs.Shown.{ShowsHeader, AllShow}
pub use Rattle.root.specs.Streams.{Header, RootRead, named, range_of, stream_name}
pub use Rattle.root.specs.Views.{view}
pub use Rattle.root.specs.declared.kind.Kind.{Kind}
