-- What several proofs of this crate name of std, of the crates below, and of its own definitions.
pub use Rattle.std.proofs.Common.{◌≡◌, fold, inl, inr, map, refl, rules, sym, string_bytes, ◌∙◌, ap, drop, ◌-◌, length}
pub use Rattle.cli_found.specs.Words.{shown_word, seen}
pub use Rattle.cli_found.specs.Flags.{flag_text, with_word}
pub use Rattle.cli_found.specs.Found.{offset_text}
unfoldable pub use Rattle.cli_found.specs.Found.{offset_line, value_line}
pub use Rattle.cli_found.specs.Kept.{lead_text}
pub use Rattle.std.proofs.lemmas.List.{length-map, drop_all, drop_more}
