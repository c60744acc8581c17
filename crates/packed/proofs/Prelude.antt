-- What several proofs of this crate name of std, of the crates below, and of its own definitions.
pub use Rattle.std.proofs.Common.{◌≡◌, ℕ, ◌+◌, ◌≤◌, List, [], ◌∷◌, ◌++◌, length, take, drop, refl, sym, ap, ◌∙◌, subst, arith, append_assoc, length-append, length-drop, zero, suc, ◌-◌, ◌*◌, ◌/◌, ◌%◌, ◌^◌, ◌<◌, Bool, true, false, cond, ltb, Option, Some, get_or, inl, inr, Result, Ok, Err, not, rules, eqb, None}
pub use Rattle.std.proofs.lemmas.Bool.{ltb-true, ltb-false, lt-ltb, le-ltb, cases_eq, and_parts, eqb-true, eqb-false, eq-eqb}
pub use Rattle.std.proofs.lemmas.Int.{ints}
pub use Rattle.std.proofs.lemmas.List.{append-nil, take_all, take_at, drop_at, drop-drop, take-append-drop, length-take-le}
pub use Rattle.std.specs.Option.{IfSome, IsSomeAnd}
pub use Rattle.std.specs.Prelude.{ℤ, pos, negsuc, neg_ℤ, int_lt, ◌↔◌, ◌-ℤ◌, option_map}
pub use Rattle.packed.specs.Number.{little_endian, IsNumber}
pub use Rattle.packed.specs.Offsets.{part}
pub use Rattle.packed.specs.Packed.{IsPacked, IsPackedSigned, FitsBits, fits_bits, half_range, short_unsigned, short_signed, signed_bits, one_byte, two_bytes, four_bytes, IsOneByte, IsTwoBytes, IsFourBytes}
pub use Rattle.packed.specs.Prefix.{two_at, four_at, bits_of, unrotated}
unfoldable pub use Rattle.packed.specs.Prefix.{unsigned_at, signed_at}
