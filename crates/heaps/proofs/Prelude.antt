-- What several proofs of this crate name of std, of the crates below, and of its own definitions.
pub use Rattle.std.proofs.Common.{◌≡◌, ℕ, ◌+◌, ◌<◌, max, true, false, ◌||◌, cond, true≢false, ◌↔◌, nat_eq, List, [], ◌∷◌, ◌++◌, length, map, flat_map, Vec, Option, Some, None, IfSome, IfNone, refl, sym, ap, ◌∙◌, ⊎_elim, arith, length-append, ◌≢◌, ◌≤◌, Bool, take, drop, get_or, Contains, subst, ◌⊎◌, inl, inr, Result, Ok, Err, OnErr, slice_index, slice_set, ◌*◌, ◌^◌, not, IsTrue, All, zero, suc, ◌-◌, ◌%◌, replicate, append_assoc, ◌==◌, Global, IsOk, OnOk, set, rules, vec_len, ◌/◌}
pub use Rattle.std.proofs.lemmas.Bool.{cases_Bool, cases_lt, cases_eq, eqb-true}
pub use Rattle.std.proofs.lemmas.Bool.Decides.{nat_tests}
pub use Rattle.std.proofs.lemmas.Cmp.{nat_list_eq_equiv}
pub use Rattle.std.proofs.lemmas.List.{append-nil, drop_more, length-map, map_push, take_more, take_all, nil_from_length, with_items_is}
pub use Rattle.std.proofs.lemmas.List.Concat.{flat_map-append}
pub use Rattle.std.proofs.lemmas.List.Elements.{Contains-get_or, All-push, All-head, All-tail, All-cons, All-nil, All-take}
pub use Rattle.std.proofs.lemmas.Result.{err_from_is_err_and}
pub use Rattle.std.specs.Borrow.{Bor}
pub use Rattle.std.specs.Cmp.Lexicographic.{pointwise, same_text}
pub use Rattle.std.specs.Map.{keys_of, values_of, lookup}
pub use Rattle.std.specs.Str.{bytes_eq}
pub use Rattle.packed.specs.Packed.{short_unsigned, IsPacked}
pub use Rattle.heap_entries.specs.Entries.{IsCounted, IsUserString}
pub use Rattle.heap_entries.specs.Padding.{zero_padded}
pub use Rattle.heap_entries.specs.Units.{unit_bytes}
pub use Rattle.heap_pools.proofs.DistinctLemmas.{pooled_new, pooled_there}
pub use Rattle.heap_pools.proofs.GrowLemmas.{distinct-append, pooled_again, blobs_grow, guid_index-append, guids_grow, blob_index-append}
pub use Rattle.heap_pools.proofs.HeapLemmas.{values_more}
pub use Rattle.heap_pools.proofs.MemberLemmas.{in_from_contains, contains_from_in, in_distinct, among_first_uses, distinct-push, among_push}
pub use Rattle.heap_pools.proofs.UseLemmas.{length-bytes, used_read, is_none, is_some}
pub use Rattle.heap_pools.specs.BlobHeap.{blob_from, blob_heap, blob_index}
unfoldable pub use Rattle.heap_pools.specs.BlobHeap.{counted}
pub use Rattle.heap_pools.specs.Distinct.{is_among, pooled, distinct, first_uses}
pub use Rattle.heap_pools.specs.GuidHeap.{guid_heap, given, guid_index, pooled_guid}
pub use Rattle.heap_pools.specs.Ranking.{used_at, AreSources, IsEarlierUse, IsFirstUse}
pub use Rattle.heap_pools.specs.Uses.{bytes_of}
pub use Rattle.heaps.specs.BlobPoolView.{starts_from}
pub use Rattle.heaps.specs.EqualBlobs.{AreEarlierBlobs, IsKey, IsKeyAt, IsSameBlob}
pub use Rattle.heaps.specs.FirstByte.{begun}
pub use Rattle.heaps.specs.HeapPlanView.{IsNewAt, IsOldAt, AreFirstsTo, guid_of, index_of_bytes, IsEmptyOrLong, AreFirsts}
pub use Rattle.heaps.specs.UserEntries.{last_byte, user_length}
unfoldable pub use Rattle.heaps.specs.UserEntries.{user_entry}
pub use Rattle.heaps.specs.Windows.{window, AreNames, ArePositions, IsNamedBy, HavePositions, AreWithin}
