-- What several proofs of this crate name of std, of the crates below, and of the definitions that many proofs cite.
pub use Rattle.std.proofs.Common.{◌≡◌, ℕ, zero, suc, ◌+◌, ◌-◌, ◌<◌, ◌≤◌, List, get_or, slice_index, refl, sym, ap, ◌∙◌, ⊎_elim, arith, ◌≢◌, Bool, true, false, [], ◌∷◌, ◌++◌, length, take, drop, set, subst, length-append, length-drop, reverse, nat_eq, ◌⊎◌, inl, inr, true≢false, All, cond, max, slice_index_or, add-one, not, ◌&&◌, filter, map, min, ◌*◌, ◌/◌, ◌^◌, ◌||◌, Contains, ◌==◌, vec_len, eq-eqb, rules, Vec, Global, Err}
pub use Rattle.std.proofs.Math.Seq.{take-append_seam}
pub use Rattle.std.proofs.lemmas.Bool.{cases_lt, cases_Bool, and_parts, false≢true, not-false, not-true, cond_both, or_parts, cases_eq, or_from, or_left, or_right, and_right, false_from_ne_true, eqb-true}
pub use Rattle.std.proofs.lemmas.Bool.Decides.{nat_tests, eqb_tells}
pub use Rattle.std.proofs.lemmas.Cmp.{ranked, tied_itself, nat_cmp_total, nat_list_cmp_total, nat_list_eq_equiv, on_total, then_total}
pub use Rattle.std.proofs.lemmas.Grind.{common_steps}
pub use Rattle.std.proofs.lemmas.List.{length_push, take-append-drop, get_or_push, get_or_append_left, get_or-append-add, get_or-set_same, get_or-set_other, reverse-append, reverse-reverse, take_more, ext_get_or, get_or-drop, get_or_default, get_or-map, length-map, append-nil, append_assoc, drop_at, take_at, drop-drop, nil_from_length, get_or-take, length-take-le, length-set, map_push, get_or_read, take_all}
pub use Rattle.std.proofs.lemmas.List.Elements.{All-from_get_or, Contains-get_or, All-head, All-tail, All-cons, All-nil, All-take, Contains-append_left, All-filter, All-push}
pub use Rattle.std.proofs.lemmas.List.Folds.{list_any-append, Any-from_list_any, list_any_at}
pub use Rattle.std.proofs.lemmas.List.Sorted.{All-permutation, Contains-permutation, IsPermutation-map, ranks_by, sorted_far, IsPermutation-reverse, length_permutation, answers_always}
pub use Rattle.std.specs.Borrow.{Bor}
pub use Rattle.std.specs.Cmp.{IsTotalOrder}
pub use Rattle.std.specs.Cmp.Lexicographic.{slice_cmp, same_text, pointwise}
pub use Rattle.std.specs.List.{list_any, position_or_len}
pub use Rattle.std.specs.List.Sorted.{IsPermutation}
pub use Rattle.std.specs.Ordering.{nat_cmp, ordering_then, MatchOrdering, is_lt, ordering_reverse}
pub use Rattle.std.specs.Str.{bytes_eq}
pub use Rattle.std.specs.declared.cmp.Ordering.{Ordering}
pub use Rattle.std.specs.declared.cmp.Ordering.TheVariants.{Less, Equal, Greater}
pub use Rattle.heap_entries.specs.Entries.{HasNoNul, IsText, IsBlob, IsGuid}
pub use Rattle.heap_pools.specs.Commons.{IsCommon, AreCommons}
pub use Rattle.heap_pools.specs.Distinct.{is_among, pooled, distinct, first_uses}
unfoldable pub use Rattle.heap_pools.specs.Ending.{ends_with}
unfoldable pub use Rattle.heap_pools.specs.EndingOrder.{ending_cmp, last_number}
pub use Rattle.heap_pools.specs.EndingOrder.{eight_from, AgreesFromEnd, number_of}
pub use Rattle.heap_pools.specs.Ranking.{no_use, use_in, text_at, use_index_at, used_at, IsUse, HasEarlier, HasUse, HasText, IsSource, ListsAll, AreSorted, ListsUses, flagged, AreFirstUses, IsFirstUse, IsEarlierUse, IsTextRun, IsFirstOf, IsTop, IsRun, FindsHolder, AreHolders, IsFirstTop, IsLeast, AreFlags}
pub use Rattle.heap_pools.specs.StartUses.{index_at, start_at, AreStartUses, start_use_at}
pub use Rattle.heap_pools.specs.TextGroups.{AreCommonsOf, AreFirstEnds, Covers, HasEnds, HasUses, IsFirstEnd, IsGroup, IsIn, IsMember, common_by_key, group_at, key_cmp, longest_of, no_group, text_of}
unfoldable pub use Rattle.heap_pools.specs.TextHeap.{is_holder}
pub use Rattle.heap_pools.specs.TextHeap.{ended, holders, text_from, text_heap, text_index}
pub use Rattle.heap_pools.specs.Uses.{use_cmp, IsNumbered, span_at, bytes_of}
pub use Rattle.heap_pools.specs.declared.text_plan.Use.{Use}
