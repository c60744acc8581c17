-- The entries of heaps: where they are, and which of them have a byte.
use Rattle.cli_where.proofs.Prelude.{◌≡◌, ◌≢◌, ◌∙◌, ◌⊎◌, ◌↔◌, Option, None, Some, ℕ, ◌+◌, ◌-◌, ◌<◌, ◌≤◌, true, List, ◌∷◌, ◌++◌, length, take, drop, slice_index, inl, inr, refl, sym, ap, subst, arith, length-drop, take-append-drop, get_or-drop, length-take-le, IsCounted, IsEnded, IsRun, IsRunAt, IsRunOf, Heap, has_byte, ◌%◌, [], append-nil, replicate, IsUserString, UserText, zero_padded, IsEntry, zero, suc, append_assoc, Finds, Joins, Searched, Region, joins_more, joins_none, AreEntriesAt, AreFirst, IsEntryOf, all_cells, FindsFirst, NameFirst, heaps_of, finds_joined}
use Rattle.std.proofs.lemmas.Bool.Decides.{nat_tests}
use Rattle.packed.specs.Packed.{IsPacked}
use Rattle.heap_entries.proofs.BlobLemmas.{blob_counted}
use Rattle.heap_entries.proofs.TextLemmas.{ended_from, ended_length, none_in}
use Rattle.heap_entries.proofs.WholeLemmas.{nul_stands}
use Rattle.rows.specs.Cells.{Stream}
use Rattle.schema.specs.declared.located_cells.TableCell.{TableCell}
use Rattle.cli_where.specs.declared.entries.Target.{Target}

-- a structure has a byte if and only if the byte is from its first one on and before its end
pub has_is : (start size offset : ℕ) → (has_byte start size offset ≡ true) ↔ ((start ≤ offset) × (offset < start + size))
has_is start size offset = (λ has. (grind (arith, nat_tests), grind (arith, nat_tests)), λ within. grind (arith, nat_tests))

no_nul_in : (heap : List ℕ) (index : ℕ) (bytes : List ℕ) → IsEnded heap index bytes → (k : ℕ) → index ≤ k → k < index + length bytes → slice_index heap k ≢ 0
no_nul_in heap index bytes e k from h z =
    let same : index + (k - index) ≡ k = omega (arith, from) in
    none_in heap index bytes e (k - index) (omega (arith, from, h)) (get_or-drop index heap (k - index) 0 ∙ ap (slice_index heap) same ∙ z)

-- the string at an index of a run ends at its NUL
module _ (heap : List ℕ) (byte first ends : ℕ) (run : IsRun heap byte first ends) (index : ℕ) where
  pub run_string : first ≤ index → index ≤ byte → IsEnded heap index (take (ends - index) (drop index heap))
  run_string from upto =
      let n = ends - index in
      let at : index + n ≡ ends = omega (arith, run.upto, upto) in
      ended_from heap index n (omega (arith, run.within, run.upto, upto)) (omega (arith, length-drop index heap, run.within, run.upto, upto))
      (λ k lt e. run.clear (index + k) (omega (arith, from)) (omega (arith, lt, at)) (sym (get_or-drop index heap k 0) ∙ e))
      (get_or-drop index heap n 0 ∙ ap (slice_index heap) at ∙ run.nul)

  pub run_string_long : first ≤ index → index ≤ byte → length (take (ends - index) (drop index heap)) ≡ ends - index
  run_string_long from upto = length-take-le (ends - index) (drop index heap) (omega (arith, length-drop index heap, run.within, run.upto, upto))

  -- an index before the run names no string that has the byte
  pub before_run : (text : List ℕ) → IsEnded heap index text → index < first → byte < index + (length text + 1) → ⊥
  before_run text e before has =
      no_nul_in heap index text e (first - 1) (omega (arith, before)) (omega (arith, before, has, run.from)) (run.follows (omega (arith, before)))

-- a packed length and its bytes are a blob
pub counted_stands : (heap : List ℕ) (index used count : ℕ) (tail later : List ℕ) → index ≤ length heap → tail ≡ drop index heap → used ≤ length tail → IsPacked count (take used tail)
    → later ≡ drop used tail → count ≤ length later
    → (blob : List ℕ) × (stands : IsCounted heap index blob) × (used + count ≡ length stands.count + length blob)
counted_stands heap index used count tail later within at some packed follows enough =
    let long : length (take count later) ≡ count = length-take-le count later enough in (
      take count later,
      record {
        before = take index heap;
        count = take used tail;
        after = drop count later;
        whole = sym (take-append-drop index heap) ∙ ap (λ l. take index heap ++ l) (sym at ∙ sym (take-append-drop used tail) ∙ ap (λ l. take used tail ++ l) (sym follows ∙ sym (take-append-drop count later)));
        at = length-take-le index heap within;
        counts = subst (λ (n : ℕ). IsPacked n (take used tail)) (sym long) packed;
      },
      omega (arith, long, length-take-le used tail some),
    )

module _ (heap : Heap) (offset : ℕ) where
  -- a byte before a heap, or after its end, is none of its strings
  pub outside : (offset < heap.start) ⊎ (heap.start + length heap.bytes ≤ offset) → IsRunOf heap offset None
  outside out index start size is has =
      let range = (has_is start size offset).0 has in
      let within = ended_length heap.bytes index is.text is.stands in
      let at = is.from in
      let long = is.long in
      elim out [
        | inl low ↦ omega (arith, range.0, low, at)
        | inr high ↦ omega (arith, range.1, high, at, long, within)
      ]

  pub run_is : (byte : ℕ) → offset ≡ heap.start + byte → (run : Option (ℕ × ℕ)) → IsRunAt heap.bytes byte run → IsRunOf heap offset run
  run_is byte at None none = λ index start size is has.
      let range = (has_is start size offset).0 has in
      let from = is.from in
      let long = is.long in
      let within = ended_length heap.bytes index is.text is.stands in
      none (index + length is.text) (omega (arith, range.1, at, from, long)) (omega (arith, within)) (nul_stands heap.bytes index is.text is.stands)
  run_is byte at (Some run) is = (byte, at, is)

-- a heap of a multiple of four bytes is padded
pub padded_already : (heap : List ℕ) → length heap % 4 ≡ 0 → heap ≡ zero_padded heap
padded_already heap even = sym (ap (λ left. heap ++ replicate ((4 - left) % 4) 0) even ∙ append-nil heap)

-- a user string at an index, by the size of its blob
pub entry_is : (heap : List ℕ) (index read size : ℕ) (string : UserText) → 1 ≤ index → read ≡ index → IsUserString heap read string
    → ((blob : List ℕ) (stands : IsCounted heap index blob) → size ≡ length stands.count + length blob) → IsEntry heap index string (index + size)
entry_is heap index read size string some same user long =
    let at = subst (λ (n : ℕ). IsUserString heap n string) same user in
    let counted = blob_counted heap index at.blob some at.stands in
    let is = long at.blob counted in
    record { blob = at.blob; stands = counted; encodes = at.encodes; follows = omega (arith, is) }

pub user_is : (heap : List ℕ) (index read : ℕ) (string : UserText) (next : ℕ) → 1 ≤ index → read ≡ index → IsEntry heap index string next → IsUserString heap read string
user_is heap index read string next some same e =
    subst (λ (n : ℕ). IsUserString heap n string) (sym same) (record { blob = e.blob; stands = inr (some, e.stands); encodes = e.encodes })

module _ (IsOf : TableCell → Option Region → Type 0) where
  none_first : (most : ℕ) (cell : TableCell) (cells : List TableCell) (found : List Region) → IsOf cell None → AreFirst IsOf most cells found → AreFirst IsOf most (cell ∷ cells) found
  none_first zero cell cells found none are = are
  none_first (suc most) cell cells [] none are = (none, are)
  none_first (suc most) cell cells (first ∷ later) none are = inr (none, are)

  no_cells : (most : ℕ) → AreFirst IsOf most [] []
  no_cells zero = refl
  no_cells (suc most) = refl

module _ {target : Target} {stream : Stream} where
  -- the entries of some cells, and then those of others
  pub finds_more : {most left last : ℕ} {first later : List TableCell} {old between new : Searched} → FindsFirst target stream most left first old between
      → FindsFirst target stream left last later between new → FindsFirst target stream most last (first ++ later) old new
  finds_more {most} {left} {last} {first} {later} one other = record {
    found = one.found ++ other.found;
    first = λ more tail are. simp append_assoc (one.first (later ++ more) (other.found ++ tail) (other.first more tail are));
    joins = joins_more one.joins other.joins;
  }

  -- nothing is kept
  pub finds_same : {most left : ℕ} {cells : List TableCell} {search : Searched} → NameFirst (IsEntryOf (heaps_of target) stream.bytes stream.sizes target.offset) most left cells [] → FindsFirst target stream most left cells search search
  finds_same {most} {left} {cells} {search} first = record { found = []; first = first; joins = joins_none search }

  -- a cell names an entry that contains the byte, or none
  pub finds_one : (most : ℕ) (cell : TableCell) (of : Region) (old new : Searched) → most ≢ 0 → IsEntryOf (heaps_of target) stream.bytes stream.sizes target.offset cell (Some of) → Joins old new (of ∷ [])
      → FindsFirst target stream most (most - 1) (cell ∷ []) old new
  finds_one most cell of old new some is joins =
      let next : suc (most - 1) ≡ most = omega (arith, some) in
      record { found = of ∷ []; first = λ more later are. subst (λ (n : ℕ). AreFirst (IsEntryOf (heaps_of target) stream.bytes stream.sizes target.offset) n (cell ∷ more) (of ∷ later)) next (inl (is, are)); joins = joins }

  pub finds_none_of : (most : ℕ) (cell : TableCell) (search : Searched) → IsEntryOf (heaps_of target) stream.bytes stream.sizes target.offset cell None → FindsFirst target stream most most (cell ∷ []) search search
  finds_none_of most cell search none = finds_same (λ more later are. none_first (IsEntryOf (heaps_of target) stream.bytes stream.sizes target.offset) most cell more later none are)

  -- all cells
  pub finds_all : {left : ℕ} {old new : Searched} → target.offset ≡ old.offset → FindsFirst target stream 10 left (all_cells stream.sizes) old new
      → Finds (AreEntriesAt (heaps_of target) stream.bytes stream.sizes) old new
  finds_all {left} {old} {new} same finds =
      let all = finds.first [] [] (no_cells (IsEntryOf (heaps_of target) stream.bytes stream.sizes target.offset) left) in
      finds_joined {AreFound = AreEntriesAt (heaps_of target) stream.bytes stream.sizes} (rw same at (simp append-nil at all)) finds.joins
