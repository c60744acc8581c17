-- The bits of the tables that have rows, table by table.
use Rattle.root_writer.proofs.Prelude.{◌≡◌, ℕ, ◌+◌, ◌<◌, ◌≤◌, Bool, List, [], ◌∷◌, ◌++◌, length, get_or, drop, cond, ltb, refl, ap, sym, ◌∙◌, arith, fun_ext, drop_all, sum_by-drop_more, TableId, Module, tables, table_index_of, Sizes, count_of, number_bytes, bits_of, counts_bytes, Metadata, has_rows, sizes_of}
use Rattle.root_writer.specs.TableHeader.{is_counted, bit_if}
use Rattle.root_writer.proofs.Widths.{count_is}

pub more_bits : (sizes : Sizes) (items : List TableId) (i valid next total : ℕ) → items ≡ tables → i < length items
    → next ≡ bit_if (is_counted sizes (get_or items i Module)) (get_or items i Module)
    → valid + bits_of (is_counted sizes) (drop i tables) ≡ total → (valid + next) + bits_of (is_counted sizes) (drop (i + 1) tables) ≡ total
unfolding bits_of
more_bits sizes items i valid next total same below is whole =
    let here = is ∙ ap (λ (listed : List TableId). bit_if (is_counted sizes (get_or listed i Module)) (get_or listed i Module)) same in
    let long : i < length tables = omega (arith, ap length same) in
    let more = sum_by-drop_more (λ table. bit_if (is_counted sizes table) table) tables i Module long in
    omega (arith, here, more, whole)

pub all_bits : (sizes : Sizes) (items : List TableId) (i valid total : ℕ) → items ≡ tables → length items ≤ i
    → valid + bits_of (is_counted sizes) (drop i tables) ≡ total → valid ≡ total
unfolding bits_of
all_bits sizes items i valid total same past whole =
    let none : bits_of (is_counted sizes) (drop i tables) ≡ 0 = ap (bits_of (is_counted sizes)) (drop_all i tables (omega (arith, ap length same))) in
    omega (arith, none, whole)

-- ---- the same counts give the same bytes

same_count : (sizes others : Sizes) → sizes.counts ≡ others.counts → (table : TableId) → count_of sizes table ≡ count_of others table
same_count sizes others same table = ap (λ (counts : List ℕ). get_or counts (table_index_of table) 0) same

pub same_counts : (test : TableId → Bool) (sizes others : Sizes) → sizes.counts ≡ others.counts → (listed : List TableId)
    → counts_bytes test sizes listed ≡ counts_bytes test others listed
same_counts test sizes others same [] = refl
same_counts test sizes others same (table ∷ listed) =
    ap (λ count. cond (test table) (number_bytes 4 count) [] ++ counts_bytes test sizes listed) (same_count sizes others same table)
    ∙ ap (λ tail. cond (test table) (number_bytes 4 (count_of others table)) [] ++ tail) (same_counts test sizes others same listed)

pub has_rows_is : (model : Metadata) (sizes : Sizes) → sizes.counts ≡ (sizes_of model).counts → has_rows model ≡ is_counted sizes
has_rows_is model sizes same =
    fun_ext (λ table. ap (ltb 0) (sym (count_is model table) ∙ sym (same_count sizes (sizes_of model) same table)))
