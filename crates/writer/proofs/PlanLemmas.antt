-- A plan with the parts of a model's canonical root.
use Rattle.writer.proofs.Prelude.{◌≡◌, ℕ, ◌<◌, ◌≤◌, List, ◌++◌, length, map, get_or, ltb, refl, sym, ap, ◌∙◌, arith, count_by, fun_ext, TableId, tables, table_number, sizes_by_number, header_size, Kind, Tables, Strings, UserStrings, Guids, Blobs, tables_bytes, bits_of, Metadata, count_in, numbers, is_sorted, sizes_of, header_bytes, table_stream, canonical, stream, size_of, StreamSizes, zero_padded, text_heap, Numbered, ArePooled, AreHeapLens, IsTablesPlan}
use Rattle.root_writer.specs.Written.{padding}
use Rattle.heap_pools.specs.TextPlan.{TextPlan}
use Rattle.writer.specs.declared.heap_lens.HeapLens.{HeapLens}
use Rattle.writer.specs.declared.tables_plan.TablesPlan.{TablesPlan}
use Rattle.writer.proofs.LengthLemmas.{padding_adds}

-- the sizes of a model are those of its row counts by table number
pub counts_are : (model : Metadata) (counts : List ℕ) (heap_sizes : ℕ) → ((table : TableId) → get_or counts (table_number table) 0 ≡ count_in model table)
    → (sizes_by_number counts heap_sizes).counts ≡ (sizes_of model).counts
unfolding sizes_of
counts_are model counts heap_sizes each =
    let same : (λ (table : TableId). get_or counts (table_number table) 0) ≡ count_in model = fun_ext each in
    ap (λ (count : TableId → ℕ). map count tables) same

pub body_is : (model : Metadata) (counts : List ℕ) (heap_sizes : ℕ) → ((table : TableId) → get_or counts (table_number table) 0 ≡ count_in model table)
    → (sizes_by_number counts heap_sizes).body ≡ (sizes_of model).body
unfolding sizes_of
body_is model counts heap_sizes each =
    let same : (λ (table : TableId). get_or counts (table_number table) 0) ≡ count_in model = fun_ext each in
    ap (λ (count : TableId → ℕ). header_size (count_by (λ table. ltb 0 (count table)) tables)) same

-- the header, the rows and the padding are the table stream
pub stream_is : (model : Metadata) (header rows : List ℕ) (len : ℕ) → header ≡ header_bytes model → rows ≡ tables_bytes (sizes_of model) tables (numbers model)
    → len ≡ length (header_bytes model ++ tables_bytes (sizes_of model) tables (numbers model)) → header ++ rows ++ padding len ≡ table_stream model
unfolding table_stream
stream_is model header rows len first second long =
    let whole = header_bytes model ++ tables_bytes (sizes_of model) tables (numbers model) in
    ap (λ list. list ++ rows ++ padding len) first
    ∙ ap (λ list. header_bytes model ++ list ++ padding len) second
    ∙ ap (λ n. whole ++ padding n) long

-- if a table stream without padding exceeds a limit, the root exceeds it
pub tables_over : (model : Metadata) (len limit : ℕ) → length (table_stream model) ≤ length (canonical model)
    → len ≡ length (header_bytes model ++ tables_bytes (sizes_of model) tables (numbers model)) → limit < len → limit < length (canonical model)
unfolding table_stream
tables_over model len limit within long more =
    omega (arith, within, long, more, padding_adds (header_bytes model ++ tables_bytes (sizes_of model) tables (numbers model)))

-- the streams of the heaps are as long as those of the pools
pub lens_are : (model : Metadata) (plan : TextPlan) (numbered : Numbered) → ArePooled model plan numbered → (lens : HeapLens)
    → lens.strings ≡ length (zero_padded (text_heap plan.entries)) → lens.guids ≡ length (zero_padded numbered.guids) → lens.blobs ≡ length (zero_padded numbered.blobs)
    → AreHeapLens model lens
lens_are model plan numbered pooled lens strings guids blobs = record {
  strings = strings ∙ ap (λ entries. length (zero_padded (text_heap entries))) pooled.texts;
  guids = guids ∙ ap (λ heap. length (zero_padded heap)) pooled.numbering.guids;
  blobs = blobs ∙ ap (λ heap. length (zero_padded heap)) pooled.numbering.blobs;
}

tables_size_is : (model : Metadata) → length (zero_padded (header_bytes model ++ tables_bytes (sizes_of model) tables (numbers model))) ≡ length (table_stream model)
unfolding table_stream
tables_size_is model = refl

-- the sizes of the streams, kind by kind
pub sizes_are : (model : Metadata) (plan : TablesPlan) (sizes : StreamSizes) → IsTablesPlan model plan
    → ((bytes : List ℕ) → length bytes ≡ plan.len → sizes.tables ≡ length (zero_padded bytes))
    → AreHeapLens model (record { strings = sizes.strings; guids = sizes.guids; blobs = sizes.blobs }) → sizes.user_strings ≡ length model.user
    → (kind : Kind) → size_of sizes kind ≡ length (stream model kind)
sizes_are model plan sizes is in_tables lens user Tables =
    in_tables (header_bytes model ++ tables_bytes (sizes_of model) tables (numbers model)) (sym is.len) ∙ tables_size_is model
sizes_are model plan sizes is in_tables lens user Strings = lens.strings
sizes_are model plan sizes is in_tables lens user UserStrings = user
sizes_are model plan sizes is in_tables lens user Guids = lens.guids
sizes_are model plan sizes is in_tables lens user Blobs = lens.blobs

pub sorted_is : (model : Metadata) → (sizes_of model).sorted ≡ bits_of (is_sorted model) tables
unfolding sizes_of
sorted_is model = refl
