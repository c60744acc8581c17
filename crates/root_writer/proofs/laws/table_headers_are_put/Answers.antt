use Rattle.root_writer.proofs.Prelude.{ℕ, Bool, List, [], ◌∷◌, ◌++◌, ap, sym, ◌∙◌, TableId, tables, number_bytes, bits_of, counts_bytes, sizes_of, header_bytes}
use Rattle.root_writer.specs.TableHeader.{table_header, is_counted}
use Rattle.root_writer.proofs.CountLemmas.{has_rows_is, same_counts}
use Rattle.root_writer.proofs.laws.table_headers_are_put.Goals as goal

pub returns : goal.returns
unfolding header_bytes table_header
returns c model sizes same =
    let heap_sizes = (sizes_of model).heap_sizes in
    let sorted = (sizes_of model).sorted in
    let header = λ (test : TableId → Bool) (counts : List ℕ). (0 ∷ 0 ∷ 0 ∷ 0 ∷ []) ++ (2 ∷ 0 ∷ heap_sizes ∷ 1 ∷ []) ++ number_bytes 8 (bits_of test tables) ++ number_bytes 8 sorted ++ counts in
    ap (λ test. header test (counts_bytes test (sizes_of model) tables)) (has_rows_is model sizes same)
    ∙ ap (header (is_counted sizes)) (sym (same_counts (is_counted sizes) sizes (sizes_of model) same tables))
