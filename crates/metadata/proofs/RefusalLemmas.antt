-- All rules for tables hold if and only if they are those of a valid model.
use Rattle.metadata.proofs.Prelude.{◌≡◌, ℕ, ◌<◌, ◌≤◌, ◌++◌, List, length, subst, arith, Rule, AllHold, all_append, all_prefix, all_back, each_holds, all_of_each, TableId, tables, table_index_of, cell_count, Metadata, count_in, cell_in, HasRow, table_at, rules_of_links, IsValidAt, IsValid}
use Rattle.table_schema.proofs.TableFacts.{table_at_index, table_index_below}
use Rattle.metadata.specs.Refusals.{refusals_of_count, refusals_of_counts, refusals_of_cell, refusals_of_row, refusals_by_row_at, refusals_by_row, in_memory, refusals_of_signature, refusals_of_signatures_in, refusals_of}
use Rattle.metadata.specs.declared.refusal.Refusal.{Refusal}
use Rattle.metadata.proofs.LinkLemmas.{links_found, links_met}

each_table : (P : TableId → Type 0) → ((j : ℕ) → j < 38 → P (table_at j)) → (table : TableId) → P table
each_table P each table = subst P (table_at_index table) (each (table_index_of table) (table_index_below table))

-- the rules for a cell
abbrev CellHolds : Metadata → TableId → ℕ → ℕ → Type 0
CellHolds model table row cell_index = AllHold (refusals_of_cell model table row cell_index) × AllHold (refusals_of_signature model table row cell_index)

cell_found : (model : Metadata) (table : TableId) (row cell_index : ℕ) → CellHolds model table row cell_index → IsValidAt model table cell_index (cell_in model table row cell_index)
unfolding refusals_of_cell refusals_of_signature
cell_found model table row cell_index holds =
    record { of_kind = holds.0.0.0; storable = holds.0.0.1; refers = holds.0.1.0; within = holds.0.1.1.0; held = holds.1.0; types = holds.1.1.0 }

cell_met : (model : Metadata) (table : TableId) (row cell_index : ℕ) → IsValidAt model table cell_index (cell_in model table row cell_index) → CellHolds model table row cell_index
unfolding refusals_of_cell refusals_of_signature
cell_met model table row cell_index is = (((is.of_kind, is.storable), (is.refers, (is.within, tt))), (is.held, (is.types, tt)))

-- the whole

module _ (model : Metadata) where
  few_found : AllHold (refusals_of_counts model) → (table : TableId) → count_in model table ≤ 0xFFFFFF
  unfolding refusals_of_counts refusals_of_count
  few_found all = each_table (λ table. count_in model table ≤ 0xFFFFFF)
      (λ j below. (each_holds (refusals_of_count model) 0 38 all j (omega arith) (omega arith)).0)

  few_met : ((table : TableId) → count_in model table ≤ 0xFFFFFF) → AllHold (refusals_of_counts model)
  unfolding refusals_of_counts refusals_of_count
  few_met few = all_of_each (refusals_of_count model) 0 38 (λ j low high. (few (table_at j), tt))

  -- the rules for each row
  row_holds : (rules : TableId → ℕ → List (Rule Refusal)) → AllHold (refusals_by_row model rules) → (table : TableId) (row : ℕ) → HasRow model table row
      → AllHold (rules table row)
  unfolding refusals_by_row refusals_by_row_at
  row_holds rules all = each_table (λ table. (row : ℕ) → HasRow model table row → AllHold (rules table row)) (λ j below row there.
      let rows = each_holds (refusals_by_row_at model rules) 0 38 all j (omega arith) (omega arith) in
      each_holds (rules (table_at j)) 1 (count_in model (table_at j)) rows row there.0 (omega (arith, there.1)))

  rows_hold : (rules : TableId → ℕ → List (Rule Refusal)) → ((table : TableId) (row : ℕ) → HasRow model table row → AllHold (rules table row))
      → AllHold (refusals_by_row model rules)
  unfolding refusals_by_row refusals_by_row_at
  rows_hold rules each = all_of_each (refusals_by_row_at model rules) 0 38 (λ j low high.
      all_of_each (rules (table_at j)) 1 (count_in model (table_at j)) (λ row first last. each (table_at j) row (first, omega arith)))

  pub valid_found : length model.tables ≡ 38 → AllHold (refusals_of model) → IsValid model
  unfolding refusals_of refusals_of_row refusals_of_signatures_in
  valid_found long all =
      let counts = refusals_of_counts model in
      let cells = refusals_by_row model (refusals_of_row model) in
      let links = rules_of_links (in_memory model) in
      let signatures = refusals_by_row model (refusals_of_signatures_in model) in
      let behind_counts = all_back counts (cells ++ (links ++ signatures)) all.1.1 in
      let behind_cells = all_back cells (links ++ signatures) behind_counts in
      let row = row_holds (refusals_of_row model) (all_prefix cells (links ++ signatures) behind_counts) in
      let signed = row_holds (refusals_of_signatures_in model) (all_back links signatures behind_cells) in
      record {
        version = all.0;
        user = all.1.0;
        tables = long;
        few = few_found (all_prefix counts (cells ++ (links ++ signatures)) all.1.1);
        long = λ table r there. (row table r there).0;
        cells = λ table r cell_index there below. cell_found model table r cell_index (
          each_holds (refusals_of_cell model table r) 0 (cell_count table) (row table r there).1 cell_index (omega arith) (omega arith),
          each_holds (refusals_of_signature model table r) 0 (cell_count table) (signed table r there) cell_index (omega arith) (omega arith),
        );
        linked = links_found (in_memory model) (all_prefix links signatures behind_cells);
      }

  pub valid_met : IsValid model → AllHold (refusals_of model)
  unfolding refusals_of refusals_of_row refusals_of_signatures_in
  valid_met valid =
      let cells = refusals_by_row model (refusals_of_row model) in
      let links = rules_of_links (in_memory model) in
      let signatures = refusals_by_row model (refusals_of_signatures_in model) in
      let cell = λ (table : TableId) (row cell_index : ℕ) (there : HasRow model table row) (below : cell_index < cell_count table).
      cell_met model table row cell_index (valid.cells table row cell_index there below) in (
        valid.version,
        (
          valid.user,
          all_append (refusals_of_counts model) (cells ++ (links ++ signatures)) (few_met valid.few)
              (all_append cells (links ++ signatures) (rows_hold (refusals_of_row model) (λ table row there. (
                valid.long table row there,
                all_of_each (refusals_of_cell model table row) 0 (cell_count table) (λ cell_index low below. (cell table row cell_index there (omega arith)).0),
              )))
              (all_append links signatures (links_met (in_memory model) valid.linked)
              (rows_hold (refusals_of_signatures_in model) (λ table row there.
              all_of_each (refusals_of_signature model table row) 0 (cell_count table) (λ cell_index low below. (cell table row cell_index there (omega arith)).1))))),
        ),
      )
