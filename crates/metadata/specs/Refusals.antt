-- The rules for tables from which a model is built, in order (ECMA-335 II.22 and II.24.2). A rule applies only if all
-- rules before it hold. Each has a code and a cell. Table, row and column are 0 if the rule concerns none; the column
-- is the index of the cell in its row.
use Rattle.std.specs.Prelude.{◌≡◌, ℕ, ◌≤◌, List, [], ◌∷◌, ◌++◌, length}
use Rattle.packed.specs.declared.code.FaultCode.{FaultCode}
use Rattle.packed.specs.declared.code.FaultCode.TheVariants.{Version, UserBytes, RowCount, BadCell, BadIndex, BadList, BadSignature, SignatureIndex}
use Rattle.packed.specs.Codes.{number_of_code}
use Rattle.packed.specs.Rule.{Rule, rules_from}
use Rattle.root.specs.Root.{IsVersion}
use Rattle.table_schema.specs.declared.table.TableId.{TableId}
use Rattle.table_schema.specs.Tables.{table_number}
use Rattle.table_schema.specs.CellColumns.{cell_count}
use Rattle.metadata.specs.declared.refusal.Refusal.{Refusal}
use Rattle.metadata.specs.Kinds.{IsOfKind, IsStorable, IsHeld}
use Rattle.metadata.specs.Metadata.{Metadata, row_of, count_in, cell_in}
use Rattle.metadata.specs.Rows.{table_at}
use Rattle.metadata.specs.LinkRules.{Checked, rules_of_links}
use Rattle.metadata.specs.Valid.{MayRefer, IsWithinMembers, NamesTypes, kind_at, nullable_at, links_of, IsUser}

-- the rule that something must hold, else the refusal with this code at this cell
abbrev pub refuse : Type 0 → FaultCode → ℕ → ℕ → ℕ → Rule Refusal
refuse holds code table row column =
    record { holds = holds; fault = record { code = number_of_code code; table = table; row = row; column = column } }

-- the rule for the number of rows of a table (II.22)
unfoldable pub refusals_of_count : Metadata → ℕ → List (Rule Refusal)
refusals_of_count model table_index = refuse (count_in model (table_at table_index) ≤ 0xFFFFFF) RowCount (table_number (table_at table_index)) 0 0 ∷ []

unfoldable pub refusals_of_counts : Metadata → List (Rule Refusal)
refusals_of_counts model = rules_from (refusals_of_count model) 0 38

-- ---- cells, without the contents of signatures

unfoldable pub refusals_of_cell : Metadata → TableId → ℕ → ℕ → List (Rule Refusal)
refusals_of_cell model table row cell_index =
    refuse (IsOfKind (kind_at table cell_index) (cell_in model table row cell_index) × IsStorable (cell_in model table row cell_index)) BadCell (table_number table) row cell_index
    ∷ refuse (MayRefer model (nullable_at table cell_index) (cell_in model table row cell_index)) BadIndex (table_number table) row cell_index
    ∷ refuse (IsWithinMembers model (kind_at table cell_index) (cell_in model table row cell_index)) BadList (table_number table) row cell_index
    ∷ []

-- a row has the number of cells that its table defines; then the rules for each cell
unfoldable pub refusals_of_row : Metadata → TableId → ℕ → List (Rule Refusal)
refusals_of_row model table row =
    refuse (length (row_of model table row) ≡ cell_count table) BadCell (table_number table) row 0
    ∷ rules_from (refusals_of_cell model table row) 0 (cell_count table)

-- the rules for each row of the table with a table index, and of all tables
unfoldable pub refusals_by_row_at : Metadata → (TableId → ℕ → List (Rule Refusal)) → ℕ → List (Rule Refusal)
refusals_by_row_at model rules table_index = rules_from (rules (table_at table_index)) 1 (count_in model (table_at table_index))

unfoldable pub refusals_by_row : Metadata → (TableId → ℕ → List (Rule Refusal)) → List (Rule Refusal)
refusals_by_row model rules = rules_from (refusals_by_row_at model rules) 0 38

-- ---- the links between rows

-- the links of a model, and the refusal at a cell
abbrev pub in_memory : Metadata → Checked Refusal
in_memory model = record {
  links = links_of model;
  error = λ code table row column. record { code = number_of_code code; table = table_number table; row = row; column = column };
}

-- ---- signatures

unfoldable pub refusals_of_signature : Metadata → TableId → ℕ → ℕ → List (Rule Refusal)
refusals_of_signature model table row cell_index =
    refuse (IsHeld (kind_at table cell_index) (cell_in model table row cell_index)) BadSignature (table_number table) row cell_index
    ∷ refuse (NamesTypes model (cell_in model table row cell_index)) SignatureIndex (table_number table) row cell_index
    ∷ []

unfoldable pub refusals_of_signatures_in : Metadata → TableId → ℕ → List (Rule Refusal)
refusals_of_signatures_in model table row = rules_from (refusals_of_signature model table row) 0 (cell_count table)

-- ---- the whole

unfoldable pub refusals_of : Metadata → List (Rule Refusal)
refusals_of model =
    refuse (IsVersion model.version) Version 0 0 0
    ∷ refuse (IsUser model.user) UserBytes 0 0 0
    ∷ (refusals_of_counts model
    ++ (refusals_by_row model (refusals_of_row model)
    ++ (rules_of_links (in_memory model)
    ++ refusals_by_row model (refusals_of_signatures_in model))))
