-- What a check of a number says about its cell.
use Rattle.checks.proofs.Prelude.{◌≡◌, ℕ, false, List, Result, Ok, Err, cond, sym, ap, subst, ◌∙◌, is_utf8, FaultCode, Rule, AllHold, FirstBroken, Reports, fault, none_fails, HeapFault, code_of, rules_of_text, TableId, Column, ColumnKind, column_at, number_of, SourceAt, cell_offset, rules_of_number, rules_of_cell, code_at, text_length, counted_text, cell_text_bytes}
use Rattle.packed.specs.declared.fault.Fault.{Fault}
use Rattle.table_schema.specs.declared.column.ColumnKind.TheVariants as kind

-- the check of a number in a column reports the rules for its cell
pub cell_reports : (here : SourceAt) (table : TableId) (row column number : ℕ) (held : Column) {X : Type 0} (r : Result X FaultCode) → held ≡ column_at table column → number ≡ number_of here.source table row column → ((offset : ℕ) → Reports (rules_of_number here.source held.kind held.nullable number offset) (code_at offset r)) → Reports (rules_of_cell here table row column) (code_at (cell_offset here table row column) r)
unfolding rules_of_cell
cell_reports here table row column number held r is_held is_number reports =
    rw (is_held, is_number) at (reports (cell_offset here table row column))

-- what the number of a cell says about the rules for the cell
module _ (here : SourceAt) (table : TableId) (row column number : ℕ) (held : Column) (is_held : held ≡ column_at table column) (is_number : number ≡ number_of here.source table row column) where
  pub number_holds : ((offset : ℕ) → AllHold (rules_of_number here.source held.kind held.nullable number offset)) → AllHold (rules_of_cell here table row column)
  number_holds all = cell_reports here table row column number held {X = Unit {0}} (Ok tt) is_held is_number all

  pub number_breaks : (code : FaultCode) → ((offset : ℕ) → FirstBroken (rules_of_number here.source held.kind held.nullable number offset) (fault code offset)) → ¬ AllHold (rules_of_cell here table row column)
  number_breaks code first all =
      none_fails (rules_of_cell here table row column) (fault code (cell_offset here table row column)) all
      (cell_reports here table row column number held {X = Unit {0}} (Err code) is_held is_number first)

  -- a number of a text
  module _ (texts : List ℕ) (same : texts ≡ here.source.texts) (is_text : held.kind ≡ kind.Text) where
    as_text : (offset : ℕ) → rules_of_text texts number offset ≡ rules_of_number here.source held.kind held.nullable number offset
    as_text offset =
        ap (λ (l : List ℕ). rules_of_text l number offset) same
        ∙ ap (λ (k : ColumnKind). rules_of_number here.source k held.nullable number offset) (sym is_text)

    pub text_holds : ((offset : ℕ) → AllHold (rules_of_text texts number offset)) → AllHold (rules_of_cell here table row column)
    text_holds all = number_holds (λ offset. subst (λ (ds : List (Rule Fault)). AllHold ds) (as_text offset) (all offset))

    pub text_breaks : (found : HeapFault) → ((offset : ℕ) → FirstBroken (rules_of_text texts number offset) (fault (code_of found) offset)) → ¬ AllHold (rules_of_cell here table row column)
    text_breaks found first =
        number_breaks (code_of found) (λ offset. subst (λ (ds : List (Rule Fault)). FirstBroken ds (fault (code_of found) offset)) (as_text offset) (first offset))

    pub text_counts : is_utf8 here.source.texts ≡ false → text_length texts number ≡ cell_text_bytes here.source table row column
    unfolding cell_text_bytes
    text_counts read =
        ap (λ (l : List ℕ). text_length l number) same
        ∙ (sym (ap (λ b. cond b 0 (text_length here.source.texts number)) read)
        ∙ (ap (λ (k : ColumnKind). counted_text here.source k number) (sym is_text)
        ∙ (ap (λ (h : Column). counted_text here.source h.kind number) is_held ∙ ap (counted_text here.source (column_at table column).kind) is_number)))

  pub other_counts : counted_text here.source held.kind number ≡ 0 → 0 ≡ cell_text_bytes here.source table row column
  unfolding cell_text_bytes
  other_counts none = sym none ∙ (ap (λ (h : Column). counted_text here.source h.kind number) is_held ∙ ap (counted_text here.source (column_at table column).kind) is_number)
