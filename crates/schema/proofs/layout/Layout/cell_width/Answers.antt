use Rattle.schema.proofs.Prelude.{◌≡◌, ℕ, ◌+◌, ◌-◌, ◌≤◌, ◌∙◌, [], ap, get_or, arith, false, TableLayout, Column, U8, columns_of, Sizes, width_of, sizes_kept}
use Rattle.schema.proofs.TableLayoutLemmas.{table_layout_kept, columns_width_more, width_known}
use Rattle.schema.proofs.layout.Layout.cell_width.Goals as goal

two_offsets : (a b c d w : ℕ) → a ≡ c → b ≡ d → d ≡ c + w → (a ≤ b) × (b - a ≡ w)
two_offsets a b c d w e f g = (omega arith, omega arith)

pub overflow_sub-result : goal.overflow_sub-result
overflow_sub-result c =
    let none : TableLayout = record { start = 0; row_width = 0; offsets = [] } in
    let sizes = sizes_kept c.self.inside.header in
    let kept = table_layout_kept sizes c.self.inside.table_layouts c.self.invariant c.args.table c.table_index.result none c.table_index.ensures.value in
    let more = columns_width_more sizes (columns_of c.args.table) c.args.column (record { kind = U8; nullable = false }) c.requires in
    (two_offsets _ _ _ _ _ (kept.offsets c.args.column (omega arith)) (kept.offsets (c.args.column + 1) (omega arith)) more).0

pub returns : goal.returns
returns c =
    let none : TableLayout = record { start = 0; row_width = 0; offsets = [] } in
    let column : Column = record { kind = U8; nullable = false } in
    let sizes = sizes_kept c.self.inside.header in
    let kept = table_layout_kept sizes c.self.inside.table_layouts c.self.invariant c.args.table c.table_index.result none c.table_index.ensures.value in
    let more = columns_width_more sizes (columns_of c.args.table) c.args.column column c.requires in
    let width = (two_offsets _ _ _ _ _ (kept.offsets c.args.column (omega arith)) (kept.offsets (c.args.column + 1) (omega arith)) more).1 in
    record {
      value = width ∙ ap (λ (s : Sizes). width_of s (get_or (columns_of c.args.table) c.args.column column)) c.self.view_is;
      known = width_known sizes (get_or (columns_of c.args.table) c.args.column column) _ width;
    }
