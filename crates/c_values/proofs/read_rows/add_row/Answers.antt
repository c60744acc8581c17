use Rattle.c_values.proofs.Prelude.{◌≡◌, ℕ, inr, sym, ap, ◌∙◌, subst, arith, common_steps, all_said, TableRow, IsFirstBadCell, IsOfBadRow, MatchNoRoot, row_after}
use Rattle.c_values.proofs.ReasonLemmas.{reason_more}
use Rattle.c_values.proofs.read_rows.add_row.Goals as goal

pub returns-clause-added : goal.returns-clause-added
returns-clause-added c =
    let row : TableRow = record { table = c.in-Some.table; cells = all_said c.in_ok-cells.cells.items } in
    (row, record { number = c.in-Some.ensures.sound; cells = c.in_ok-cells.ensures.read }, c.in-Ok.ensures.ok)

pub returns-in_err-cells-clause-refused : goal.returns-in_err-cells-clause-refused
returns-in_err-cells-clause-refused c = λ row is.
    let given = c.args.given.now in
    let table = c.in-Some.table in
    let number = c.in-Some.ensures.sound in
    let e : row ≡ c.row_number-row.result = is table number ∙ ap row_after (sym c.count.ensures) ∙ sym c.row_number-row.ensures in
    let bad : MatchNoRoot (IsOfBadRow row given) ⊥ c.in_err-cells.field-0.0 =
    reason_more (IsFirstBadCell table c.row_number-row.result given.cells.now) (IsOfBadRow row given) ⊥ ⊥ c.in_err-cells.field-0.0
    (λ refusal bad. let P : ℕ → Type 0 = λ r. IsFirstBadCell table r given.cells.now refusal in inr (table, number, subst P (sym e) bad)) (λ x. x)
    c.in_err-cells.ensures.refused in
    grind (arith, common_steps, bad)
