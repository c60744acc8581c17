use Rattle.rows.proofs.Prelude.{◌≡◌, ◌+◌, ◌≤◌, length, ap, ◌∙◌, arith, rules, little_endian, count_of, row_width, cell_width}
use Rattle.rows.proofs.OffsetLemmas.{cell_within, cell_in_part}
use Rattle.rows.proofs.rows.Rows.column.Goals as goal
use Rattle.rows.proofs.rows.Rows.column.Goals.{then-count-eq0, else-count-eq0}

pub invariant_of-result : goal.invariant_of-result
invariant_of-result c = record {
  width = c.cell_width-width.ensures.known;
  rows = λ row first last. elim c.if-count-eq0.branch [
    | then-count-eq0 w ↦ absurd (omega arith)
    | else-count-eq0 w ↦
        let sizes = c.args.self.now.sizes in
        let step : c.row_width-step.result ≡ row_width sizes c.args.table = search rules in
        let width : c.cell_width-width.result ≡ cell_width sizes c.args.table c.args.column = search rules in
        let bytes : c.self.inside.bytes.now ≡ c.args.self.now.bytes = ap (λ s. s.bytes) c.self.view_is in
        let within : w.place-last.result + c.cell_width-width.result ≤ length c.self.inside.bytes.now =
        omega (arith, w.place-last.ensures.within, width, ap length bytes) in
        cell_within c.self.inside.bytes.now c.if-count-eq0.bytes.now sizes c.args.table c.args.column c.count-count.result c.row_width-step.result
        c.cell_width-width.result w.place-first.result w.place-last.result row step width w.place-first.ensures.value w.place-last.ensures.value within
        (ap (λ b. b.now) w.bytes-is ∙ w.bytes_between-bytes.ensures) first last
  ];
}

pub returns-clause-numbers : goal.returns-clause-numbers
returns-clause-numbers c = λ row first last.
    let sizes = c.args.self.now.sizes in
    let count : c.count-count.result ≡ count_of sizes c.args.table = search rules in
    elim c.if-count-eq0.branch [
      | then-count-eq0 w ↦ absurd (omega (arith, w.if-count-eq0.true, count))
      | else-count-eq0 w ↦
          let step : c.row_width-step.result ≡ row_width sizes c.args.table = search rules in
          let width : c.cell_width-width.result ≡ cell_width sizes c.args.table c.args.column = search rules in
          let bytes : c.self.inside.bytes.now ≡ c.args.self.now.bytes = ap (λ s. s.bytes) c.self.view_is in
          let within : w.place-last.result + c.cell_width-width.result ≤ length c.self.inside.bytes.now =
          omega (arith, w.place-last.ensures.within, width, ap length bytes) in
          ap little_endian (rw bytes at (cell_in_part c.self.inside.bytes.now c.if-count-eq0.bytes.now sizes c.args.table c.args.column c.count-count.result c.row_width-step.result
          c.cell_width-width.result w.place-first.result w.place-last.result row step width w.place-first.ensures.value w.place-last.ensures.value within
          (ap (λ b. b.now) w.bytes-is ∙ w.bytes_between-bytes.ensures) first (omega (arith, last, count))))
    ]
