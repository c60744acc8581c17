use Rattle.cli_cells.proofs.Prelude.{◌≡◌, ◌≢◌, ◌∙◌, ◌+◌, ◌≤◌, arith, refl, sym, eq-eqb, ne_eqb, first_lines, heading_line, row_line}
use Rattle.std.proofs.lemmas.List.FromFn.{map-range_with_len_more}
use Rattle.cli_cells.proofs.row_lines.print_table.Goals as goal

pub returns-then-ready-eq0-clause-lines : goal.returns-then-ready-eq0-clause-lines
unfolding first_lines
returns-then-ready-eq0-clause-lines g c = λ content shows.
    let rows = g.R.ShownRows.ready_rows c.args.rows.now c.args.table in
    let none : rows ≡ 0 = sym c.ready-ready.ensures ∙ c.if-ready-eq0.true in
    rw (eq-eqb rows 0 none) (c.lines_follow.ensures.nothing c.args.out.now)

pub loop-earlier-init : goal.loop-earlier-init
loop-earlier-init g c = record { same = refl; lines = λ content shows. c.lines_follow.ensures.nothing _ }

pub print_row-requires : goal.print_row-requires
print_row-requires g c = λ k.
    let within : c.loop-earlier.earlier + 1 ≤ g.R.ShownRows.ready_rows c.args.rows.now c.args.table = omega (arith, c.loop-earlier-test.true, c.ready-ready.ensures) in
    ((refl, tt), (omega arith, rw c.loop-earlier.invariant.same within))

pub loop-earlier-preserved : goal.loop-earlier-preserved
loop-earlier-preserved g c = record {
  same = c.print_row.ensures.same ∙ c.loop-earlier.invariant.same;
  lines = λ content shows.
      let earlier = c.loop-earlier.earlier in
      rw (map-range_with_len_more (row_line c.args.names content c.args.table) 1 earlier (earlier + 1) (omega arith))
      (c.lines_follow.ensures.more _ _ _ _ _ (c.loop-earlier.invariant.lines content shows) (c.print_row.ensures.line content (rw c.loop-earlier.invariant.same shows)));
}

pub returns-clause-lines : goal.returns-clause-lines
unfolding first_lines heading_line
returns-clause-lines g c = λ content shows.
    let rows = g.R.ShownRows.ready_rows c.args.rows.now c.args.table in
    let some : rows ≢ 0 = λ none. c.if-ready-eq0.false (c.ready-ready.ensures ∙ none) in
    let all : c.ready-ready.result ≡ c.loop-earlier.earlier = omega arith in
    rw (ne_eqb rows 0 some, ← c.ready-ready.ensures, ← c.count.ensures content shows, ← c.number.ensures.value, ← c.name.ensures, all)
    (c.lines_follow.ensures.more _ _ _ _ _ c.line.ensures (c.loop-earlier.invariant.lines content shows))
