use Rattle.cli_where.proofs.Prelude.{◌≡◌, ◌∙◌, [], arith, eqb-true, inr, length, map, nil_from_length, refl, rules, sym, vec_len, seen, first_of}
use Rattle.cli_where.proofs.report.print_where.Goals as goal

pub returns-then-is_empty : goal.returns-then-is_empty
returns-then-is_empty g c =
    let found = c.in-Ok-structures_at.structures in
    let same : vec_len found ≡ length found.items = omega (arith, found.ok.0) in
    let none = nil_from_length found.items (eqb-true (length found.items) 0 (rw same at (sym c.is_empty.ensures ∙ c.if-is_empty.true))) in
    (c.in-Ok.ensures.sound, [], rw none at c.in-Ok-structures_at.ensures, refl, c.line.ensures)

pub returns-else-is_empty : goal.returns-else-is_empty
returns-else-is_empty g c =
    let found = c.in-Ok-structures_at.structures in
    let same : vec_len found ≡ length found.items = omega (arith, found.ok.0) in
    let printed : c.deref.result.now ≡ found.items = search rules in
    let some = first_of found.items (rw same at (sym c.is_empty.ensures ∙ c.if-is_empty.false)) in
    (c.in-Ok.ensures.sound, map seen found.items, c.in-Ok-structures_at.ensures, rw some.2 refl, rw printed at c.print_found.ensures)

pub returns-in-Ok-structures_at-2 : goal.returns-in-Ok-structures_at-2
returns-in-Ok-structures_at-2 g c =
    let found = c.in-Ok-structures_at-2.found.items in
    let printed : c.deref-in-Ok-structures_at-2.result.now ≡ found = search rules in
    inr (c.in-Err.fault, refl, c.in-Err.ensures.first_error, map seen found, c.in-Ok-structures_at-2.ensures, rw printed at c.print_structures.ensures)
