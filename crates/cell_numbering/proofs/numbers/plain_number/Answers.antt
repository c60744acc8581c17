use Rattle.cell_numbering.proofs.Prelude.{◌<◌, ◌≤◌, Option, subst, ⊎_elim, arith, cases_lt, Shows, CellRef, CanBeNumbered, IsInNoHeap}
use Rattle.table_schema.specs.declared.token.Token.{Token}
use Rattle.metadata.specs.Cell.{Cell as Says, Ref}
use Rattle.cell_numbering.proofs.KindLemmas.{sig_of}
use Rattle.cell_numbering.proofs.numbers.plain_number.Goals as goal

pub row_number-requires : goal.row_number-requires
row_number-requires c =
    let row = c.in-Ref-Some.token.row in
    ⊎_elim (λ (le : row < 16777216). let low : row ≤ 16777215 = omega arith in low) (λ (ge : 16777216 ≤ row). absurd (c.requires (λ some.
    let P : CellRef → Type 0 = λ seen. Shows c.args.kind seen some.0 in
    let shows = subst P c.in-Ref-Some.is some.1 in
    let named = subst (λ (cell : Says). CanBeNumbered cell) shows some.2 in
    let token = rw c.in-Ref-Some.is at c.in-Ref-Some.field-0-is in
    let low : row ≤ 16777215 = subst (λ (r : Option Token). CanBeNumbered (Ref r)) token named in
    omega (arith, low, ge)))) (cases_lt row 16777216)

pub unreachable-requires : goal.unreachable-requires
unreachable-requires c = c.requires (λ some.
    let P : CellRef → Type 0 = λ seen. Shows c.args.kind seen some.0 in
    subst IsInNoHeap (subst P c.in-Text.is some.1) some.3)

pub unreachable-requires-in-Guid : goal.unreachable-requires-in-Guid
unreachable-requires-in-Guid c = c.requires (λ some.
    let P : CellRef → Type 0 = λ seen. Shows c.args.kind seen some.0 in
    subst IsInNoHeap (subst P c.in-Guid.is some.1) some.3)

pub unreachable-requires-in-Bytes : goal.unreachable-requires-in-Bytes
unreachable-requires-in-Bytes c = c.requires (λ some.
    let P : CellRef → Type 0 = λ seen. Shows c.args.kind seen some.0 in
    subst IsInNoHeap (subst P c.in-Bytes.is some.1) some.3)

pub unreachable-requires-in-Sig : goal.unreachable-requires-in-Sig
unreachable-requires-in-Sig c = c.requires (λ some.
    let P : CellRef → Type 0 = λ seen. Shows c.args.kind seen some.0 in
    sig_of c.args.kind c.in-Sig.field-0.now some.0 (subst P c.in-Sig.is some.1) some.3)
