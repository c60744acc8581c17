use Rattle.reading.proofs.Prelude.{Some, ◌∙◌, ap, same_Some, Token}
use Rattle.reading.proofs.cell.coded_reference.Goals as goal

pub unreachable-requires : goal.unreachable-requires
unreachable-requires c = c.requires (λ some. let e = c.in-None.ensures.complete some.0 some.1 in absurd cc)

pub returns-clause-null : goal.returns-clause-null
returns-clause-null c = λ token is null.
    let same = same_Some c.in-Some.token token (c.in-Some.ensures.complete token is) in
    c.reference.ensures.null (ap (λ (t : Token). t.row) same ∙ null)

pub returns-clause-there : goal.returns-clause-there
returns-clause-there c = λ token is there.
    let same = same_Some c.in-Some.token token (c.in-Some.ensures.complete token is) in
    c.reference.ensures.there (rw (ap (λ (t : Token). t.row) same) there) ∙ ap Some same
