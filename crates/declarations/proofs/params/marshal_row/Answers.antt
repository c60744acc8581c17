use Rattle.declarations.proofs.Prelude.{subst, ∥∥₁_elim, ∥∥₁_map, FieldMarshal, AreLinksOf}
use Rattle.std.proofs.Props.{props}
use Rattle.declarations.proofs.MarshalLemmas.{first_there}
use Rattle.declarations.proofs.params.marshal_row.Goals as goal

pub returns-in-Some-clause-row : goal.returns-in-Some-clause-row
returns-in-Some-clause-row g c = λ model shown.
    ∥∥₁_elim c.requires.linked (hlevel props) (λ linked.
    c.first_linked.ensures.row model
    (subst (λ links. AreLinksOf model links) c.in-Some.is (linked model shown)))

pub returns-in-Some-clause-there : goal.returns-in-Some-clause-there
returns-in-Some-clause-there g c =
    first_there (g.S.ReadMetadata.row_count c.args.source.now FieldMarshal) c.args.param c.first_linked.result
    (∥∥₁_map c.holds_one.ensures.shown (λ some. (some.0, (c.holds_one.ensures.rows some.0 some.1 FieldMarshal, returns-in-Some-clause-row g c some.0 some.1))))

pub returns-in-None-clause-there : goal.returns-in-None-clause-there
returns-in-None-clause-there g c =
    first_there (g.S.ReadMetadata.row_count c.args.source.now FieldMarshal) c.args.param c.row_by_key.result
    (∥∥₁_map c.holds_one.ensures.shown (λ some. (some.0, (c.holds_one.ensures.rows some.0 some.1 FieldMarshal, c.row_by_key.ensures some.0 some.1))))
