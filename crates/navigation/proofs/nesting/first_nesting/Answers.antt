use Rattle.navigation.proofs.Prelude.{NestedClass, ∥∥₁_map}
use Rattle.navigation.proofs.NestingLemmas.{first_nests, none_nests, first_there}
use Rattle.navigation.proofs.nesting.first_nesting.Goals as goal

pub returns-clause-sound : goal.returns-clause-sound
returns-clause-sound g c = λ model shown.
    first_nests model c.args.row c.rows_by_key-nestings.result.rows c.next.new.self.rows c.rows_by_key-nestings.ensures.ascending
    (c.rows_by_key-nestings.ensures.rows model shown) c.next.result c.next.ensures.steps.0

pub returns-clause-none : goal.returns-clause-none
returns-clause-none g c = λ model shown.
    none_nests model c.args.row c.rows_by_key-nestings.result.rows c.next.new.self.rows c.rows_by_key-nestings.ensures.ascending
    (c.rows_by_key-nestings.ensures.rows model shown) c.next.result c.next.ensures.steps.0

pub returns-clause-there : goal.returns-clause-there
returns-clause-there g c = first_there c.args.row (g.S.ReadMetadata.row_count c.args.source.now NestedClass) c.next.result
    (∥∥₁_map c.holds_one.ensures.shown (λ some. (
      some.0,
      (
        c.holds_one.ensures.rows some.0 some.1 NestedClass,
        first_nests some.0 c.args.row c.rows_by_key-nestings.result.rows c.next.new.self.rows c.rows_by_key-nestings.ensures.ascending
            (c.rows_by_key-nestings.ensures.rows some.0 some.1) c.next.result c.next.ensures.steps.0,
      ),
    )))
