use Rattle.table_schema.specs.CodedIndexes.{tables_of}
use Rattle.table_schema.proofs.CodedLemmas.{named_at, unnamed_at}
use Rattle.table_schema.proofs.coded_index.table_of.Goals as goal

pub returns-clause-sound : goal.returns-clause-sound
returns-clause-sound c =
    let lookup = c.in_ok-get.ensures.lookup in
    named_at (tables_of c.args.coded) c.tables.result.now c.args.tag c.in_ok-get.field-0.now c.tables.ensures lookup.3.0 lookup.1

pub returns-clause-none : goal.returns-clause-none
returns-clause-none c =
    let lookup = c.in_ok-get.ensures.lookup in
    unnamed_at (tables_of c.args.coded) c.tables.result.now c.args.tag c.in_ok-get.field-0.now c.tables.ensures lookup.3.0 lookup.1
