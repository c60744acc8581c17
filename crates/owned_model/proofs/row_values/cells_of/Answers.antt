use Rattle.owned_model.proofs.Prelude.{ap, slice_get, not_there, row_of, row_count}
use Rattle.type_records.specs.Shapes.{shape_of}
use Rattle.type_records.specs.Signatures.{read_or_none, encoded}
use Rattle.owned_model.proofs.KindLemmas.{kind_count, kind_stands, valid_row}
use Rattle.owned_model.proofs.RefRowLemmas.{held_stable, row_held, value_holds, row_said}
use Rattle.owned_model.proofs.row_values.cells_of.Goals as goal

pub returns-clause-held : goal.returns-clause-held
unfolding row_count
returns-clause-held c =
    row_held (record { table = c.args.table; values = c.values_of.result }) (λ cell_index kind at.
    held_stable (slice_get c.values_of.result cell_index) (shape_of kind) (λ none. not_there c.root-root.ensures.model (λ some.
    none (value_holds (record { table = c.args.table; values = c.values_of.result }) (row_of some.0 c.args.table c.args.row)
    (record {
      kinds = kind_stands c.args.table;
      count = kind_count c.args.table;
      are = valid_row some.0 (c.models_of_roots_are_valid.ensures c.args.view.now some.0 some.1) c.args.table c.args.row
          (c.requires.first, rw (c.models_are_read.ensures.count c.args.view.now some.0 some.1 c.args.table) c.requires.last);
      shown = c.values_of.ensures some.0 some.1;
    })
    cell_index kind at))))

pub returns-clause-model : goal.returns-clause-model
unfolding row_count encoded
returns-clause-model c = λ model is.
    row_said (λ column signature blob encodes. ap read_or_none (c.signatures_are_read.ensures.read column signature blob encodes)) (record { table = c.args.table; values = c.values_of.result }) (row_of model c.args.table c.args.row)
    (record {
      kinds = kind_stands c.args.table;
      count = kind_count c.args.table;
      are = valid_row model (c.models_of_roots_are_valid.ensures c.args.view.now model is) c.args.table c.args.row
          (c.requires.first, rw (c.models_are_read.ensures.count c.args.view.now model is c.args.table) c.requires.last);
      shown = c.values_of.ensures model is;
    })
