use Rattle.root_writer.proofs.Facts.{Facts}
use Rattle.root_writer.proofs.Orders.{order_reported, order_reports}
use Rattle.root_writer.proofs.Whole.{is_model}
use Rattle.root_writer.proofs.canonical_laws.valid_models_are_encoded.Goals as goal

pub returns : goal.returns
returns c =
    let facts : Facts = record { encoded = c.numbers_are_encoded.ensures; encodes = c.shortest_encodes.ensures } in
    record {
      model = is_model facts;
      order = λ model valid table key keyed. (order_reported model valid table key keyed, order_reports model valid table key keyed);
    }
