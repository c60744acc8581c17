use Rattle.root_writer.proofs.canonical_laws.sorted_bits_report_order.Goals as goal

pub returns : goal.returns
returns c = c.valid_models_are_encoded.ensures.order
