use Rattle.std.proofs.Common.{refl}
use Rattle.sig_grammar.specs.Views.{body_of}
use Rattle.sig_encoder.proofs.Found.{first_found}
use Rattle.sig_encoder.proofs.row_checker.first_bad.Goals as goal

pub returns : goal.returns
returns c = first_found c.items_are_parts.ensures.parts c.visit_body.result (body_of c.args.body.now) 255 _ _ refl c.visit_body.ensures
