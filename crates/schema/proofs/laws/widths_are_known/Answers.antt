use Rattle.schema.proofs.Prelude.{refl, width_of}
use Rattle.schema.proofs.TableLayoutLemmas.{width_known}
use Rattle.schema.proofs.laws.widths_are_known.Goals as goal

pub returns : goal.returns
returns c = λ sizes column. width_known sizes column (width_of sizes column) refl
