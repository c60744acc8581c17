use Rattle.std.proofs.Common.{rules}
use Rattle.cell_numbering.proofs.blob_uses.is_at.Goals as goal

pub returns-then-eq : goal.returns-then-eq
returns-then-eq c = λ t. record {
  kind = search rules;
  index = c.in-Some.index;
  index_is = search rules;
  given_is = c.in-Some.is;
}
