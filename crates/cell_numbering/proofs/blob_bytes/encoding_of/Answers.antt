use Rattle.std.proofs.Common.{Err, ap}
use Rattle.cell_numbering.proofs.blob_bytes.encoding_of.Goals as goal

pub unreachable-requires : goal.unreachable-requires
unreachable-requires c = c.requires (c.in-Err-Bad.ensures.bad.0 (ap Err c.in-Err-Bad.field-0-is))
