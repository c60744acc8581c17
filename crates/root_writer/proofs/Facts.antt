-- The laws of the crates below, as one record.
use Rattle.root_writer.proofs.Prelude.{ℕ, ◌^◌, ◌<◌, IsNumber, number_bytes, Body, Holds, Encodes, IsEncodable, short}
use Rattle.table_schema.specs.declared.column.SigKind.{SigKind}

pub record Facts : Type 0 where
  pub encoded : (width number : ℕ) → number < 256 ^ width → IsNumber width (number_bytes width number) number
  pub encodes : (kind : SigKind) (signature : Body) → Holds kind signature → IsEncodable signature → Encodes kind signature (short signature)
