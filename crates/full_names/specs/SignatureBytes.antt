-- The bytes of a signature, stored or canonical (ECMA-335 II.23.2).
use Rattle.std.specs.Prelude.{ℕ, List}
use Rattle.metadata_source.specs.declared.signature_bytes.SignatureBytes.{SignatureBytes}
use Rattle.metadata_source.specs.declared.signature_bytes.SignatureBytes.TheVariants.{Stored, Canonical}

abbrev pub bytes_in : SignatureBytes → List ℕ
bytes_in (Stored blob) = blob.now
bytes_in (Canonical bytes) = bytes.items
