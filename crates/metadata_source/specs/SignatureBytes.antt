-- The bytes of a signature (ECMA-335 II.23.2).
use Rattle.std.specs.Prelude.{◌≡◌}
use Rattle.table_schema.specs.declared.column.SigKind.{SigKind}
use Rattle.sig_grammar.specs.Syntax.{Body}
use Rattle.sig_grammar.specs.Encodes.{Encodes, short}
use Rattle.metadata.specs.Cell.{Cell, Sig}
use Rattle.metadata_source.specs.declared.signature_bytes.SignatureBytes.{SignatureBytes}
use Rattle.metadata_source.specs.declared.signature_bytes.SignatureBytes.TheVariants.{Stored, Canonical}

-- a blob encodes the signature of the cell, in a column of a kind; or the bytes are its canonical encoding
abbrev pub AreBytesOf : SigKind → SignatureBytes → Cell → Type 0
AreBytesOf kind (Stored blob) cell = (signature : Body) × Encodes kind signature blob.now × (cell ≡ Sig signature)
AreBytesOf kind (Canonical bytes) cell = (signature : Body) × (bytes.items ≡ short signature) × (cell ≡ Sig signature)
