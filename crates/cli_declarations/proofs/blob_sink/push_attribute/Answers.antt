use Rattle.cli_declarations.proofs.Prelude.{refl, bytes_value}
use Rattle.cli_declarations.proofs.PieceLemmas.{on_ok}
use Rattle.cli_declarations.proofs.blob_sink.push_attribute.Goals as goal

pub returns-in-Some : goal.returns-in-Some
returns-in-Some c = λ model is. rw (← c.bytes_or_empty-blob.ensures model is, ← c.in-Some.ensures model is, ← c.as_slice.ensures) c.push_value.ensures

pub returns-in-None : goal.returns-in-None
returns-in-None c = λ model is.
    rw (← c.bytes_or_empty-blob.ensures model is, ← c.in-None.ensures model is) (on_ok c.push_bytes_value.result c.push_bytes_value.ensures (λ e. (bytes_value c.bytes_or_empty-blob.result.now, refl, e)))
