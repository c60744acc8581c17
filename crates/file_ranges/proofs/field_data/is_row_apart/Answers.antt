use Rattle.file_ranges.proofs.Prelude.{arith, false≢true}
use Rattle.file_ranges.proofs.field_data.is_row_apart.Goals as goal

pub returns-in-Ok : goal.returns-in-Ok
returns-in-Ok c =
    let rva = c.number-rva.ensures.value in
    let field = c.number-field.ensures.value in
    let index = c.number-index.ensures.value in (
      λ yes. record {
        first = omega (arith, field);
        last = omega (arith, field, c.count.ensures.value);
        signature = c.in-Ok.signature.now;
        is_signature = rw (c.blobs.ensures, index, field) at c.in-Ok.ensures.sound;
        apart = rw rva at (c.is_value_apart.ensures.0 yes);
      },
      λ apart.
          let same = c.in-Ok.ensures.complete apart.signature (rw (c.blobs.ensures, index, field) apart.is_signature) in
          c.is_value_apart.ensures.1 (rw (rva, same) apart.apart),
    )

pub returns-in-Err : goal.returns-in-Err
returns-in-Err c = (
  λ yes. absurd (false≢true yes),
  λ apart. absurd (c.in-Err.ensures.complete apart.signature (rw (c.blobs.ensures, c.number-index.ensures.value, c.number-field.ensures.value) apart.is_signature)),
)
