use Rattle.cli_contents.proofs.Prelude.{◌≡◌, here}
use Rattle.cli_contents.proofs.resource_line.print_located.Goals as goal

pub returns-in-Ok-Here : goal.returns-in-Ok-Here
returns-in-Ok-Here g c = λ file header model of is offset content located.
    let same = rw c.in-Ok-Here.field-0-is at (c.in-Ok-Here.ensures.complete file header model of is (here offset content) located) in
    let offsets : c.in-Ok-Here.content.offset ≡ offset = cc in
    let contents : c.in-Ok-Here.content.bytes.now ≡ content = cc in
    rw (← offsets, ← contents, ← c.text_or_empty-name.ensures model is) c.print_content.ensures

pub returns-in-Ok-Elsewhere : goal.returns-in-Ok-Elsewhere
returns-in-Ok-Elsewhere g c = λ file header model of is offset content located.
    let same = rw c.in-Ok-Elsewhere.field-0-is at (c.in-Ok-Elsewhere.ensures.complete file header model of is (here offset content) located) in
    absurd cc

pub returns-in-Err : goal.returns-in-Err
returns-in-Err g c = λ file header model of is offset content located. absurd (c.in-Err.ensures.complete file header model of is (here offset content) located)
