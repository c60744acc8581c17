use Rattle.cli_contents.proofs.Prelude.{arith, refl, le-leb, lt-leb}
use Rattle.pe.specs.Headers.{section_count}
use Rattle.cli_contents.proofs.lines.image_in.Goals as goal

pub returns-in_default-clause-image : goal.returns-in_default-clause-image
returns-in_default-clause-image c = λ image is. absurd (c.in_default.ensures.complete image is)

pub returns-then-section_count-le-SECTION_LIMIT-clause-image : goal.returns-then-section_count-le-SECTION_LIMIT-clause-image
returns-then-section_count-le-SECTION_LIMIT-clause-image c = λ image is.
    let count = rw c.read.ensures at c.section_count.ensures.value in
    rw (← c.in-Ok.ensures.complete image is, c.in-Ok.ensures.all.1) (refl, le-leb (section_count c.args.file.now) 96 (omega arith))

pub returns-else-section_count-le-SECTION_LIMIT-clause-image : goal.returns-else-section_count-le-SECTION_LIMIT-clause-image
returns-else-section_count-le-SECTION_LIMIT-clause-image c = λ image is.
    let count = rw c.read.ensures at c.section_count.ensures.value in
    rw (← c.in-Ok.ensures.complete image is, c.in-Ok.ensures.all.1) (lt-leb (section_count c.args.file.now) 96 (omega arith))
