use Rattle.cli_regions.proofs.files.find_pe.Goals as goal

pub find_image-requires-clause-headers : goal.find_image-requires-clause-headers
find_image-requires-clause-headers c =
    let h = c.requires.rules in
    rw c.bytes.ensures (record { small = h.0; dos = h.1.0.0; optional = h.1.1.1.0.1; room = h.1.1.1.0.0; sections = h.1.1.1.1.1.1.1.0 })

pub returns : goal.returns
returns c = rw c.bytes.ensures at c.find_image.ensures
