use Rattle.cli_contents.proofs.Prelude.{[], ◌∷◌, refl, resource_line}
use Rattle.cli_contents.proofs.resource_line.print_resource.Goals as goal

pub returns-in_default : goal.returns-in_default
returns-in_default g c = λ header model file is. absurd (c.in_default.ensures.complete file.image file.is_image)

pub returns-in_default-read_cli : goal.returns-in_default-read_cli
returns-in_default-read_cli g c = λ header model file is.
    absurd (c.in_default-read_cli.ensures.complete header (rw (c.in-Ok.ensures.complete file.image file.is_image) file.is_header))

pub returns-in-Some : goal.returns-in-Some
returns-in-Some g c = λ header model file is.
    let same = c.in-Ok-read_cli.ensures.complete header (rw (c.in-Ok.ensures.complete file.image file.is_image) file.is_header) in
    let of = rw same at c.directory_of-directory.ensures in
    let first = c.in-Some.ensures.sound c.args.file.now header model of is in
    let has = first.has in (
      resource_line model c.in-Some.row has.offset has.content ∷ [],
      (c.in-Some.row, first, refl),
      c.print_located.ensures c.args.file.now header model of is has.offset has.content has.is_location,
    )

pub returns-in-None : goal.returns-in-None
returns-in-None g c = λ header model file is.
    let same = c.in-Ok-read_cli.ensures.complete header (rw (c.in-Ok.ensures.complete file.image file.is_image) file.is_header) in
    ([], c.in-None.ensures.none c.args.file.now header model (rw same at c.directory_of-directory.ensures) is, c.lines_follow.ensures.nothing _)
