use Rattle.std.specs.Option.{option_map}
use Rattle.std.proofs.lemmas.Option.{slice_get-map}
use Rattle.cli_found.proofs.Prelude.{seen, ◌-◌, ap, length, length-map}
use Rattle.cli_found.proofs.lines.last_of.Goals as goal

pub returns : goal.returns
returns c =
    let of = c.args.structures.now in
    rw (c.copied.ensures, length-map of seen, slice_get-map seen of (length of - 1)) (ap (option_map seen) c.last.ensures.value)
