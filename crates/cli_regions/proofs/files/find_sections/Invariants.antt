use Rattle.cli_regions.proofs.Prelude.{flat_map, range_with_len, part_regions, Adds}
use Rattle.cli_regions.proofs.files.find_sections.Given as goal

abbrev pub invariant-loop-index : goal.invariant-loop-index
invariant-loop-index l = Adds l.initial.found l.found (flat_map (part_regions l.part l.file) (range_with_len 0 l.index))
