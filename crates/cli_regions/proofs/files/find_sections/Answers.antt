use Rattle.cli_regions.proofs.Prelude.{◌≡◌, arith, part_regions, section_count, adds_none, and_then, numbered_more}
use Rattle.cli_regions.proofs.files.find_sections.Goals as goal

pub loop-index-init : goal.loop-index-init
loop-index-init c = adds_none c.args.found.now

pub loop-index-preserved : goal.loop-index-preserved
loop-index-preserved c = rw (← numbered_more (part_regions c.args.part c.args.file.now) 0 c.loop-index.index c.loop-index.index (omega arith)) (and_then c.loop-index.invariant c.find_part.ensures)

pub returns : goal.returns
returns c =
    let all : section_count c.args.file.now ≡ c.loop-index.index = omega (arith, c.loop-index-test.false, c.requires.count) in
    rw all c.loop-index.invariant
