use Rattle.checks.proofs.Prelude.{◌+◌, ◌*◌, ◌/◌, arith, div-add-mod'}
use Rattle.checks.proofs.TextLemmas.{starts_set, reaches_less, part_reached}
use Rattle.checks.proofs.texts.keep_text.Goals as goal

pub keep_endings-requires-clause-starts : goal.keep_endings-requires-clause-starts
keep_endings-requires-clause-starts c =
    let heap = c.args.heap.now in
    let part = c.args.part in
    let slot = c.args.index / part in
    starts_set heap part c.args.starts.now slot c.args.index c.requires.starts (omega arith) (omega (arith, div-add-mod' c.args.index part))
    (reaches_less heap c.args.index c.args.reach ((slot + 1) * part) c.requires.reaches (part_reached slot part c.args.reach (omega arith)))

pub returns-else-is_new-clause-starts : goal.returns-else-is_new-clause-starts
returns-else-is_new-clause-starts c =
    let heap = c.args.heap.now in
    let part = c.args.part in
    let slot = c.args.index / part in
    starts_set heap part c.args.starts.now slot c.args.index c.requires.starts (omega arith) (omega (arith, div-add-mod' c.args.index part))
    (reaches_less heap c.args.index c.args.reach ((slot + 1) * part) c.requires.reaches (part_reached slot part c.args.reach (omega arith)))
