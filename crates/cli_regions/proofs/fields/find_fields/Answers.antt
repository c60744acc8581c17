use Rattle.cli_regions.proofs.Prelude.{ap, arith, map, drop_all, drop_more, fields_from, seen_field, more_left, none_left}
use Rattle.cli_regions.proofs.fields.find_fields.Goals as goal

pub loop-field-preserved : goal.loop-field-preserved
loop-field-preserved c =
    let loop = c.loop-field in
    record {
      left = more_left _ _ loop.invariant.left (ap (λ left. fields_from c.args.word.now loop.next (map seen_field left)) (drop_more c.args.fields.now loop.field-index _ c.loop-field-test.true)) c.look_field.ensures;
      low = omega (arith, loop.invariant.low);
    }

pub returns : goal.returns
returns c =
    let loop = c.loop-field in
    none_left _ loop.invariant.left (ap (λ left. fields_from c.args.word.now loop.next (map seen_field left)) (drop_all loop.field-index c.args.fields.now c.loop-field-test.false))
