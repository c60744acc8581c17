use Rattle.std.proofs.Common.{arith, ◌*◌, drop, refl, rules, take}
use Rattle.std.proofs.lemmas.List.{length-drop}
use Rattle.heap_entries.proofs.GuidLemmas.{guid_stands}
use Rattle.cli_where.proofs.entries.guid_at.Goals as goal

pub returns-clause-sound : goal.returns-clause-sound
returns-clause-sound c =
    let heap = c.args.target.now.guids.bytes.now in
    let number = c.args.index in
    let start = 16 * c.from-before.result in (
      record {
        some = omega (arith, c.in_ok-checked_sub.ensures.0);
        guid = take 16 (drop start heap);
        stands = guid_stands heap number start (drop start heap) (take 16 (drop start heap)) (omega (arith, c.in_ok-checked_sub.ensures, c.from-before.ensures))
            (omega (arith, c.if-before-target.false)) refl (omega (arith, c.if-before-target.false, length-drop start heap)) refl;
        from = omega (arith, c.in_ok-checked_sub.ensures, c.from-before.ensures);
        long = refl;
      },
      search rules,
    )
