use Rattle.heaps.proofs.Prelude.{arith, eqb-true}
use Rattle.heaps.proofs.GuidLemmas.{full_at_most, room_below}
use Rattle.heaps.proofs.guid_pool.is_full.Goals as goal

pub returns-then-len-eq-MOST_GUIDS-clause-full : goal.returns-then-len-eq-MOST_GUIDS-clause-full
returns-then-len-eq-MOST_GUIDS-clause-full c =
    full_at_most c.args.guids.now.keys c.args.guid.now c.requires.sixteen c.requires.fits c.told-guid (omega arith) c.contains.result c.contains.ensures

pub returns-else-len-eq-MOST_GUIDS-clause-full : goal.returns-else-len-eq-MOST_GUIDS-clause-full
returns-else-len-eq-MOST_GUIDS-clause-full c =
    let fits = c.requires.fits in (
      λ most. absurd (c.if-len-eq-MOST_GUIDS.false (eqb-true _ _ most)),
      λ long. absurd (room_below c.args.guids.now.keys c.args.guid.now c.requires.sixteen c.requires.fits c.told-guid (omega arith) long),
    )
