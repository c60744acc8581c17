use Rattle.cli_regions.proofs.Prelude.{regions_at, joins_none}
use Rattle.cli_regions.proofs.searches.Search.look_at.Goals as goal

pub returns-then-has_byte : goal.returns-then-has_byte
unfolding regions_at
returns-then-has_byte c = let has = rw c.offset.ensures at c.has_byte.ensures in record { joins = rw (← has, c.if-has_byte.true) c.keep.ensures }

pub returns-else-has_byte : goal.returns-else-has_byte
unfolding regions_at
returns-else-has_byte c = let has = rw c.offset.ensures at c.has_byte.ensures in record { joins = rw (← has, c.if-has_byte.false) (joins_none c.args.self.now) }
