use Rattle.std.proofs.Common.{take}
use Rattle.cell_numbering.specs.StartGroups.{AreStartGroups}
use Rattle.cell_numbering.proofs.start_groups.StartGroups.of.Given as goal

-- the first starts are in groups
abbrev pub invariant-loop-start : goal.invariant-loop-start
invariant-loop-start l = AreStartGroups l.groups.starts.items l.groups.of_use.items (take l.start-index l.starts)
