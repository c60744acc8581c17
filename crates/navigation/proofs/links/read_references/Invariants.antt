use Rattle.navigation.proofs.Prelude.{◌≡◌, ◌-◌, keyed_rows, number_in}
use Rattle.navigation.proofs.links.read_references.Given as goal

-- the rows before this one are read
abbrev pub invariant-loop-row : goal.invariant-loop-row
invariant-loop-row l = l.read.items ≡ keyed_rows (number_in l.view l.link) 1 (l.row - 1)
