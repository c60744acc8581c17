use Rattle.file_ranges.proofs.Prelude.{◌≡◌, ◌-◌, ◌<◌, ◌^◌, data_end}
use Rattle.file_ranges.proofs.bodies.data_end.Given as goal

-- what is left of the data sections gives the end
abbrev pub invariant-loop-number : goal.invariant-loop-number
invariant-loop-number l = (l.end < 2 ^ 33) × (data_end l.bytes (64 - l.number) l.end ≡ data_end l.bytes 64 l.code_end)
