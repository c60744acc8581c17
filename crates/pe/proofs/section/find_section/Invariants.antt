use Rattle.pe.proofs.Prelude.{◌≡◌, ◌+◌, ◌*◌, ◌-◌, find, sections_from, has_bytes}
use Rattle.pe.proofs.section.find_section.Given as goal

abbrev pub invariant-loop-number : goal.invariant-loop-number
invariant-loop-number l =
    find (has_bytes l.rva l.n) (sections_from l.bytes l.start l.count)
    ≡ find (has_bytes l.rva l.n) (sections_from l.bytes (l.start + 40 * l.number) (l.count - l.number))
