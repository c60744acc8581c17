use Rattle.sig_text.specs.Shown.{shape_shown}
use Rattle.sig_text.proofs.Chains.{and_then, pieces_first, pieces_last}
use Rattle.sig_text.proofs.shape.shape.Goals as goal

pub returns : goal.returns
unfolding shape_shown
returns g c =
    rw (← c.number-rank.ensures, ← c.number-size_count.ensures, ← c.behind_numbers.ensures, ← c.number-low_count.ensures, ← c.written_dimensions-written.ensures, ← c.is_unbounded.ensures)
    (pieces_first c.put_text.ensures (pieces_first c.put_if.ensures (pieces_last c.dimensions-tail.ensures (and_then c.unwritten.ensures c.put_text-2.ensures))))
