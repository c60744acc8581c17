use Rattle.cli_where.proofs.Prelude.{refl, finds_none, finds_then}
use Rattle.cli_where.proofs.walk.find_in_heaps.Goals as goal

pub returns-in-Cells : goal.returns-in-Cells
returns-in-Cells c = rw c.in-Cells.is (finds_none _ c.args.found.now refl)

pub returns-in-Entries : goal.returns-in-Entries
returns-in-Entries c =
    let entries = rw (c.heap_in-texts.ensures.heap, c.heap_in.ensures.heap, c.heap_in-in-Entries.ensures.heap) at c.find_entries.ensures in
    rw c.in-Entries.is (finds_then entries (rw c.heap_in-users.ensures.heap at c.find_user_strings.ensures))
