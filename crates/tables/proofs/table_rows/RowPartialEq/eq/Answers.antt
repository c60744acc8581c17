use Rattle.std.proofs.Common.{sym}
use Rattle.tables.proofs.SaidLemmas.{same_rows}
use Rattle.tables.proofs.table_rows.RowPartialEq.eq.Goals as goal

pub returns : goal.returns
returns c =
    rw (c.eq.ensures, c.as_slice.ensures.value, c.as_slice-2.ensures.value, ← c.self.view_is, ← c.other.view_is) (sym (same_rows c.self.inside.inner.items c.other.inside.inner.items))
