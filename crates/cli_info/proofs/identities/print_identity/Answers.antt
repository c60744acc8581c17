use Rattle.std.proofs.Common.{◌≡◌, ◌+◌, arith}
use Rattle.cli_info.proofs.Prelude.{identity_line}
use Rattle.cli_info.proofs.identities.print_identity.Goals as goal

pub returns-in_default : goal.returns-in_default
returns-in_default g c = λ model is. c.fail.ensures.lines _

pub returns : goal.returns
unfolding identity_line
returns g c = λ model is.
    let none : c.shape-table.result.1 + 0 ≡ c.shape-table.result.1 = omega arith in
    rw (← c.shape-table.ensures.word, ← c.shape-table.ensures.name, ← c.shape-table.ensures.table, ← c.shape-table.ensures.first, none)
    (rw (← c.number_or_zero-major.ensures model is, ← c.number_or_zero-minor.ensures model is, ← c.number_or_zero-build.ensures model is, ← c.number_or_zero-revision.ensures model is)
    (rw (← c.number_or_zero-flags.ensures model is, ← c.bytes_or_empty-key.ensures model is, ← c.text_or_empty-own_name.ensures model is, ← c.text_or_empty.ensures model is, ← c.culture_text-culture.ensures)
    (rw (← c.in-Ok-Ok-Ok.ensures, ← c.in-Ok-Ok-Ok.ensures', ← c.in-Ok-Ok-Ok.ensures'', ← c.deref.ensures, ← c.deref-2.ensures, ← c.deref-3.ensures) c.line.ensures)))
