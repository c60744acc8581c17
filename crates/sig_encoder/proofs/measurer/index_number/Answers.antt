use Rattle.std.proofs.Common.{sym}
use Rattle.sig_encoder.proofs.Indexes.{code_none}
use Rattle.sig_encoder.proofs.measurer.index_number.Goals as goal

pub returns-in_err-number : goal.returns-in_err-number
returns-in_err-number c = rw c.from_residual.ensures (sym (code_none c.args.token c.in_err-number.ensures.complete))
