use Rattle.std.proofs.Common.{Ok, Err}
use Rattle.checks.proofs.Encodings.{encoding_reports}
use Rattle.checks.proofs.signature_checks.check_signature.Goals as goal

pub returns-in-Ok : goal.returns-in-Ok
returns-in-Ok c =
    encoding_reports c.args.source.now c.args.table c.args.row c.args.column c.number-number.result c.column_at-held.result {X = Unit {0}} (Ok c.in-Ok.field-0) c.column_at-held.ensures c.number-number.ensures.value c.in-Ok.ensures

pub returns-in-Err : goal.returns-in-Err
returns-in-Err c =
    rw c.fault.ensures (encoding_reports c.args.source.now c.args.table c.args.row c.args.column c.number-number.result c.column_at-held.result {X = Unit {0}} (Err c.in-Err.code) c.column_at-held.ensures c.number-number.ensures.value c.in-Err.ensures)
