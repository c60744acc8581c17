use Rattle.checks.proofs.Prelude.{rules, ◌≡◌, ◌∙◌, counted_text}
use Rattle.checks.proofs.Numbers.{number_holds, number_breaks, text_holds, text_breaks, text_counts, other_counts}
use Rattle.checks.proofs.counted_rows.cell_bytes.Goals as goal

pub returns-in-Ok-clause-holds : goal.returns-in-Ok-clause-holds
returns-in-Ok-clause-holds c =
    text_holds c.args.source.now c.args.table c.args.row c.args.column c.number-number.result c.column_at-held.result c.column_at-held.ensures c.number-number.ensures.value
    c.args.texts.now c.requires.texts c.in-Text.is c.in-Ok.ensures.reports

pub returns-in-Ok-clause-bytes : goal.returns-in-Ok-clause-bytes
returns-in-Ok-clause-bytes c =
    c.in-Ok.ensures.bytes
    ∙ text_counts c.args.source.now c.args.table c.args.row c.args.column c.number-number.result c.column_at-held.result c.column_at-held.ensures c.number-number.ensures.value
    c.args.texts.now c.requires.texts c.in-Text.is c.requires.read

pub returns-in-Err-clause-broken : goal.returns-in-Err-clause-broken
returns-in-Err-clause-broken c =
    text_breaks c.args.source.now c.args.table c.args.row c.args.column c.number-number.result c.column_at-held.result c.column_at-held.ensures c.number-number.ensures.value
    c.args.texts.now c.requires.texts c.in-Text.is _ c.in-Err.ensures.reports

pub returns-in-Ok-check_number-clause-holds : goal.returns-in-Ok-check_number-clause-holds
returns-in-Ok-check_number-clause-holds c =
    number_holds c.args.source.now c.args.table c.args.row c.args.column c.number-number.result c.column_at-held.result c.column_at-held.ensures c.number-number.ensures.value
    c.in-Ok-check_number.ensures

pub returns-in-Ok-check_number-clause-bytes : goal.returns-in-Ok-check_number-clause-bytes
returns-in-Ok-check_number-clause-bytes c =
    let none : counted_text c.args.source.now.source c.column_at-held.result.kind c.number-number.result ≡ 0 = search rules in
    other_counts c.args.source.now c.args.table c.args.row c.args.column c.number-number.result c.column_at-held.result c.column_at-held.ensures c.number-number.ensures.value none

pub returns-in-Err-check_number-clause-broken : goal.returns-in-Err-check_number-clause-broken
returns-in-Err-check_number-clause-broken c =
    number_breaks c.args.source.now c.args.table c.args.row c.args.column c.number-number.result c.column_at-held.result c.column_at-held.ensures c.number-number.ensures.value
    _ c.in-Err-check_number.ensures
