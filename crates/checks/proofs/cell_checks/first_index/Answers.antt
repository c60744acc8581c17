use Rattle.std.proofs.Common.{refl, arith}
use Rattle.table_schema.specs.declared.column.ColumnKind.TheVariants as kind
use Rattle.checks.proofs.Columns.{passed_stands}
use Rattle.checks.proofs.cell_checks.first_index.Goals as goal

pub returns-in-Row-clause-stands : goal.returns-in-Row-clause-stands
returns-in-Row-clause-stands c =
    passed_stands c.args.source.now c.args.table c.args.column _ c.column_at-held.result c.column_at-held.ensures _ (kind.Row c.in-Row.named) c.in-Row.is
    c.first_failing.ensures.passed (λ number passed. passed c.args.source.now.source c.in-Row.named (omega (arith, c.count-last.ensures.value)) refl)

pub returns-in-Coded-clause-stands : goal.returns-in-Coded-clause-stands
returns-in-Coded-clause-stands c =
    passed_stands c.args.source.now c.args.table c.args.column _ c.column_at-held.result c.column_at-held.ensures _ (kind.Coded c.in-Coded.coded) c.in-Coded.is
    c.first_failing-in-Coded.ensures.passed (λ number passed. passed c.args.source.now.source c.limits_by_tag-limits.ensures refl)

pub returns-in-List-clause-stands : goal.returns-in-List-clause-stands
returns-in-List-clause-stands c =
    passed_stands c.args.source.now c.args.table c.args.column _ c.column_at-held.result c.column_at-held.ensures _ (kind.List c.in-List.member) c.in-List.is
    c.first_failing-in-List.ensures.passed (λ number passed. passed c.args.source.now.source c.in-List.member (omega (arith, c.count.ensures.value)) refl)

pub returns-in_default-clause-stands : goal.returns-in_default-clause-stands
returns-in_default-clause-stands c = record { each = λ row first before. absurd (omega arith) }
