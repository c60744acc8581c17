use Rattle.checks.proofs.Prelude.{ℕ, List, inl, inr, refl, subst, ◌∙◌, IsBlob}
use Rattle.table_schema.specs.declared.column.ColumnKind.TheVariants as kind
use Rattle.checks.proofs.Columns.{passed_stands, plain_stands}
use Rattle.checks.proofs.cell_checks.first_in_column.Goals as goal

pub returns-in-U8-clause-stands : goal.returns-in-U8-clause-stands
returns-in-U8-clause-stands c =
    plain_stands c.args.source.now c.args.table c.args.column c.args.limit c.column_at.result c.column_at.ensures c.in-U8.is

pub returns-in-Text-clause-stands : goal.returns-in-Text-clause-stands
returns-in-Text-clause-stands c =
    passed_stands c.args.source.now c.args.table c.args.column _ c.column_at.result c.column_at.ensures _ kind.Text c.in-Text.is
    c.first_without_text.ensures.passed (λ number passed. passed)

pub returns-in-Guid-clause-stands : goal.returns-in-Guid-clause-stands
returns-in-Guid-clause-stands c =
    passed_stands c.args.source.now c.args.table c.args.column _ c.column_at.result c.column_at.ensures _ kind.Guid c.in-Guid.is
    c.first_refused.ensures.passed (λ number passed. passed)

pub returns-in-Blob-clause-stands : goal.returns-in-Blob-clause-stands
returns-in-Blob-clause-stands c =
    let same = c.new-blobs.ensures ∙ c.blobs.ensures in
    elim c.in-Blob.is [
      | inl of_kind ↦
          passed_stands c.args.source.now c.args.table c.args.column _ c.column_at.result c.column_at.ensures _ kind.Blob of_kind
          c.first_failing.ensures.passed (λ number passed offset. (subst (λ heap. (blob : List ℕ) × IsBlob heap number blob) same (passed refl), tt))
      | inr of_kind ↦
          passed_stands c.args.source.now c.args.table c.args.column _ c.column_at.result c.column_at.ensures _ (kind.Signature of_kind.0) of_kind.1
          c.first_failing.ensures.passed (λ number passed offset. (subst (λ heap. (blob : List ℕ) × IsBlob heap number blob) same (passed refl), tt))
    ]
