use Rattle.std.proofs.Common.{rules, ◌≡◌, ℕ, Option, Some, None, IfSome, ◌∙◌, ap, sym, refl}
use Rattle.checks.proofs.Prelude.{Column, rows_in, walked_in, column_walked}
use Rattle.table_schema.specs.declared.column.ColumnKind.TheVariants as kind
use Rattle.checks.proofs.Columns.{passed_encodes, refused_breaks, none_asked}
use Rattle.checks.proofs.Spending.{spends_any}
use Rattle.checks.proofs.Walks.{walk_spends, walk_takes, walk_below, unwalked_takes}
use Rattle.checks.proofs.signature_checks.first_in_column.Goals as goal

some_weaker : (P Q : ℕ → Type 0) (o : Option ℕ) → ((x : ℕ) → P x → Q x) → IfSome o P → IfSome o Q
some_weaker P Q None weaker is = tt
some_weaker P Q (Some x) weaker is = weaker x is

pub first_not_encoded-requires-clause-kind : goal.first_not_encoded-requires-clause-kind
first_not_encoded-requires-clause-kind c = sym (ap (λ (held : Column). held.kind) c.column_at.ensures) ∙ c.in-Signature.is

pub returns-in-Signature-clause-encodes : goal.returns-in-Signature-clause-encodes
returns-in-Signature-clause-encodes c =
    some_weaker _ _ c.first_not_encoded.result
    (λ row encoded. passed_encodes c.args.source.now c.args.table c.args.column row c.column_at.result c.column_at.ensures _
    (kind.Signature c.in-Signature.encoded) c.in-Signature.is encoded (λ number passed. passed))
    c.first_not_encoded.ensures.encoded

pub returns-in-Signature-clause-broken : goal.returns-in-Signature-clause-broken
returns-in-Signature-clause-broken c =
    some_weaker _ _ c.first_not_encoded.result
    (λ row broken before. refused_breaks c.args.source.now c.args.table c.args.column row c.column_at.result c.column_at.ensures
    (kind.Signature c.in-Signature.encoded) c.in-Signature.is row (broken before))
    c.first_not_encoded.ensures.broken

pub returns-in-Signature-clause-spends : goal.returns-in-Signature-clause-spends
returns-in-Signature-clause-spends c =
    walk_spends c.args.source.now.source c.args.table c.args.column c.args.limit c.in-Signature.encoded (sym (ap (λ (held : Column). held.kind) c.column_at.ensures) ∙ c.in-Signature.is) c.requires.last
    c.args.budget.now c.first_not_encoded.new.budget c.first_not_encoded.result c.first_not_encoded.ensures.walked

pub returns-in-Signature-clause-takes : goal.returns-in-Signature-clause-takes
returns-in-Signature-clause-takes c =
    walk_takes c.args.source.now.source c.args.table c.args.column c.args.limit c.in-Signature.encoded (sym (ap (λ (held : Column). held.kind) c.column_at.ensures) ∙ c.in-Signature.is) c.requires.last
    c.args.budget.now c.first_not_encoded.new.budget c.first_not_encoded.result c.first_not_encoded.ensures.walked

pub returns-in-Signature-clause-spent : goal.returns-in-Signature-clause-spent
returns-in-Signature-clause-spent c =
    walk_below c.args.source.now.source c.args.table c.args.column c.args.limit c.in-Signature.encoded (sym (ap (λ (held : Column). held.kind) c.column_at.ensures) ∙ c.in-Signature.is) c.requires.last
    c.requires.first c.args.budget.now c.first_not_encoded.result c.first_not_encoded.ensures.spent

pub returns-in_default-clause-encodes : goal.returns-in_default-clause-encodes
returns-in_default-clause-encodes c =
    passed_encodes c.args.source.now c.args.table c.args.column _ c.column_at.result c.column_at.ensures _
    c.column_at.result.kind refl (none_asked c.args.source.now c.args.table c.args.column c.args.limit) (λ number passed offset. search rules)

pub returns-in_default-clause-spends : goal.returns-in_default-clause-spends
returns-in_default-clause-spends c =
    spends_any c.args.budget.now (column_walked c.args.source.now.source c.args.table c.args.column)

pub returns-in_default-clause-takes : goal.returns-in_default-clause-takes
returns-in_default-clause-takes c = λ past.
    let none : walked_in c.args.source.now.source c.args.table c.args.column c.column_at.result.kind (rows_in c.args.source.now.source c.args.table) ≡ 0 = search rules in
    unwalked_takes c.args.source.now.source c.args.table c.args.column c.column_at.result c.column_at.ensures none c.args.budget.now
