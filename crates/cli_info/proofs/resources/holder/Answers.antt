use Rattle.cli_info.proofs.Prelude.{◌≡◌, ℕ, [], refl, TableId, AssemblyRef, ExportedType, File, Metadata, field, text, holder}
use Rattle.cli_lines.specs.declared.names.Name.TheVariants as name
use Rattle.cli_info.proofs.resources.holder.Goals as goal

other_holder : (model : Metadata) (table : TableId) (row : ℕ) → (table ≡ File → ⊥) → (table ≡ AssemblyRef → ⊥) → (table ≡ ExportedType → ⊥)
    → field name.Type (text []) ≡ holder model table row
other_holder model File row a b d = absurd (a refl)
other_holder model AssemblyRef row a b d = absurd (b refl)
other_holder model ExportedType row a b d = absurd (d refl)
other_holder model _ row a b d = refl

pub returns-in-File : goal.returns-in-File
returns-in-File c = λ model is. rw (c.in-File.is, c.text_or_empty.ensures model is)

pub returns-in-AssemblyRef : goal.returns-in-AssemblyRef
returns-in-AssemblyRef c = λ model is. rw (c.in-AssemblyRef.is, c.text_or_empty-in-AssemblyRef.ensures model is)

pub returns-in-ExportedType : goal.returns-in-ExportedType
returns-in-ExportedType c = λ model is. rw (c.in-ExportedType.is, c.text_or_empty-in-ExportedType.ensures model is)

pub returns-in_default : goal.returns-in_default
returns-in_default c = λ model is.
    other_holder model c.args.of.table c.args.of.row c.in_default.not-File c.in_default.not-AssemblyRef c.in_default.not-ExportedType
