use Rattle.cli_declarations.proofs.Prelude.{string_bytes, ◌≡◌, [], ℕ, refl, sym, append-nil, arith, TableId, CustomAttribute, Field, MethodDef, Property, cell_columns, HasRow, Metadata, cell_in, row_count, method_in, property_in, IsDeclarationAt}
use Rattle.cli_declarations.proofs.PieceLemmas.{on_ok, some_gained}
use Rattle.cli_declarations.proofs.blob_sink.push_declaration.Goals as goal

other_table : (model : Metadata) (table : TableId) (row : ℕ) → (table ≡ Field → ⊥) → (table ≡ MethodDef → ⊥) → (table ≡ Property → ⊥) → (table ≡ CustomAttribute → ⊥) → IsDeclarationAt model table row []
other_table model Field row field method property attribute = absurd (field refl)
other_table model MethodDef row field method property attribute = absurd (method refl)
other_table model Property row field method property attribute = absurd (property refl)
other_table model CustomAttribute row field method property attribute = absurd (attribute refl)
other_table model _ row field method property attribute = refl

pub returns-in-Field : goal.returns-in-Field
returns-in-Field c = λ model is. rw c.in-Field.is (c.push_signature.ensures model is)

pub returns-in-MethodDef : goal.returns-in-MethodDef
unfolding row_count cell_columns
returns-in-MethodDef c = λ model is.
    let count = c.models_are_read.ensures.count c.args.source.now.view.now model is MethodDef in
    let last = rw c.in-MethodDef.is at c.requires.last in
    let there : HasRow model MethodDef c.args.row = (c.requires.first, omega (arith, count, last)) in
    let valid = (c.models_of_roots_are_valid.ensures c.args.source.now.view.now model is).cells MethodDef c.args.row 4 there (omega arith) in
    let method = method_in (cell_in model MethodDef c.args.row 4) valid.of_kind valid.held in
    rw c.in-MethodDef.is (on_ok c.end_text.result (some_gained c.args.declared.now c.begin_text.new.declared c.write_method_of-written.new.out c.end_text.new.declared c.write_method_of-written.result c.end_text.result c.begin_text.ensures c.end_text.ensures _ (c.write_method_of-written.ensures.text model is method.0 method.1)) (λ gains.
    (gains.0, (method.0, method.1, gains.1.0, gains.1.1, gains.1.2), gains.2)))

pub returns-in-Property : goal.returns-in-Property
unfolding row_count cell_columns
returns-in-Property c = λ model is.
    let count = c.models_are_read.ensures.count c.args.source.now.view.now model is Property in
    let last = rw c.in-Property.is at c.requires.last in
    let there : HasRow model Property c.args.row = (c.requires.first, omega (arith, count, last)) in
    let valid = (c.models_of_roots_are_valid.ensures c.args.source.now.view.now model is).cells Property c.args.row 2 there (omega arith) in
    let form = property_in (cell_in model Property c.args.row 2) valid.of_kind valid.held in
    rw c.in-Property.is (on_ok c.end_text-in-Property.result (some_gained c.args.declared.now c.begin_text-in-Property.new.declared c.write_property_within-written.new.out c.end_text-in-Property.new.declared c.write_property_within-written.result c.end_text-in-Property.result c.begin_text-in-Property.ensures c.end_text-in-Property.ensures _ (c.write_property_within-written.ensures.text model is form.0 form.1 form.2 form.3)) (λ gains.
    (gains.0, (form.0, form.1, form.2, form.3, gains.1.0, gains.1.1, gains.1.2), gains.2)))

pub returns-in-CustomAttribute : goal.returns-in-CustomAttribute
returns-in-CustomAttribute c = λ model is. rw c.in-CustomAttribute.is (c.push_attribute.ensures model is)

pub returns-in_default : goal.returns-in_default
returns-in_default c = λ model is.
    ([], other_table model c.args.table c.args.row c.in_default.not-Field c.in_default.not-MethodDef c.in_default.not-Property c.in_default.not-CustomAttribute, sym (append-nil (string_bytes c.args.declared.now.text)))
