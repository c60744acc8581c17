use Rattle.c_texts.proofs.Prelude.{◌≡◌, true, refl, arith, subst, TableId, TypeDef, Field, MethodDef, Property, cell_columns, has_declaration, HasRow, cell_in, Scopes, method_in, on_wrote, property_in, IsDeclarationBy, IsPropertyDeclarationBy, IsMethodDeclaration, IsDeclaredProperty}
use Rattle.sig_text.specs.Declares.{as_method}
use Rattle.c_texts.proofs.row_text.write_whole.Goals as goal

-- only four tables have declarations
no_declaration : (table : TableId) → has_declaration table ≡ true → (table ≡ TypeDef → ⊥) → (table ≡ Field → ⊥) → (table ≡ MethodDef → ⊥)
    → (table ≡ Property → ⊥) → ⊥
no_declaration TypeDef has type field_row method property_row = type refl
no_declaration Field has type field_row method property_row = field_row refl
no_declaration MethodDef has type field_row method property_row = method refl
no_declaration Property has type field_row method property_row = property_row refl
no_declaration _ has type field_row method property_row = absurd cc

pub unreachable-requires : goal.unreachable-requires
unreachable-requires g c = no_declaration c.args.token.table (rw c.in-Declaration.is at c.requires.there) c.in_default.not-TypeDef c.in_default.not-Field c.in_default.not-MethodDef c.in_default.not-Property

pub returns-in-Name : goal.returns-in-Name
returns-in-Name g c = λ model is. rw c.in-Name.is (rw c.requires.omitted at (c.write_row_name.ensures model is))

pub returns-in-Field : goal.returns-in-Field
returns-in-Field g c = λ model is. rw (c.in-Declaration.is, c.in-Field.is) (c.write_field.ensures model is)

pub returns-in-MethodDef : goal.returns-in-MethodDef
unfolding cell_columns
returns-in-MethodDef g c = λ model is.
    let row = c.args.token.row in
    let rows = c.holds_one.ensures.rows model is MethodDef in
    let last = rw c.in-MethodDef.is at c.requires.last in
    let there : HasRow model MethodDef row = (c.requires.first, omega (arith, rows, last)) in
    let valid = (c.holds_one.ensures.valid model is).cells MethodDef row 4 there (omega arith) in
    let method = method_in (cell_in model MethodDef row 4) valid.of_kind valid.held in
    rw (c.in-Declaration.is, c.in-MethodDef.is) (on_wrote g.W.Write.write_str_gives (IsDeclarationBy g.L.Limit.scopes model row method.0) (IsMethodDeclaration model row) _ _ c.write_method_within.result
    (c.write_method_within.ensures.text model is method.0 method.1) (λ text declared. (method.0, method.1, subst (λ (s : Scopes). IsDeclarationBy s model row method.0 text) c.requires.omitted declared)))

pub returns-in-Property : goal.returns-in-Property
unfolding cell_columns
returns-in-Property g c = λ model is.
    let row = c.args.token.row in
    let rows = c.holds_one.ensures.rows model is Property in
    let last = rw c.in-Property.is at c.requires.last in
    let there : HasRow model Property row = (c.requires.first, omega (arith, rows, last)) in
    let valid = (c.holds_one.ensures.valid model is).cells Property row 2 there (omega arith) in
    let of = property_in (cell_in model Property row 2) valid.of_kind valid.held in
    rw (c.in-Declaration.is, c.in-Property.is) (on_wrote g.W.Write.write_str_gives (IsPropertyDeclarationBy g.L.Limit.scopes model row (as_method of.0 of.1 of.2)) (IsDeclaredProperty model row) _ _
    c.write_property_within.result (c.write_property_within.ensures.text model is of.0 of.1 of.2 of.3) (λ text declared.
    (of.0, of.1, of.2, of.3, subst (λ (s : Scopes). IsPropertyDeclarationBy s model row (as_method of.0 of.1 of.2) text) c.requires.omitted declared)))

pub returns-in_ok-write_type_def_within-in-TypeDef : goal.returns-in_ok-write_type_def_within-in-TypeDef
returns-in_ok-write_type_def_within-in-TypeDef g c = λ model is. rw (c.in-Declaration.is, c.in-TypeDef.is) (c.in_ok-write_type_def_within-in-TypeDef.ensures model is)
