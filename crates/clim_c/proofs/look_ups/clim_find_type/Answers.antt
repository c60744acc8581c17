use Rattle.clim_c.proofs.Prelude.{◌≡◌, ℕ, List, IsUtf8, subst, arith, TypeDef, cell_columns, Cell, cell_in}
use Rattle.metadata.specs.Cell.{Text}
use Rattle.metadata.specs.Kinds.{IsStorable}
use Rattle.clim_c.proofs.look_ups.clim_find_type.Goals as goal

-- a text that a heap can store is UTF-8
utf8_of : (cell : Cell) (text : List ℕ) → cell ≡ Text text → IsStorable cell → IsUtf8 text
utf8_of cell text is held = let there = subst IsStorable is held in there.1

pub returns-in_default-clause-none : goal.returns-in_default-clause-none
unfolding cell_columns
returns-in_default-clause-none c = λ is_open zero model is row there names.
    let valid = c.models_of_roots_are_valid.ensures c.args.view.now.root.now model is in
    c.in_default.ensures'.cases.0 (utf8_of (cell_in model TypeDef row 1) c.args.name.now names.0 (valid.cells TypeDef row 1 there (omega arith)).storable)

pub returns-in_default-2-clause-none : goal.returns-in_default-2-clause-none
unfolding cell_columns
returns-in_default-2-clause-none c = λ is_open zero model is row there names.
    let valid = c.models_of_roots_are_valid.ensures c.args.view.now.root.now model is in
    c.in_default.ensures.cases.0 (utf8_of (cell_in model TypeDef row 2) c.args.namespace.now names.1 (valid.cells TypeDef row 2 there (omega arith)).storable)

pub returns-in-Some-find_type-clause-sound : goal.returns-in-Some-find_type-clause-sound
returns-in-Some-find_type-clause-sound c = λ above model is.
    (rw (c.in-Some.ensures.sound.0, c.in-Ok-Ok.ensures.cases.0, c.in-Ok-Ok.ensures'.cases.0) at c.in-Some-find_type.ensures.sound) model is

pub returns-in-Some-find_type-clause-none : goal.returns-in-Some-find_type-clause-none
returns-in-Some-find_type-clause-none c = λ is_open zero model is.
    let found = (rw (c.in-Some.ensures.sound.0, c.in-Ok-Ok.ensures.cases.0, c.in-Ok-Ok.ensures'.cases.0) at c.in-Some-find_type.ensures.sound) model is in
    absurd (omega (arith, found.there.0, zero))

pub returns-in-None-clause-none : goal.returns-in-None-clause-none
returns-in-None-clause-none c = λ is_open zero model is.
    (rw (c.in-Some.ensures.sound.0, c.in-Ok-Ok.ensures.cases.0, c.in-Ok-Ok.ensures'.cases.0) at c.in-None.ensures.none) model is
