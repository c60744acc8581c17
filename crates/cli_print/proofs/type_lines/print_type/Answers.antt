use Rattle.cli_print.proofs.Prelude.{◌≤◌, ◌∙◌, arith, TypeDef, Field, MethodDef, count_in, IsModel}
use Rattle.opening.specs.Views.{row_count}
use Rattle.cli_print.specs.TypeLines.{parts_of_type}
use Rattle.cli_print.proofs.TypeLemmas.{run_counted}
use Rattle.cli_print.proofs.type_lines.print_type.Goals as goal

pub returns-clause-line : goal.returns-clause-line
unfolding row_count parts_of_type
returns-clause-line g c = λ model is.
    let here : IsModel c.view-view.result.now model = rw c.view-view.ensures.view is in
    let row = c.args.row in
    let within : row ≤ count_in model TypeDef = omega (arith, c.requires.last, c.models_are_read.ensures.count c.args.cells.now model is TypeDef) in
    let again : IsModel c.run.new.self model = rw c.run.ensures.same is in
    let fields = c.count_of-fields.ensures ∙ run_counted model 4 Field row c.run.result.start c.run.result.«end» within (c.run.ensures.run model is) in
    let methods = c.count_of-methods.ensures ∙ run_counted model 5 MethodDef row c.run-2.result.start c.run-2.result.«end» within (c.run-2.ensures.run model again) in
    rw (← c.text_or_empty-namespace.ensures model here, ← c.text_or_empty-name.ensures model here, ← fields, ← methods, ← c.dot_after.ensures) c.line.ensures
