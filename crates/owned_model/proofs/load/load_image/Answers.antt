use Rattle.owned_model.proofs.Prelude.{List, ℕ, sym, ap, subst, ◌∙◌, not_there, ∥∥₁_map, Metadata, IsModel, IsModelOfFile, rules_of_file, HasHeaderAndModel}
use Rattle.cli_header.specs.declared.header.CliHeader.{CliHeader}
use Rattle.metadata.specs.Streams.{root_in}
use Rattle.owned_model.proofs.Refusing.{fault_refused, memory_refused}
use Rattle.owned_model.proofs.load.load_image.Goals as goal

pub returns-in_err-header-clause-refused : goal.returns-in_err-header-clause-refused
returns-in_err-header-clause-refused c =
    fault_refused c.from_residual.result (rules_of_file c.args.file.now) (HasHeaderAndModel c.args.file.now) c.in_err-header.field-0.0
    c.from_residual.ensures.1 c.in_err-header.ensures.first_error
    (λ fits. not_there fits (λ some. c.in_err-header.ensures.complete some.0 some.1 some.2))

pub returns-in_err-model-clause-refused : goal.returns-in_err-model-clause-refused
returns-in_err-model-clause-refused c =
    memory_refused c.from_residual-in_err-model.result (rules_of_file c.args.file.now) (HasHeaderAndModel c.args.file.now)
    c.from_residual-in_err-model.ensures.1
    (∥∥₁_map c.in_ok-header.ensures.sound (λ some. (c.in_ok-header.header, some.0, some.1)))

pub returns-clause-sound : goal.returns-clause-sound
returns-clause-sound c =
    ∥∥₁_map c.in_ok-header.ensures.sound (λ some.
    let P : List ℕ → Type 0 = λ root. IsModel root some.0 in
    let Q : Metadata → Type 0 = λ model. IsModelOfFile c.args.file.now c.in_ok-header.header model in
    subst Q (sym (c.in_ok-model.ensures.model some.0 (subst P (sym c.in_ok-header.ensures.view) some.1.root))) some.1)

pub returns-clause-complete : goal.returns-clause-complete
returns-clause-complete c = λ header model is.
    let same = c.in_ok-header.ensures.complete header model is in
    let P : List ℕ → Type 0 = λ root. IsModel root model in
    let root = c.in_ok-header.ensures.view ∙ ap (λ (h : CliHeader). root_in c.args.file.now h) same in
    (same, c.in_ok-model.ensures.model model (subst P (sym root) is.root))
