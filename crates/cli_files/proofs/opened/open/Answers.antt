use Rattle.std.proofs.Common.{◌∙◌, List, ℕ, Result, Ok, Err, IsOk, ap, refl, subst, sym}
use Rattle.std.proofs.lemmas.Grind.{not_there}
use Rattle.std.proofs.lemmas.Result.{IfOk-weaker}
use Rattle.std.proofs.Math.Logic.{∥∥₁_map}
use Rattle.metadata.specs.Model.{IsModel}
use Rattle.metadata.specs.Streams.{root_in}
use Rattle.opening.specs.Views.{HasModel}
use Rattle.cli_files.proofs.opened.open.Goals as goal

ok_unless_not : {T E : Type 0} (r : Result T E) → ¬ (¬ IsOk r) → IsOk r
ok_unless_not (Ok x) h = refl
ok_unless_not (Err e) h = absurd (h (λ is. cc))

pub returns-in-BareRoot-clause-model : goal.returns-in-BareRoot-clause-model
returns-in-BareRoot-clause-model c =
    IfOk-weaker c.open_root.result _ _ (λ view found. subst (λ (root : List ℕ). HasModel root) (sym found.0) found.1) c.open_root.ensures.sound

pub returns-in-BareRoot-clause-complete : goal.returns-in-BareRoot-clause-complete
returns-in-BareRoot-clause-complete c = λ whole.
    ok_unless_not c.open_root.result (λ not. not_there (rw c.in-BareRoot.is at whole) (λ some. not (c.open_root.ensures.complete some.0 some.1)))

pub returns-in_err-view-in-File-clause-complete : goal.returns-in_err-view-in-File-clause-complete
returns-in_err-view-in-File-clause-complete c = λ whole.
    absurd (not_there (rw c.in-File.is at whole) (λ file. not_there file.1 (λ some. c.in_err-view-in-File.ensures.complete file.0 some.0 some.1)))

pub returns-in_ok-view-in-File-clause-model : goal.returns-in_ok-view-in-File-clause-model
returns-in_ok-view-in-File-clause-model c =
    let it = c.in_ok-view-in-File in
    ∥∥₁_map it.ensures.sound (λ some. (some.0, subst (λ (root : List ℕ). IsModel root some.0) (sym it.ensures.view) some.1.root))

pub returns-in_ok-view-in-File-clause-models : goal.returns-in_ok-view-in-File-clause-models
returns-in_ok-view-in-File-clause-models c = λ model is.
    let it = c.in_ok-view-in-File in
    let file = rw c.in-File.is at is in
    rw (it.ensures.view ∙ ap (root_in c.args.bytes.now) (it.ensures.complete file.0 model file.1)) file.1.root
