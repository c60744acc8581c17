use Rattle.embedding.proofs.Prelude.{◌≡◌, inl, inr, length, refl, ap, ◌∙◌, arith, err_from_is_err_and, ∥∥₁_map, Metadata, IsModel, user_of, IsEmbedded}
use Rattle.root_writer.specs.Canonical.{canonical}
use Rattle.embedding.proofs.Canonical.{AreRead, leads}
use Rattle.embedding.proofs.make_copy.embed_canonical.Goals as goal

-- the file has a model, of which this is the canonical root
shown : (c : goal.After-bytes) → ∥ ((model : Metadata) × IsModel c.bytes.result.now model × IsModel c.in_ok-opened.opened.view model) ∥₁
shown c = ∥∥₁_map c.in_ok-opened.ensures.opened.header.model (λ some.
    let of_view : IsModel c.in_ok-opened.opened.view some.0 = c.in_ok-opened.ensures.model c.in_ok-opened.opened.header some.0 some.1 in
    let is : c.in-Ok.root ≡ canonical some.0 = c.in-Ok.ensures.root some.0 of_view in
    let short = c.in-Ok.ensures.within in
    let of_root : IsModel (canonical some.0) some.0 =
    c.canonical_root_has_its_model.ensures some.0 (c.models_of_roots_are_valid.ensures c.in_ok-opened.opened.view some.0 of_view) (omega (arith, ap length is)) in
    (some.0, rw (c.bytes.ensures, is) of_root, of_view))

pub plan_opened-requires-clause-leads : goal.plan_opened-requires-clause-leads
unfolding user_of
plan_opened-requires-clause-leads c =
    let laws : AreRead = record { user = c.models_are_read.ensures.user; count = c.models_are_read.ensures.count; cells = c.models_are_read.ensures.cells } in
    leads laws c.bytes.result.now c.in_ok-opened.opened.view (shown c)

pub plan_opened-requires-clause-model : goal.plan_opened-requires-clause-model
plan_opened-requires-clause-model c = ∥∥₁_map (shown c) (λ some. (some.0, some.1))

is_embedded : (c : goal.After-drop-root-inside-2) (model : Metadata) → IsModel c.in_ok-opened.opened.view model
    → IsEmbedded c.args.strong_name c.args.file.now (canonical model) c.in_ok-make.field-0.items
is_embedded c model of_view =
    let root : c.bytes.result.now ≡ canonical model = c.bytes.ensures ∙ c.in-Ok.ensures.root model of_view in
    rw c.in_ok-make.ensures (rw (c.in_ok-opened.ensures.opened.headers, root) at c.in_ok-plan.ensures.sound)

pub returns-clause-sound : goal.returns-clause-sound
returns-clause-sound c = λ header model is. is_embedded c model (c.in_ok-opened.ensures.model header model is)

pub returns-clause-model : goal.returns-clause-model
returns-clause-model c = λ header model is.
    let of_view = c.in_ok-opened.ensures.model header model is in
    let short = c.in-Ok.ensures.within in
    let root = c.in-Ok.ensures.root model of_view in
    let of_root : IsModel (canonical model) model =
    c.canonical_root_has_its_model.ensures model (c.models_of_roots_are_valid.ensures c.in_ok-opened.opened.view model of_view) (omega (arith, ap length root)) in
    c.embedded_roots_are_found.ensures c.args.strong_name c.args.file.now (canonical model) c.in_ok-make.field-0.items model (λ k. omega (arith, c.type_inv.file k))
    (is_embedded c model of_view) of_root

pub returns-in-Err-TooLarge-clause-refused : goal.returns-in-Err-TooLarge-clause-refused
returns-in-Err-TooLarge-clause-refused c = λ header model is.
    inr (inl (refl, rw c.in-Err-TooLarge.field-0-is at (c.in-Err-TooLarge.ensures.refused model (c.in_ok-opened.ensures.model header model is))))

pub returns-in_err-plan-clause-refused : goal.returns-in_err-plan-clause-refused
returns-in_err-plan-clause-refused c = λ header model is.
    let root : c.bytes.result.now ≡ canonical model = c.bytes.ensures ∙ c.in-Ok.ensures.root model (c.in_ok-opened.ensures.model header model is) in
    let reason = rw (c.in_ok-opened.ensures.opened.headers, root) at c.in_err-plan.ensures.refused in
    let p = err_from_is_err_and c.from_residual-in_err-plan.result c.from_residual-in_err-plan.ensures.1 in
    rw (p.1, p.2) (inr (inr reason))
