use Rattle.embedding.proofs.Prelude.{◌≡◌, sym, ap, ◌∙◌, false≢true, ∥∥₁_elim, le_prop, image_of, header_of, root_in, FirstBroken, rules_of_file, rules_of_metadata}
use Rattle.embedding.proofs.Misfits.{opens_by}
use Rattle.embedding.proofs.Opens.{no_fault}
use Rattle.embedding.proofs.plan.plan_embedding.Goals as goal

pub plan_opened-requires-clause-small : goal.plan_opened-requires-clause-small
plan_opened-requires-clause-small c = ∥∥₁_elim c.in-Ok.ensures.sound.1 le_prop (λ some. some.1.small)

pub returns-then-leads_alike-clause-sound : goal.returns-then-leads_alike-clause-sound
returns-then-leads_alike-clause-sound c = rw c.in_ok-opened.ensures.opened.headers at c.plan_opened.ensures.sound

pub returns-then-leads_alike-clause-first_error : goal.returns-then-leads_alike-clause-first_error
returns-then-leads_alike-clause-first_error c =
    no_fault c.plan_opened.result (FirstBroken (rules_of_file c.args.file.now)) (FirstBroken (rules_of_metadata 0 c.args.root.now)) c.plan_opened.ensures.fault

pub returns-then-leads_alike-clause-refused : goal.returns-then-leads_alike-clause-refused
returns-then-leads_alike-clause-refused c = rw c.in_ok-opened.ensures.opened.headers at c.plan_opened.ensures.refused

pub returns-else-leads_alike-clause-refused : goal.returns-else-leads_alike-clause-refused
returns-else-leads_alike-clause-refused c =
    let opened = c.in_ok-opened.opened in
    let is = c.in_ok-opened.ensures.opened in
    let view : opened.view ≡ root_in c.args.file.now (header_of (image_of c.args.file.now)) = is.view ∙ ap (root_in c.args.file.now) is.header.header_is in (
      (opens_by c.args.file.now opened.header is.header, c.in-Ok.ensures.sound.1),
      λ leads. false≢true (sym c.if-leads_alike.false ∙ c.leads_alike.ensures.1 (rw (c.in-Ok.ensures.sound.0, view) leads)),
    )

pub returns-in-Err-clause-refused : goal.returns-in-Err-clause-refused
returns-in-Err-clause-refused c = opens_by c.args.file.now c.in_ok-opened.opened.header c.in_ok-opened.ensures.opened.header
