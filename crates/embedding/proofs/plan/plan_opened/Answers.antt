use Rattle.embedding.proofs.Prelude.{refl, sym, ◌∙◌, false≢true, err_from_is_err_and, Planned, IsPlanned}
use Rattle.embedding.proofs.Misfits.{misfit_is_reason, opens_by}
use Rattle.embedding.proofs.plan.plan_opened.Goals as goal

planned : goal.After-result-1 → Planned
planned c = record {
  strong_name = c.args.strong_name;
  file = c.args.file.headers;
  root = c.args.root.now;
  header = c.args.file.header;
  slot = c.in_ok-slot.slot;
}

is_planned : (c : goal.After-result-1) → IsPlanned (planned c)
unfolding planned
is_planned c =
    let opened = c.requires.opened in
    record {
      header = opened.header;
      apart = c.are_headers_apart.ensures.0 c.if-not-are_headers_apart.false;
      fits = rw opened.view at c.in_ok-slot.ensures.fits;
      leads = rw opened.view at c.requires.leads;
      model = c.requires.model;
    }

pub invariant_of-result : goal.invariant_of-result
unfolding planned
invariant_of-result c = record { planned = is_planned c; target = c.target_of-target.ensures.value }

pub returns-clause-sound : goal.returns-clause-sound
unfolding planned
returns-clause-sound c =
    let is = is_planned c in
    record { header = c.args.file.header; opens = is.header; slot = c.in_ok-slot.slot; apart = is.apart; fits = is.fits; leads = is.leads; bytes = refl }

pub returns-then-not-are_headers_apart-clause-refused : goal.returns-then-not-are_headers_apart-clause-refused
returns-then-not-are_headers_apart-clause-refused c =
    let file = c.args.file.headers in
    let of = c.requires.opened.header in (
      (opens_by file c.args.file.header of, c.requires.model),
      λ apart. false≢true (sym c.if-not-are_headers_apart.true ∙ c.are_headers_apart.ensures.1 (rw of.header_is apart)),
    )

pub returns-in_err-slot-clause-refused : goal.returns-in_err-slot-clause-refused
returns-in_err-slot-clause-refused c =
    let opened = c.requires.opened in
    let p = err_from_is_err_and c.from_residual.result c.from_residual.ensures.1 in
    rw (p.1, p.2) (misfit_is_reason c.args.file.headers c.args.root.now c.args.file.view c.args.file.header opened.header opened.view c.requires.model
    c.in_err-slot.field-0.0 c.in_err-slot.ensures.misfit)
