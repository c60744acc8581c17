use Rattle.root.proofs.Prelude.{◌≡◌, ◌∙◌, ap, arith, sym, err_from_is_err_and, before_more, before_fails, rules_of_header, header_at, header_count, Header, view}
use Rattle.root.proofs.WalkLemmas.{offset_more, shows_from_before}
use Rattle.root.proofs.walk.check_headers.Goals as goal

pub check_header-requires-clause-shows : goal.check_header-requires-clause-shows
check_header-requires-clause-shows c = shows_from_before c.args.bytes.now c.loop-number.number c.loop-number.invariant.holds

pub returns-in_err-header-clause-reports : goal.returns-in_err-header-clause-reports
returns-in_err-header-clause-reports c =
    let p = err_from_is_err_and c.from_residual.result c.from_residual.ensures.1 in
    rw (p.1, p.2) (before_fails (rules_of_header c.args.bytes.now) 0 c.loop-number.number (header_count c.args.bytes.now) c.in_err-header.field-0.0
    c.loop-number.invariant.holds (omega arith) (omega arith) c.in_err-header.ensures.reports)

pub loop-number-preserved : goal.loop-number-preserved
loop-number-preserved c =
    let here = c.in_ok-header.ensures.header ∙ ap (header_at c.args.bytes.now) (sym c.loop-number.invariant.place) in
    record {
      place = c.end-place.ensures ∙ offset_more c.args.bytes.now c.loop-number.number c.loop-number.place (view c.in_ok-header.header) c.loop-number.invariant.place here;
      room = let at : c.in_ok-header.header.place ≡ c.loop-number.place = ap (λ (h : Header). h.place) here in let ends = c.in_ok-header.ensures.end in let e = c.end-place.ensures in omega arith;
      holds = before_more (rules_of_header c.args.bytes.now) 0 c.loop-number.number c.loop-number.invariant.holds c.in_ok-header.ensures.reports;
    }
