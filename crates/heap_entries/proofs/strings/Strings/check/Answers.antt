use Rattle.heap_entries.proofs.Prelude.{ℕ, subst, refl, sym, ap, ◌∙◌, inl, inr, arith, IsUtf8, ◌≡◌, IsCharBoundary, unwrap_or, false≢true, Reports, at_offset, rules_of_text}
use Rattle.heap_entries.proofs.WholeLemmas.{whole_is, last_is, text_begins, bytes_utf8, ended_up_to}
use Rattle.heap_entries.proofs.strings.Strings.check.Goals.{then-start-last+else-is_char_boundary, else-start-last}
use Rattle.heap_entries.proofs.strings.Strings.check.Goals as goal

pub returns-in_default : goal.returns-in_default
returns-in_default c = record {
  reports = subst (λ l. (offset : ℕ) → Reports (rules_of_text l c.args.index offset) (at_offset offset c.check_alone.result)) c.self.view_is c.check_alone.ensures.reports;
}

pub returns-in-Some-last_nul : goal.returns-in-Some-last_nul
returns-in-Some-last_nul c =
    let heap = c.args.self.now in
    let index = c.args.index in
    let whole = whole_is c.self.inside c.in-Some.whole c.in-Some.is c.self.invariant in
    let last = last_is c.self.inside heap c.in-Some-last_nul.last c.self.view_is c.in-Some-last_nul.is c.self.invariant in
    let ended = ended_up_to heap index c.in-Some-last_nul.last last c.if-start-last.true in
    let begins = subst (λ l. IsCharBoundary l index) (whole.0 ∙ c.self.view_is) (c.if-is_char_boundary.ensures.test.0 refl) in
    let utf8 = bytes_utf8 heap index ended.0 ended.1 (subst IsUtf8 c.self.view_is whole.1) begins in
    record { reports = λ offset. (inr ended, ((ended.0, inr (omega (arith, c.if-start-eq0.false), ended.1, utf8)), tt)) }

pub returns-in-Some-2 : goal.returns-in-Some-2
returns-in-Some-2 c =
    let heap = c.args.self.now in
    let index = c.args.index in
    let whole = whole_is c.self.inside c.in-Some.whole c.in-Some.is c.self.invariant in
    let last = last_is c.self.inside heap c.in-Some-2.last c.self.view_is c.in-Some-2.is c.self.invariant in
    let ended = ended_up_to heap index c.in-Some-2.last last c.if-start-last-2.true in
    let same : c.in-Some-last_nul.last ≡ c.in-Some-2.last = ap (λ o. unwrap_or o 0) (sym c.in-Some-last_nul.is ∙ c.in-Some-2.is) in
    let within : ¬ IsCharBoundary heap index = elim c.if-start-last.branch [
      | then-start-last+else-is_char_boundary w ↦ λ begins. false≢true (w.if-is_char_boundary.ensures.test.1 (subst (λ l. IsCharBoundary l index) (sym (whole.0 ∙ c.self.view_is)) begins))
      | else-start-last w ↦ λ _. omega (arith, w.if-start-last.false, c.if-start-last-2.true, same)
    ] in
    record {
      reports = λ offset. inr (
        inr ended,
        inl (λ text. within (text_begins heap index text.0 (omega (arith, c.if-start-eq0.false)) text.1), refl),
      );
    }

pub returns-in_default-2 : goal.returns-in_default-2
returns-in_default-2 c =
    let alone = c.check_alone-in_default-2 in
    record {
      reports = subst (λ l. (offset : ℕ) → Reports (rules_of_text l c.args.index offset) (at_offset offset alone.result)) c.self.view_is alone.ensures.reports;
    }
