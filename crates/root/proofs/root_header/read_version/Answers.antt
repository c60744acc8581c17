use Rattle.root.proofs.Prelude.{◌≡◌, ◌∙◌, take, ap, arith, part, before_nul, version_length}
use Rattle.root.proofs.NulLemmas.{nul_found, nul_missing}
use Rattle.root.proofs.HeaderLemmas.{err_from_none, ok_from_some}
use Rattle.root.proofs.VersionLemmas.{version_shows, has_version}
use Rattle.root.proofs.root_header.read_version.Goals as goal

pub returns-in_err-end-clause-none : goal.returns-in_err-end-clause-none
returns-in_err-end-clause-none c = rw c.from_residual.ensures (λ h.
    let root = c.args.bytes.now in
    let field = c.split_at-2.result.0.now in
    let is : field ≡ part root 16 (version_length root) = c.split_at-2.ensures.front ∙ cc in
    let shows = version_shows root field is h in
    let missing = nul_missing field c.in_err-end.ensures in
    omega arith)

pub returns-then-end-gt-VERSION_LIMIT-clause-none : goal.returns-then-end-gt-VERSION_LIMIT-clause-none
returns-then-end-gt-VERSION_LIMIT-clause-none c = λ h.
    let root = c.args.bytes.now in
    let field = c.split_at-2.result.0.now in
    let is : field ≡ part root 16 (version_length root) = c.split_at-2.ensures.front ∙ cc in
    let shows = version_shows root field is h in
    let found = nul_found field c.in_ok-end.end c.in_ok-end.ensures in
    omega arith

pub returns-in_err-version-clause-none : goal.returns-in_err-version-clause-none
returns-in_err-version-clause-none c = rw c.from_residual-in_err-version.ensures (λ h.
    let root = c.args.bytes.now in
    let field = c.split_at-2.result.0.now in
    let is : field ≡ part root 16 (version_length root) = c.split_at-2.ensures.front ∙ cc in
    let shows = version_shows root field is h in
    let found = nul_found field c.in_ok-end.end c.in_ok-end.ensures in
    let bad = err_from_none c.from_utf8.result _ _ c.in_err-version.ensures.value c.from_utf8.ensures in
    bad.1 (rw (c.split_at-3.ensures.front, found.1) shows.text))

pub returns-clause-sound : goal.returns-clause-sound
returns-clause-sound c =
    let root = c.args.bytes.now in
    let field = c.split_at-2.result.0.now in
    let is : field ≡ part root 16 (version_length root) = c.split_at-2.ensures.front ∙ cc in
    let found = nul_found field c.in_ok-end.end c.in_ok-end.ensures in
    let text = ok_from_some c.from_utf8.result c.in_ok-version.version _ _ c.in_ok-version.ensures.value c.from_utf8.ensures in
    let before : c.split_at-3.result.0.now ≡ before_nul field = c.split_at-3.ensures.front ∙ ap (λ n. take n field) found.1 in
    let stands = has_version root field is (omega arith) (omega arith) (record {
      nul = omega arith;
      short = omega arith;
      text = rw (← before) text.1;
    }) in
    (stands, text.0 ∙ before ∙ ap before_nul is)
