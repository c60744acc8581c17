use Rattle.std.proofs.Common.{◌≡◌, ◌++◌, ap, arith, get_or, refl, rules}
use Rattle.cli_sending.proofs.LetterLemmas.{byte_shown, found_shown, passed}
use Rattle.cli_sending.proofs.letters.read_first.Goals as goal

pub returns-then-skipped-gt0 : goal.returns-then-skipped-gt0
returns-then-skipped-gt0 c = ap (λ t. c.args.out.now.items ++ t) (passed c.args.what c.args.skipped c.args.text.now c.if-skipped-gt0.true)

pub returns-then-is_empty : goal.returns-then-is_empty
returns-then-is_empty c =
    let none : c.args.skipped ≡ 0 = omega (arith, c.if-skipped-gt0.false) in
    rw c.in_ok-push.ensures.items
    (byte_shown c.args.what c.args.out.now.items c.args.text.now c.found_at-found.result.now c.args.skipped (get_or c.args.text.now 0 0) none c.requires c.found_at-found.ensures.bytes (search rules) refl)

pub returns : goal.returns
returns c =
    let none : c.args.skipped ≡ 0 = omega (arith, c.if-skipped-gt0.false) in
    rw c.in_ok-extend_from_slice.ensures.items
    (found_shown c.args.what c.args.out.now.items c.args.text.now c.found_at-found.result.now c.args.skipped none c.requires c.found_at-found.ensures.bytes (search rules))
