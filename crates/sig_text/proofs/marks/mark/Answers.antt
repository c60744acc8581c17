use Rattle.sig_text.proofs.Prelude.{rules, ◌≡◌, false, sym, starts_prefix}
use Rattle.sig_text.proofs.MarksShown.{mark_read, mark_none}
use Rattle.sig_text.proofs.marks.mark.Goals as goal

pub returns-then-not-has_prefix : goal.returns-then-not-has_prefix
returns-then-not-has_prefix c = let e : starts_prefix c.args.bytes.now ≡ false = search rules in sym (mark_none c.args.bytes.now e)

pub returns : goal.returns
returns c = mark_read (λ r. r.now) c.prefix.result c.args.bytes.now c.prefix.ensures
