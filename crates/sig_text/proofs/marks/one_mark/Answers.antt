use Rattle.sig_text.proofs.Prelude.{◌≡◌, sym, Some, None, mark_at, Mod, Pinned}
use Rattle.sig_text.proofs.Chains.{silent}
use Rattle.sig_text.proofs.MarksShown.{one_text, no_text}
use Rattle.sig_text.proofs.marks.one_mark.Goals as goal

pub returns-in-Some-Mod-default : goal.returns-in-Some-Mod-default
returns-in-Some-Mod-default g c = let e : mark_at c.args.bytes.now ≡ Some (Mod c.in-Some-Mod-default.of, c.in-Some-Mod-default.field-0-1.now) = sym (rw c.in-Some-Mod-default.field-0-0-is at c.in-Some-Mod-default.ensures) in rw (one_text c.args.bytes.now (Mod c.in-Some-Mod-default.of) c.in-Some-Mod-default.field-0-1.now e) c.modifier.ensures

pub returns-in-Some-Pinned-default : goal.returns-in-Some-Pinned-default
returns-in-Some-Pinned-default g c = let e : mark_at c.args.bytes.now ≡ Some (Pinned, c.in-Some-Pinned-default.field-0-1.now) = sym (rw c.in-Some-Pinned-default.field-0-0-is at c.in-Some-Pinned-default.ensures) in rw (one_text c.args.bytes.now Pinned c.in-Some-Pinned-default.field-0-1.now e) c.put_text.ensures

pub returns-in-None : goal.returns-in-None
returns-in-None g c = let e : mark_at c.args.bytes.now ≡ None = sym c.in-None.ensures in rw (no_text 1 c.args.bytes.now e) silent
