use Rattle.std.proofs.Common.{◌∙◌, sym, refl}
use Rattle.sig_text.proofs.Calls.{one_call}
use Rattle.sig_text.proofs.named.NamedTextTextSink.text.Goals as goal

pub returns-clause-piece : goal.returns-clause-piece
returns-clause-piece g c = λ h. (refl, one_call c.args.self.now.writer c.args.text.now c.write_str-written.new.self (c.write_str-written.ensures.ok (sym c.answer.ensures.taken ∙ h)))
