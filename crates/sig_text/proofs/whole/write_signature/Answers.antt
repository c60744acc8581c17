use Rattle.sig_text.proofs.whole.write_signature.Goals as goal

pub returns-then-not-recognise-clause-text : goal.returns-then-not-recognise-clause-text
returns-then-not-recognise-clause-text g c = λ signature e. let t = c.recognise.ensures.encoded.1 (signature, e) in let f = rw c.if-not-recognise.true at t in absurd cc
