use Rattle.std.proofs.lemmas.Bool.Decides.{Decides-at}
use Rattle.sig_encoder.proofs.SameLemmas.{token_decides}
use Rattle.sig_encoder.proofs.same_parts.same_token.Goals as goal

pub returns : goal.returns
returns c = Decides-at _ _ c.eq.ensures (token_decides c.args.of c.args.other)
