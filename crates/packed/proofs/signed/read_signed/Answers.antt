use Rattle.std.proofs.Common.{ℕ, ◌<◌, ◌^◌, get_or, rules}
use Rattle.packed.proofs.SignedLemmas.{signed_found, signed_only}
use Rattle.packed.proofs.signed.read_signed.Goals as goal

pub returns-clause-sound : goal.returns-clause-sound
returns-clause-sound c =
    let small : (k : ℕ) → get_or c.args.bytes.now k 0 < 2 ^ 8 = λ k. let f = c.type_inv.bytes k in search rules in
    rw c.signed.ensures (signed_found c.args.bytes.now small)

pub returns-clause-complete : goal.returns-clause-complete
returns-clause-complete c = λ z prefix tail split packed. signed_only c.args.bytes.now prefix tail z c.signed.result c.signed.ensures split packed
