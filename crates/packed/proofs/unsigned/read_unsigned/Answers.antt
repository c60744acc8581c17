use Rattle.std.proofs.Common.{ℕ, ◌<◌, ◌^◌, get_or, rules}
use Rattle.packed.proofs.PackedLemmas.{unsigned_found, unsigned_only}
use Rattle.packed.proofs.unsigned.read_unsigned.Goals as goal

pub returns-clause-sound : goal.returns-clause-sound
returns-clause-sound c =
    let small : (k : ℕ) → get_or c.args.bytes.now k 0 < 2 ^ 8 = λ k. let f = c.type_inv.bytes k in search rules in
    rw c.unsigned.ensures (unsigned_found c.args.bytes.now small)

pub returns-clause-complete : goal.returns-clause-complete
returns-clause-complete c = λ n prefix tail split packed. unsigned_only c.args.bytes.now prefix tail n c.unsigned.result c.unsigned.ensures split packed
