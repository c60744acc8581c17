use Rattle.embedding.proofs.Prelude.{◌≡◌, ◌<◌, ◌^◌, address_before}
use Rattle.embedding.proofs.slots.last_address.Given as goal

-- the end of the sections before this one
abbrev pub invariant-loop-index : goal.invariant-loop-index
invariant-loop-index l = (l.last < 2 ^ 33) × (l.last ≡ address_before l.headers l.index)
