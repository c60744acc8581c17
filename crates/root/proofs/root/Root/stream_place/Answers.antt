use Rattle.root.proofs.Prelude.{◌+◌, ◌≤◌, length, sym, subst, arith, RootRead, view}
use Rattle.root.proofs.RootLemmas.{found_within}
use Rattle.root.proofs.root.Root.stream_place.Goals as goal

pub returns-clause-within : goal.returns-clause-within
returns-clause-within c =
    let header = view c.in_ok-header.header in
    let within = found_within c.self.inside.bytes.now c.self.inside.count c.args.kind header c.self.invariant.within (sym c.in_ok-header.ensures) in
    (omega arith, subst (λ (root : RootRead). header.offset + header.size ≤ length root.bytes) c.self.view_is within)
