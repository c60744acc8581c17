use Rattle.navigation.proofs.Prelude.{◌≡◌, ℕ, ◌≤◌, ◌+◌, subst, arith, ∥∥₁_elim, le_prop, TableId, Metadata, owner_of, member_of}
use Rattle.navigation.proofs.OwnerLemmas.{OwnsAlone, some_owner, from_one, owns_alone}
use Rattle.navigation.proofs.owners.owner.Goals as goal

pub loop-past-init : goal.loop-past-init
loop-past-init g c =
    let owners : ℕ = g.S.ReadMetadata.row_count c.args.source.now (owner_of c.args.list) in
    let P : TableId → Type 0 = λ t. c.count-past.result ≡ g.S.ReadMetadata.row_count c.args.source.now t in
    let count : c.count-past.result ≡ owners = subst P c.owner.ensures c.count-past.ensures.rows in
    let some : 1 ≤ owners = ∥∥₁_elim c.holds_one.ensures.shown le_prop (λ shown.
    let model = shown.0 in
    let members = c.holds_one.ensures.rows model shown.1 (member_of c.args.list) in
    let there = c.holds_one.ensures.rows model shown.1 (owner_of c.args.list) in
    let last = c.requires.last in
    let one = some_owner model (c.holds_one.ensures.valid model shown.1) c.args.list c.args.member c.requires.first (omega arith) in
    omega arith) in
    record {
      first = omega arith;
      ordered = omega arith;
      within = omega arith;
      from = λ model shown.
          let there = c.holds_one.ensures.rows model shown (owner_of c.args.list) in
          let one = from_one model (c.holds_one.ensures.valid model shown) c.args.list (omega arith) in
          let first = c.requires.first in
          omega arith;
      to = λ model shown in_table.
          let there = c.holds_one.ensures.rows model shown (owner_of c.args.list) in
          absurd (omega arith);
    }

pub returns : goal.returns
returns g c =
    let low = c.loop-past.low in
    let ordered = c.loop-past.invariant.ordered in
    let within = c.loop-past.invariant.within in
    let ends = c.loop-past-test.false in
    let next : c.loop-past.past ≡ low + 1 = omega arith in
    let alone : (model : Metadata) → g.S.ReadMetadata.shows c.args.source.now model → OwnsAlone model c.args.list low c.args.member = λ model shown.
    let there = c.holds_one.ensures.rows model shown (owner_of c.args.list) in
    let members = c.holds_one.ensures.rows model shown (member_of c.args.list) in
    let last = c.requires.last in
    owns_alone model (c.holds_one.ensures.valid model shown) c.args.list low c.args.member c.loop-past.invariant.first (omega arith) (omega arith)
    (c.loop-past.invariant.from model shown) (rw next at (c.loop-past.invariant.to model shown)) in
    record { sound = λ model shown. (alone model shown).0; one = λ model shown. (alone model shown).1; first = c.loop-past.invariant.first; last = omega arith }
