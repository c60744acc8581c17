-- The owner of a member.
use Rattle.visible_rows.proofs.Prelude.{◌≡◌, ◌∙◌, ◌≤◌, ◌<◌, ◌+◌, ◌-◌, ℕ, zero, suc, cond, ap, arith, le-leb, lt-leb, Metadata, cell_in, count_in, IsOwned, links_of, start_in, owner_among, owner_in}
use Rattle.metadata.specs.declared.member_lists.MemberList.{MemberList}
use Rattle.metadata.specs.MemberLists.{cell_of, owner_of}
use Rattle.navigation.specs.Owners.{Owns}

module _ (model : Metadata) (list : MemberList) (has : IsOwned (links_of model) list) (member owner : ℕ) (owns : Owns model list owner member) where
  abbrev start : ℕ → ℕ
  start row = start_in (cell_in model (owner_of list) row (cell_of list))

  begins : (row : ℕ) → row ≡ owner → start row ≤ member
  begins row is = let e = ap start is ∙ ap start_in owns.run.start in let from = owns.from in omega (arith, e, from)

  later : (k row : ℕ) → row ≡ owner + 1 + k → row ≤ count_in model (owner_of list) → member < start row
  later zero row is within =
      let next : row ≡ owner + 1 = omega (arith, is) in
      let e = ap start next ∙ ap start_in (owns.run.next (omega (arith, is, within))) in
      let to = owns.to in
      omega (arith, e, to)
  later (suc k) row is within =
      let before = later k (row - 1) (omega (arith, is)) (omega (arith, is, within)) in
      let rises = has.rising row (omega (arith, is)) within in
      omega (arith, before, rises)

  among : (k count : ℕ) → count ≡ owner + k → count ≤ count_in model (owner_of list) → owner_among model list member count ≡ owner
  unfolding owner_among
  among zero zero is within = omega (arith, is)
  among zero (suc n) is within =
      let same : suc n ≡ owner = omega (arith, is) in
      (λ i. cond (le-leb (start (suc n)) member (begins (suc n) same) i) (suc n) (owner_among model list member n)) ∙ same
  among (suc k) zero is within = absurd (omega (arith, is))
  among (suc k) (suc n) is within =
      (λ i. cond (lt-leb (start (suc n)) member (later k (suc n) (omega (arith, is)) within) i) (suc n) (owner_among model list member n))
      ∙ among k n (omega (arith, is)) (omega (arith, within))

  pub owner_is : owner_in model list member ≡ owner
  owner_is =
      let last = owns.there.1 in
      let count = count_in model (owner_of list) in
      among (count - owner) count (omega (arith, last)) (omega arith)
