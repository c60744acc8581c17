-- The owner of a member is the last row whose run begins at the member or before it.
use Rattle.navigation.proofs.Prelude.{◌≡◌, ℕ, zero, suc, ◌+◌, ◌-◌, ◌<◌, ◌≤◌, inl, inr, refl, ap, subst, arith, cases_lt, cases_eq, ColumnKind, TableId, Cell, Start, IsOfKind, Metadata, count_in, cell_in, HasRow, IsValid, IsOwned, links_of, start_in}
use Rattle.table_schema.specs.declared.column.ColumnKind.TheVariants as kind
use Rattle.metadata.specs.declared.member_lists.MemberList.{MemberList}
use Rattle.metadata.specs.MemberLists.{owner_of, cell_of, member_of}
use Rattle.metadata.proofs.ListLemmas.{list_within, list_kind}
use Rattle.navigation.specs.Owners.{Owns}

-- a cell of a list column is a start
starts : (member : TableId) (cell : Cell) → IsOfKind (kind.List member) cell → cell ≡ Start (start_in cell)
starts member (Start start) is = refl
starts member _ is = absurd is

-- a row owns a member, and no other row does
abbrev pub OwnsAlone : Metadata → MemberList → ℕ → ℕ → Type 0
OwnsAlone model list low member = Owns model list low member × ((row : ℕ) → Owns model list row member → row ≡ low)

-- where the run of an owner begins
abbrev pub start_of : Metadata → MemberList → ℕ → ℕ
start_of model list row = start_in (cell_in model (owner_of list) row (cell_of list))

module _ (model : Metadata) (valid : IsValid model) where
  owned : (list : MemberList) → IsOwned (links_of model) list
  owned list = valid.linked.owned list

  module _ (list : MemberList) where
    pub is_start : (row : ℕ) → HasRow model (owner_of list) row → cell_in model (owner_of list) row (cell_of list) ≡ Start (start_of model list row)
    is_start row there =
        let held = valid.cells (owner_of list) row (cell_of list) there (list_within list) in
        let cell = cell_in model (owner_of list) row (cell_of list) in
        let P : ColumnKind → Type 0 = λ k. IsOfKind k cell in
        starts (member_of list) cell (subst P (list_kind list) held.of_kind)

    -- starts never decrease
    rising : (row gap : ℕ) → 1 ≤ row → row + gap ≤ count_in model (owner_of list) → start_of model list row ≤ start_of model list (row + gap)
    rising row zero first last = let same : row + 0 ≡ row = omega arith in rw same (omega arith)
    rising row (suc gap) first last =
        let before = rising row gap first (omega arith) in
        let next = (owned list).rising (row + suc gap) (omega arith) last in
        let same : row + suc gap - 1 ≡ row + gap = omega arith in
        let P : ℕ → Type 0 = λ r. start_of model list r ≤ start_of model list (row + suc gap) in
        let step = subst P same next in
        omega arith

    up : (row more : ℕ) → 1 ≤ row → row ≤ more → more ≤ count_in model (owner_of list) → start_of model list row ≤ start_of model list more
    up row more first below last =
        let rise = rising row (more - row) first (omega arith) in
        let same : row + (more - row) ≡ more = omega arith in
        let P : ℕ → Type 0 = λ r. start_of model list row ≤ start_of model list r in
        subst P same rise

    -- a member has an owner
    pub some_owner : (member : ℕ) → 1 ≤ member → member ≤ count_in model (member_of list) → 1 ≤ count_in model (owner_of list)
    some_owner member first last = elim (cases_eq (count_in model (owner_of list)) 0) [
      | inl none ↦ let e = (owned list).ownerless none in absurd (omega arith)
      | inr some ↦ omega arith
    ]

    -- the first run begins with the first member
    pub from_one : 1 ≤ count_in model (owner_of list) → start_of model list 1 ≡ 1
    from_one some = (owned list).first (λ none. omega arith)

    module _ (low member : ℕ) (first : 1 ≤ low) (last : low ≤ count_in model (owner_of list)) (some : member ≤ count_in model (member_of list))
        (from : start_of model list low ≤ member) (to : low + 1 ≤ count_in model (owner_of list) → member < start_of model list (low + 1)) where
      -- the last row whose run begins at the member or before it owns the member
      owns : Owns model list low member
      owns = elim (cases_lt low (count_in model (owner_of list))) [
        | inl more ↦ record {
          there = (first, last);
          first = start_of model list low;
          past = start_of model list (low + 1);
          run = record {
            start = is_start low (first, last);
            next = λ less. is_start (low + 1) (omega arith, omega arith);
            last = λ same. absurd (omega arith);
          };
          from = from;
          to = to (omega arith);
        }
        | inr none ↦ record {
          there = (first, last);
          first = start_of model list low;
          past = count_in model (member_of list) + 1;
          run = record {
            start = is_start low (first, last);
            next = λ less. absurd (omega arith);
            last = λ same. refl;
          };
          from = from;
          to = omega arith;
        }
      ]

      no_other : (row : ℕ) → Owns model list row member → row ≡ low
      no_other row other = elim (cases_lt row low) [
        | inl before ↦
            let next = ap start_in (other.run.next (omega arith)) in
            let here = other.there in
            let low_row = here.0 in
            let rise = up (row + 1) low (omega arith) (omega arith) last in
            let end = other.to in
            absurd (omega arith)
        | inr not ↦ elim (cases_lt low row) [
          | inl after ↦
              let here = other.there in
              let in_table = here.1 in
              let start = ap start_in other.run.start in
              let rise = up (low + 1) row (omega arith) (omega arith) in_table in
              let ends = to (omega arith) in
              let begins = other.from in
              absurd (omega arith)
          | inr same ↦ omega arith
        ]
      ]

      pub owns_alone : OwnsAlone model list low member
      owns_alone = (owns, no_other)
