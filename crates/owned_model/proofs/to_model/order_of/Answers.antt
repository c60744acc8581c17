use Rattle.owned_model.proofs.Prelude.{◌≡◌, ◌↔◌, ℕ, ◌-◌, Bool, false, List, Some, slice_index_or, inl, inr, sym, subst, arith, ∥∥₁_map, cases_lt, cases_Bool, both_ways, not_there, TableId, table_number, key_of, Metadata, IsModel, HasModel, AreFound}
use Rattle.metadata.specs.RowRules.{IsInOrder}
use Rattle.metadata.specs.KeyOrder.{key_in, IsKeyOrdered}
use Rattle.metadata.specs.SourceAt.{source_of}
use Rattle.opening.specs.declared.found.Found.{Found}
use Rattle.owned_model.specs.Models.{ReportsOrder}
use Rattle.owned_model.proofs.to_model.order_of.Goals as goal

-- the order of keys could be tested, so it is enough to know it
known_order : (tables : Metadata) (bits : List Bool) → ∥ ReportsOrder tables bits ∥₁ → ReportsOrder tables bits
known_order tables bits known table key is = (
  λ reported cell_index row is_key second last.
      elim (cases_lt (key_in tables table cell_index row) (key_in tables table cell_index (row - 1))) [
        | inl less ↦ absurd (not_there known (λ reports. let le = (reports table key is).0 reported cell_index row is_key second last in omega arith))
        | inr le ↦ le
      ],
  λ ordered. elim (cases_Bool (slice_index_or bits (table_number table) false)) [
    | inl reported ↦ reported
    | inr other ↦ absurd (not_there known (λ reports. both_ways _ other ((reports table key is).1 ordered)))
  ],
)

-- what opening found of a root is so of the tables of its model
found_order : ((root : List ℕ) (model : Metadata) → IsModel root model → (table : TableId) (key : ℕ) → key_of table ≡ Some key
    → IsInOrder (source_of root) table key ↔ IsKeyOrdered model table) → (root : List ℕ) (tables : Metadata) → HasModel root
    → ((model : Metadata) → IsModel root model → tables ≡ model) → (found : Found) → AreFound root found → ReportsOrder tables found.in_order
found_order order root tables some same found are = known_order tables found.in_order (∥∥₁_map some (λ it.
    subst (λ t. ReportsOrder t found.in_order) (sym (same it.0 it.1)) (λ table key is.
    let here = are.order table key is in
    let kept = order root it.0 it.1 table key is in
    (λ reported. kept.0 (here.0 reported), λ ordered. here.1 (kept.1 ordered)))))

pub returns : goal.returns
returns c = found_order c.keys_are_in_order.ensures.order c.args.view.now c.args.tables.now c.root-root.ensures.model c.requires c.found.result c.found.ensures
