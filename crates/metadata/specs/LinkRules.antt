-- The rules for the links between rows, in order, for a root and for tables in memory (ECMA-335 II.22).
use Rattle.std.specs.Prelude.{◌≡◌, ◌≢◌, ℕ, ◌-◌, ◌≤◌, List, [], ◌∷◌, ◌++◌}
use Rattle.packed.specs.declared.code.FaultCode.{FaultCode}
use Rattle.packed.specs.declared.code.FaultCode.TheVariants.{BadRun, NoOwner, NestedOrder}
use Rattle.packed.specs.Rule.{Rule, rules_from}
use Rattle.table_schema.specs.declared.table.TableId.{TableId}
use Rattle.table_schema.specs.declared.table.TableId.TheVariants.{NestedClass}
use Rattle.metadata.specs.declared.member_lists.MemberList.{MemberList}
use Rattle.metadata.specs.declared.member_lists.MemberList.TheVariants.{Fields, Methods, Params, Events, Properties}
use Rattle.metadata.specs.MemberLists.{owner_of, cell_of, member_of}
use Rattle.metadata.specs.Links.{Links, IsNested}

-- links, and the error at a cell if they break a rule: by code, table, row and column
pub record Checked (F : Type 0) : Type 0 where
  pub links : Links
  pub error : FaultCode → TableId → ℕ → ℕ → F

-- the rule that something must hold, else the error with this code at this cell
abbrev pub rule_at : {F : Type 0} → Checked F → Type 0 → FaultCode → TableId → ℕ → ℕ → Rule F
rule_at checked holds code table row column = record { holds = holds; fault = checked.error code table row column }

-- the rule for the start of a run: it is not lower than that of the owner before
unfoldable pub rules_of_start : {F : Type 0} → Checked F → MemberList → ℕ → List (Rule F)
rules_of_start checked list row =
    rule_at checked (checked.links.start list (row - 1) ≤ checked.links.start list row) BadRun (owner_of list) row (cell_of list) ∷ []

-- the rules for owners: without owners there are no members; the first run starts at 1; starts never decrease (II.22)
unfoldable pub rules_of_run : {F : Type 0} → Checked F → MemberList → List (Rule F)
rules_of_run checked list =
    rule_at checked (checked.links.count (owner_of list) ≡ 0 → checked.links.count (member_of list) ≡ 0) NoOwner (member_of list) 1 0
    ∷ rule_at checked (checked.links.count (owner_of list) ≢ 0 → checked.links.start list 1 ≡ 1) BadRun (owner_of list) 1 (cell_of list)
    ∷ rules_from (rules_of_start checked list) 2 (checked.links.count (owner_of list) - 1)

unfoldable pub rules_of_runs : {F : Type 0} → Checked F → List (Rule F)
rules_of_runs checked =
    rules_of_run checked Fields
    ++ (rules_of_run checked Methods
    ++ (rules_of_run checked Params
    ++ (rules_of_run checked Events
    ++ rules_of_run checked Properties)))

-- the rule for a row of NestedClass, reported at its cell EnclosingClass (II.22.32)
unfoldable pub rules_of_nesting_in : {F : Type 0} → Checked F → ℕ → List (Rule F)
rules_of_nesting_in checked row = rule_at checked (IsNested checked.links row) NestedOrder NestedClass row 1 ∷ []

unfoldable pub rules_of_nesting : {F : Type 0} → Checked F → List (Rule F)
rules_of_nesting checked = rules_from (rules_of_nesting_in checked) 1 (checked.links.count NestedClass)

-- the rules for the runs of members, then those for nested types
unfoldable pub rules_of_links : {F : Type 0} → Checked F → List (Rule F)
rules_of_links checked = rules_of_runs checked ++ rules_of_nesting checked
