-- The rules for links hold if and only if the links are valid. Links with the same numbers are both valid, or neither is.
use Rattle.metadata.proofs.Prelude.{◌≡◌, ℕ, zero, suc, ◌-◌, ◌<◌, ◌≤◌, ◌++◌, lit<, refl, sym, ◌∙◌, arith, AllHold, all_append, all_prefix, all_back, each_holds, all_of_each, TableId, TypeDef, NestedClass, column_at, cell_columns, cell_count, column_of, MemberList, owner_of, member_of, Links, IsOwned, IsNested, AreLinked, Checked, rules_of_start, rules_of_run, rules_of_runs, rules_of_nesting_in, rules_of_nesting, rules_of_links}
use Rattle.std.proofs.Math.Logic.{∥∥₁_elim}
use Rattle.std.specs.Coded.{Coded-set, coded_ℕ, le_prop}
use Rattle.table_schema.specs.declared.column.ColumnKind.TheVariants as kind
use Rattle.metadata.specs.declared.member_lists.MemberList.TheVariants.{Fields, Methods, Params, Events, Properties}

-- ---- the rules

module _ {F : Type 0} (checked : Checked F) where
  run_found : (list : MemberList) → AllHold (rules_of_run checked list) → IsOwned checked.links list
  unfolding rules_of_run rules_of_start
  run_found list all = record {
    ownerless = all.0;
    first = all.1.0;
    rising = λ row low high. (each_holds (rules_of_start checked list) 2 (checked.links.count (owner_of list) - 1) all.1.1 row low (omega arith)).0;
  }

  run_met : (list : MemberList) → IsOwned checked.links list → AllHold (rules_of_run checked list)
  unfolding rules_of_run rules_of_start
  run_met list is =
      (is.ownerless, (is.first, all_of_each (rules_of_start checked list) 2 (checked.links.count (owner_of list) - 1) (λ row low high. (is.rising row low (omega arith), tt))))

  runs_found : AllHold (rules_of_runs checked) → (list : MemberList) → IsOwned checked.links list
  unfolding rules_of_runs
  runs_found all list =
      let a = rules_of_run checked Fields in
      let b = rules_of_run checked Methods in
      let c = rules_of_run checked Params in
      let d = rules_of_run checked Events in
      let e = rules_of_run checked Properties in
      let more = all_back a (b ++ (c ++ (d ++ e))) all in
      let later = all_back b (c ++ (d ++ e)) more in
      let last = all_back c (d ++ e) later in
      run_found list (elim list as (λ l. AllHold (rules_of_run checked l)) [
        | Fields ↦ all_prefix a (b ++ (c ++ (d ++ e))) all
        | Methods ↦ all_prefix b (c ++ (d ++ e)) more
        | Params ↦ all_prefix c (d ++ e) later
        | Events ↦ all_prefix d e last
        | Properties ↦ all_back d e last
      ])

  runs_met : ((list : MemberList) → IsOwned checked.links list) → AllHold (rules_of_runs checked)
  unfolding rules_of_runs
  runs_met are =
      let run = λ (list : MemberList). run_met list (are list) in
      all_append (rules_of_run checked Fields) _ (run Fields)
      (all_append (rules_of_run checked Methods) _ (run Methods)
      (all_append (rules_of_run checked Params) _ (run Params)
      (all_append (rules_of_run checked Events) _ (run Events) (run Properties))))

  nesting_found : AllHold (rules_of_nesting checked) → (row : ℕ) → 1 ≤ row → row ≤ checked.links.count NestedClass → IsNested checked.links row
  unfolding rules_of_nesting rules_of_nesting_in
  nesting_found all row low high = (each_holds (rules_of_nesting_in checked) 1 (checked.links.count NestedClass) all row low (omega arith)).0

  nesting_met : ((row : ℕ) → 1 ≤ row → row ≤ checked.links.count NestedClass → IsNested checked.links row) → AllHold (rules_of_nesting checked)
  unfolding rules_of_nesting rules_of_nesting_in
  nesting_met are = all_of_each (rules_of_nesting_in checked) 1 (checked.links.count NestedClass) (λ row low high. (are row low (omega arith), tt))

  pub links_found : AllHold (rules_of_links checked) → AreLinked checked.links
  unfolding rules_of_links
  links_found all = record {
    owned = runs_found (all_prefix (rules_of_runs checked) (rules_of_nesting checked) all);
    nested = nesting_found (all_back (rules_of_runs checked) (rules_of_nesting checked) all);
  }

  pub links_met : AreLinked checked.links → AllHold (rules_of_links checked)
  unfolding rules_of_links
  links_met are = all_append (rules_of_runs checked) (rules_of_nesting checked) (runs_met are.owned) (nesting_met are.nested)

-- ---- links with the same numbers

-- a column of references to the rows of a table, which has the index of its cell
pub record IsRowColumn (table : TableId) (column : ℕ) (target : TableId) : Type 0 where
  pub within : column < cell_count table
  pub cell : column_of table column ≡ column
  pub refers : (column_at table column).kind ≡ kind.Row target

-- the numbers of rows that exist are the same
pub record AreAlike (links other : Links) : Type 0 where
  pub counts : (table : TableId) → links.count table ≡ other.count table
  pub starts : (list : MemberList) (row : ℕ) → 1 ≤ row → row ≤ links.count (owner_of list) → links.start list row ≡ other.start list row
  pub references : (table target : TableId) (row column : ℕ) → 1 ≤ row → row ≤ links.count table → IsRowColumn table column target
      → links.reference table row column ≡ other.reference table row column

module _ (links other : Links) (alike : AreAlike links other) where
  owned_alike : (list : MemberList) → IsOwned links list → IsOwned other list
  owned_alike list owned =
      let owners = alike.counts (owner_of list) in
      let same = alike.starts list in
      record {
        ownerless = λ none. sym (alike.counts (member_of list)) ∙ owned.ownerless (owners ∙ none);
        first = λ some. sym (same 1 (omega arith) (omega (arith, owners, some))) ∙ owned.first (λ none. some (sym owners ∙ none));
        rising = λ row low high.
            omega (arith, owned.rising row low (omega (arith, owners)), same (row - 1) (omega arith) (omega (arith, owners)), same row (omega arith) (omega (arith, owners)));
      }

  type_column : (column : ℕ) → column < 2 → IsRowColumn NestedClass column TypeDef
  unfolding cell_columns
  type_column zero below = record { within = lit< tt; cell = refl; refers = refl }
  type_column (suc zero) below = record { within = lit< tt; cell = refl; refers = refl }
  type_column (suc (suc column)) below = absurd (omega arith)

  pub links_alike : AreLinked links → AreLinked other
  links_alike are = record {
    owned = λ list. owned_alike list (are.owned list);
    nested = λ row low high.
        let here : row ≤ links.count NestedClass = omega (arith, alike.counts NestedClass) in
        let reference = λ (column : ℕ) (below : column < 2). alike.references NestedClass TypeDef row column low here (type_column column below) in
        omega (arith, are.nested row low here, reference 0 (omega arith), reference 1 (omega arith));
  }

-- links are valid if they are known to be, even without what shows it
pub links_known : (links : Links) → ∥ AreLinked links ∥₁ → AreLinked links
links_known links known = record {
  owned = λ list. record {
    ownerless = λ none. ∥∥₁_elim known (Coded-set coded_ℕ _ _) (λ are. (are.owned list).ownerless none);
    first = λ some. ∥∥₁_elim known (Coded-set coded_ℕ _ _) (λ are. (are.owned list).first some);
    rising = λ row low high. ∥∥₁_elim known le_prop (λ are. (are.owned list).rising row low high);
  };
  nested = λ row low high. ∥∥₁_elim known le_prop (λ are. are.nested row low high);
}
