-- The rules for rows hold if and only if their order and their links do.
use Rattle.metadata.proofs.Prelude.{◌≡◌, ℕ, ◌-◌, Bool, true, false, List, Option, Some, None, refl, arith, Rule, AllHold, rules_if, all_append, all_prefix, all_back, each_holds, all_of_each, TableId, key_of, rows_in, SourceAt, table_at, IsInOrder, is_said_sorted, IsByKey, AreByKey, AreLinked, links_in, in_place, rules_of_key_in, rules_of_keys, rules_of_order_by, rules_of_order_at, rules_of_order, rules_of_links, rules_of_rows}
use Rattle.packed.specs.declared.fault.Fault.{Fault}
use Rattle.metadata.proofs.LinkLemmas.{links_found, links_met}

-- order

keys_found : (here : SourceAt) (table : TableId) (key : ℕ) → AllHold (rules_of_keys here table key) → IsInOrder here.source table key
unfolding rules_of_keys rules_of_key_in
keys_found here table key all row low high = (each_holds (rules_of_key_in here table key) 2 (rows_in here.source table - 1) all row low (omega arith)).0

keys_met : (here : SourceAt) (table : TableId) (key : ℕ) → IsInOrder here.source table key → AllHold (rules_of_keys here table key)
unfolding rules_of_keys rules_of_key_in
keys_met here table key is = all_of_each (rules_of_key_in here table key) 2 (rows_in here.source table - 1) (λ row low high. (is row low (omega arith), tt))

where_found : (test : Bool) (ds : List (Rule Fault)) → AllHold (rules_if test ds) → test ≡ true → AllHold ds
where_found true ds all e = all
where_found false ds all e = absurd cc

where_met : (test : Bool) (ds : List (Rule Fault)) → (test ≡ true → AllHold ds) → AllHold (rules_if test ds)
where_met true ds all = all refl
where_met false ds all = tt

key_found : (here : SourceAt) (table : TableId) (key : Option ℕ) → AllHold (rules_of_order_by here table key) → IsByKey here.source table key
key_found here table None all = tt
key_found here table (Some key) all =
    λ said. keys_found here table key (where_found (is_said_sorted here.source table) (rules_of_keys here table key) all said)

pub key_met : (here : SourceAt) (table : TableId) (key : Option ℕ) → IsByKey here.source table key → AllHold (rules_of_order_by here table key)
key_met here table None is = tt
key_met here table (Some key) is = where_met (is_said_sorted here.source table) (rules_of_keys here table key) (λ said. keys_met here table key (is said))

order_found : (here : SourceAt) → AllHold (rules_of_order here) → AreByKey here.source
unfolding rules_of_order rules_of_order_at
order_found here all table_index below =
    key_found here (table_at table_index) (key_of (table_at table_index)) (each_holds (rules_of_order_at here) 0 38 all table_index (omega arith) (omega arith))

order_met : (here : SourceAt) → AreByKey here.source → AllHold (rules_of_order here)
unfolding rules_of_order rules_of_order_at
order_met here are =
    all_of_each (rules_of_order_at here) 0 38 (λ table_index low high.
    key_met here (table_at table_index) (key_of (table_at table_index)) (are table_index (omega arith)))

-- both

pub rows_found : (here : SourceAt) → AllHold (rules_of_rows here) → AreByKey here.source × AreLinked (links_in here.source)
unfolding rules_of_rows
rows_found here all = (
  order_found here (all_prefix (rules_of_order here) (rules_of_links (in_place here)) all),
  links_found (in_place here) (all_back (rules_of_order here) (rules_of_links (in_place here)) all),
)

pub rows_met : (here : SourceAt) → AreByKey here.source → AreLinked (links_in here.source) → AllHold (rules_of_rows here)
unfolding rules_of_rows
rows_met here ordered linked =
    all_append (rules_of_order here) (rules_of_links (in_place here)) (order_met here ordered) (links_met (in_place here) linked)
