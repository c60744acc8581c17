-- The bits of the tables that are in order, table by table.
use Rattle.writer.proofs.Prelude.{◌≡◌, ℕ, ◌+◌, ◌<◌, ◌≤◌, Bool, true, false, List, length, get_or, drop, sym, ap, ◌∙◌, arith, ◌↔◌, Option, Some, None, drop_all, sum_by-drop_more, TableId, Module, tables, key_of, bits_of, Metadata, is_by_key, table_keys, is_sorted, bit_if}
use Rattle.std.proofs.lemmas.Bool.Decides.{same_from_decides}
use Rattle.std.specs.Option.{is_some}
use Rattle.metadata.specs.Valid.{IsValid}
use Rattle.metadata.specs.KeyOrder.{IsKeyOrdered}

-- ---- bits

pub more_bits : (test : TableId → Bool) (items : List TableId) (i bits next total : ℕ) → items ≡ tables → i < length items
    → next ≡ bit_if (test (get_or items i Module)) (get_or items i Module)
    → bits + bits_of test (drop i tables) ≡ total → (bits + next) + bits_of test (drop (i + 1) tables) ≡ total
unfolding bits_of
more_bits test items i bits next total same below is whole =
    let here = is ∙ ap (λ (listed : List TableId). bit_if (test (get_or listed i Module)) (get_or listed i Module)) same in
    let long : i < length tables = omega (arith, ap length same) in
    let more = sum_by-drop_more (λ table. bit_if (test table) table) tables i Module long in
    omega (arith, here, more, whole)

pub all_bits : (test : TableId → Bool) (items : List TableId) (i bits total : ℕ) → items ≡ tables → length items ≤ i
    → bits + bits_of test (drop i tables) ≡ total → bits ≡ total
unfolding bits_of
all_bits test items i bits total same past whole =
    let none : bits_of test (drop i tables) ≡ 0 = ap (bits_of test) (drop_all i tables (omega (arith, ap length same))) in
    omega (arith, none, whole)

-- ---- a test

-- a table without a key is not in the bits of the tables that are in order
pub unkeyed : (model : Metadata) (table : TableId) (key : Option ℕ) → key ≡ key_of table → is_some key ≡ false → false ≡ is_sorted model table
unkeyed model table None is none = ap (is_by_key (table_keys model table)) is
unkeyed model table (Some key) is none = absurd cc

-- the Sorted bits of keyed tables of valid models say whether they are in order
abbrev pub ReportOrder : Type 0
ReportOrder = (model : Metadata) → IsValid model → (table : TableId) (key : ℕ) → key_of table ≡ Some key → (is_sorted model table ≡ true) ↔ IsKeyOrdered model table

pub keyed : ReportOrder → (model : Metadata) → IsValid model → (table : TableId) (key : Option ℕ) → key ≡ key_of table → is_some key ≡ true → (answer : Bool)
    → ((answer ≡ true) ↔ IsKeyOrdered model table) → answer ≡ is_sorted model table
keyed report model valid table None is there answer reported = absurd cc
keyed report model valid table (Some key) is there answer reported =
    same_from_decides answer (is_sorted model table) reported (report model valid table key (sym is))
