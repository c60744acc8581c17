-- The row counts of tables, one after another.
use Rattle.schema.proofs.Prelude.{◌≡◌, ℕ, ◌+◌, ◌<◌, ◌≤◌, Bool, true, false, cond, List, length, take, map, get_or, refl, sym, ap, subst, ◌∙◌, arith, count_by, same_lists, get_or-map, length-map, get_or_default, sum_by_more, sum_by_more_le, count_by-le-length, AllHold, rules_from, each_holds, little_endian, part, TableId, Module, table_index_of, tables, Sizes, header_size, has_bit, valid_of, count_offset, count_in, sizes_of, rules_of_count_at, AreFew, table_index_at, table_index_below, table_at_index, length-tables}

-- the row count of a table that Valid names is before the first table
pub count_within : (test : TableId → Bool) (table : TableId) → test table ≡ true → header_size (count_by test (take (table_index_of table) tables)) + 4 ≤ header_size (count_by test tables)
count_within test table set =
    let P : TableId → Type 0 = λ t. count_by test (take (table_index_of table) tables) + cond (test t) 1 0 ≤ count_by test tables in
    let more : count_by test (take (table_index_of table) tables) + cond (test table) 1 0 ≤ count_by test tables =
    subst P (table_at_index table) (sum_by_more_le (λ t. cond (test t) 1 0) tables (table_index_of table) Module (omega (arith, table_index_below table, length-tables))) in
    let one : ◌≡◌ {A = ℕ} (cond (test table) 1 0) 1 = ap (λ b. cond b 1 0) set in
    omega (arith, more, one)

-- Valid names at most all tables
pub count_few : (test : TableId → Bool) → count_by test tables ≤ 38
count_few test = omega (arith, count_by-le-length test tables, length-tables)

-- the offset of the next row count
pub offset_set : (test : TableId → Bool) (i offset : ℕ) → i < 38 → offset ≡ header_size (count_by test (take i tables)) → test (get_or tables i Module) ≡ true → offset + 4 ≡ header_size (count_by test (take (i + 1) tables))
offset_set test i offset below e set =
    let more = sum_by_more (λ t. cond (test t) 1 0) tables i Module (omega (arith, length-tables)) in
    let one : ◌≡◌ {A = ℕ} (cond (test (get_or tables i Module)) 1 0) 1 = ap (λ b. cond b 1 0) set in
    omega (arith, more, one)

pub offset_clear : (test : TableId → Bool) (i offset : ℕ) → i < 38 → offset ≡ header_size (count_by test (take i tables)) → test (get_or tables i Module) ≡ false → offset ≡ header_size (count_by test (take (i + 1) tables))
offset_clear test i offset below e clear =
    let more = sum_by_more (λ t. cond (test t) 1 0) tables i Module (omega (arith, length-tables)) in
    let none : ◌≡◌ {A = ℕ} (cond (test (get_or tables i Module)) 1 0) 0 = ap (λ b. cond b 1 0) clear in
    omega (arith, more, none)

pub offset_at : (test : TableId → Bool) (i offset : ℕ) → i < 38 → offset ≡ header_size (count_by test (take i tables)) → offset ≡ header_size (count_by test (take (table_index_of (get_or tables i Module)) tables))
offset_at test i offset below e = e ∙ ap (λ (n : ℕ). header_size (count_by test (take n tables))) (sym (table_index_at i below))

-- a list of the values of each table, in the order of the tables
pub counts_are : (f : TableId → ℕ) (counts : List ℕ) → length counts ≡ 38 → ((k : ℕ) → k < 38 → get_or counts k 0 ≡ f (get_or tables k Module)) → counts ≡ map f tables
counts_are f counts long each =
    same_lists counts (map f tables) (omega (arith, long, length-map tables f, length-tables))
    (λ k d below.
    let low : k < 38 = omega arith in
    let there : k < length counts = below in
    get_or_default counts k d 0 there ∙ each k low ∙ sym (get_or-map f tables k Module d (omega (arith, length-tables))))

-- the row count of a table in a stream
pub count_counted : (stream : List ℕ) (table : TableId) → has_bit (valid_of stream) table ≡ true → count_in stream table ≡ little_endian (part stream (count_offset (valid_of stream) table) 4)
count_counted stream table set = ap (λ b. cond b (little_endian (part stream (count_offset (valid_of stream) table) 4)) 0) set

pub count_uncounted : (stream : List ℕ) (table : TableId) → has_bit (valid_of stream) table ≡ false → count_in stream table ≡ 0
count_uncounted stream table clear = ap (λ b. cond b (little_endian (part stream (count_offset (valid_of stream) table) 4)) 0) clear

-- the value of a tested bit of a stream
pub bit_there : (stream : List ℕ) (valid : ℕ) (table : TableId) (is answer : Bool) → valid ≡ valid_of stream → is ≡ has_bit valid table → is ≡ answer → has_bit (valid_of stream) table ≡ answer
bit_there stream valid table is answer e f g = ap (λ (n : ℕ). has_bit n table) (sym e) ∙ sym f ∙ g

-- the value of each table in a list of such values
pub count_is : (f : TableId → ℕ) (counts : List ℕ) → counts ≡ map f tables → (table : TableId) → get_or counts (table_index_of table) 0 ≡ f table
count_is f counts e table =
    ap (λ (xs : List ℕ). get_or xs (table_index_of table) 0) e ∙ get_or-map f tables (table_index_of table) Module 0 (omega (arith, table_index_below table, length-tables)) ∙ ap f (table_at_index table)

-- sizes are equal if all their fields are
pub same_sizes : (a b : Sizes) → a.counts ≡ b.counts → a.heap_sizes ≡ b.heap_sizes → a.sorted ≡ b.sorted → a.body ≡ b.body → a ≡ b
same_sizes a b c h s d = λ i. record { counts = c i; heap_sizes = h i; sorted = s i; body = d i }

-- if the rules for the header and for each row count hold, the counts are within their limit
pub few_from : (stream : List ℕ) → AllHold (rules_from (rules_of_count_at stream) 0 38) → AreFew (sizes_of stream)
few_from stream all = record {
  counts = λ table.
      let each = (each_holds (rules_of_count_at stream) 0 38 all (table_index_of table) (omega arith) (omega (arith, table_index_below table))).0 in
      let here : count_in stream (get_or tables (table_index_of table) Module) ≡ count_in stream table = ap (count_in stream) (table_at_index table) in
      let is = count_is (count_in stream) (map (count_in stream) tables) refl table in
      omega (arith, each, here, is);
  body = let few = count_few (has_bit (valid_of stream)) in omega arith;
}
