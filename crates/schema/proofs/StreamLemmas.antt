-- A table stream, its rules and its sizes.
use Rattle.schema.proofs.Prelude.{◌≡◌, ℕ, zero, suc, ◌+◌, ◌*◌, ◌<◌, ◌≤◌, Bool, true, false, cond, List, [], ◌∷◌, ◌++◌, take, drop, map, length, get_or, refl, sym, subst, inl, inr, ◌∙◌, ap, append_assoc, length-append, add-zero, arith, Result, Ok, Err, count_by, cases_Bool, drop-drop, drop_at, drop_more, take-append-drop, get_or-drop, length-map, get_or-map, length-take-le, same_lists, sum_by-cons, AllHold, Reports, rules_from, all_append, all_prefix, all_back, all_of_each, none_fails, little_endian, part, TableId, Module, table_index_of, tables, Sizes, count_of, header_size, tables_end, number_bytes, tables_bytes, FitTables, bits_of, counts_bytes, IsLaidOut, IsTableStream, heap_sizes_of, valid_of, sorted_of, has_bit, count_in, sizes_of, rules_of_header, rules_of_count_at, rules_of_tables, rules_of_stream, table_index_at, table_index_below, table_at_index, length-tables}
use Rattle.std.specs.Result.{IfOk, IsOkAnd}
use Rattle.packed.specs.declared.fault.Fault.{Fault}
use Rattle.schema.proofs.BitLemmas.{bits_low, tests_are, names_tables}
use Rattle.schema.proofs.NumberLemmas.{IsBytes, length-number_bytes, part_of_number, part_fits, number_read}
use Rattle.schema.proofs.HeaderLemmas.{counts_are, count_is, count_counted, count_uncounted, same_sizes, few_from, offset_at}
use Rattle.schema.proofs.CellLemmas.{Begins, AreCounted, length-tables_bytes, tables_there}

-- one more table that passes the test, or does not
count_by-true : (test : TableId → Bool) (table : TableId) (listed : List TableId) → test table ≡ true → count_by test (table ∷ listed) ≡ 1 + count_by test listed
count_by-true test table listed e = sum_by-cons (λ t. cond (test t) 1 0) table listed ∙ ap (λ b. cond b 1 0 + count_by test listed) e

count_by-false : (test : TableId → Bool) (table : TableId) (listed : List TableId) → test table ≡ false → count_by test (table ∷ listed) ≡ count_by test listed
count_by-false test table listed e = sum_by-cons (λ t. cond (test t) 1 0) table listed ∙ ap (λ b. cond b 1 0 + count_by test listed) e ∙ omega arith

counts_bytes-true : (test : TableId → Bool) (sizes : Sizes) (table : TableId) (listed : List TableId) → test table ≡ true → counts_bytes test sizes (table ∷ listed) ≡ number_bytes 4 (count_of sizes table) ++ counts_bytes test sizes listed
counts_bytes-true test sizes table listed e = ap (λ b. cond b (number_bytes 4 (count_of sizes table)) [] ++ counts_bytes test sizes listed) e

counts_bytes-false : (test : TableId → Bool) (sizes : Sizes) (table : TableId) (listed : List TableId) → test table ≡ false → counts_bytes test sizes (table ∷ listed) ≡ counts_bytes test sizes listed
counts_bytes-false test sizes table listed e = ap (λ b. cond b (number_bytes 4 (count_of sizes table)) [] ++ counts_bytes test sizes listed) e

-- the row counts have four bytes each
length-counts : (test : TableId → Bool) (sizes : Sizes) (listed : List TableId) → length (counts_bytes test sizes listed) ≡ 4 * count_by test listed
length-counts test sizes [] = refl
length-counts test sizes (table ∷ listed) =
    let tail = length-counts test sizes listed in
    elim (cases_Bool (test table)) [
      | inl set ↦ ap length (counts_bytes-true test sizes table listed set) ∙ omega (arith, length-append (number_bytes 4 (count_of sizes table)) (counts_bytes test sizes listed), length-number_bytes 4 (count_of sizes table), tail, count_by-true test table listed set)
      | inr clear ↦ ap length (counts_bytes-false test sizes table listed clear) ∙ tail ∙ ap (λ n. 4 * n) (sym (count_by-false test table listed clear))
    ]

-- what follows a prefix
past : (bytes prefix back : List ℕ) (at width : ℕ) → length prefix ≡ width → drop at bytes ≡ prefix ++ back → drop (at + width) bytes ≡ back
past bytes prefix back at width e stands = sym (drop-drop width at bytes) ∙ ap (drop width) stands ∙ drop_at prefix back width e

-- a row count follows those before it
count_stands : (test : TableId → Bool) (sizes : Sizes) (listed : List TableId) (bytes back : List ℕ) (at k : ℕ) → drop at bytes ≡ counts_bytes test sizes listed ++ back → k < length listed → test (get_or listed k Module) ≡ true
    → Begins bytes (at + 4 * count_by test (take k listed)) (number_bytes 4 (count_of sizes (get_or listed k Module)))
count_stands test sizes [] bytes back at k stands below set = absurd (omega arith)
count_stands test sizes (table ∷ listed) bytes back at zero stands below set =
    rw (add-zero at) (
      counts_bytes test sizes listed ++ back,
      stands ∙ ap (λ (bs : List ℕ). bs ++ back) (counts_bytes-true test sizes table listed set) ∙ append_assoc (number_bytes 4 (count_of sizes table)) (counts_bytes test sizes listed) back,
    )
count_stands test sizes (table ∷ listed) bytes back at (suc k) stands below set =
    let P : ℕ → Type 0 = λ n. Begins bytes n (number_bytes 4 (count_of sizes (get_or listed k Module))) in
    elim (cases_Bool (test table)) [
      | inl here ↦
          let next = past bytes (number_bytes 4 (count_of sizes table)) (counts_bytes test sizes listed ++ back) at 4 (length-number_bytes 4 (count_of sizes table))
          (stands ∙ ap (λ (bs : List ℕ). bs ++ back) (counts_bytes-true test sizes table listed here) ∙ append_assoc (number_bytes 4 (count_of sizes table)) (counts_bytes test sizes listed) back) in
          subst P (omega (arith, count_by-true test table (take k listed) here)) (count_stands test sizes listed bytes back (at + 4) k next (omega arith) set)
      | inr here ↦
          let next = stands ∙ ap (λ (bs : List ℕ). bs ++ back) (counts_bytes-false test sizes table listed here) in
          subst P (omega (arith, count_by-false test table (take k listed) here)) (count_stands test sizes listed bytes back at k next (omega arith) set)
    ]

-- if each count is that of the number there, the bytes of the counts are there
counts_there : (test : TableId → Bool) (sizes : Sizes) (listed : List TableId) (bytes : List ℕ) (at : ℕ) → IsBytes bytes → at + 4 * count_by test listed ≤ length bytes
    → ((k offset : ℕ) → k < length listed → test (get_or listed k Module) ≡ true → offset ≡ at + 4 * count_by test (take k listed) → count_of sizes (get_or listed k Module) ≡ little_endian (part bytes offset 4))
    → drop at bytes ≡ counts_bytes test sizes listed ++ drop (at + 4 * count_by test listed) bytes
counts_there test sizes [] bytes at are long each = ap (λ n. drop n bytes) (sym (add-zero at))
counts_there test sizes (table ∷ listed) bytes at are long each =
    elim (cases_Bool (test table)) [
      | inl here ↦
          let more = count_by-true test table listed here in
          let end : at + 4 + 4 * count_by test listed ≡ at + 4 * count_by test (table ∷ listed) = omega (arith, more) in
          let number : count_of sizes table ≡ little_endian (part bytes at 4) = each 0 at (omega arith) here (sym (add-zero at)) in
          let prefix : part bytes at 4 ≡ number_bytes 4 (count_of sizes table) = sym (part_of_number bytes at 4 are (omega (arith, more))) ∙ ap (number_bytes 4) (sym number) in
          let next = counts_there test sizes listed bytes (at + 4) are (omega (arith, more)) (λ k offset below set e. each (suc k) offset (omega arith) set (omega (arith, e, count_by-true test table (take k listed) here))) in
          sym (take-append-drop 4 (drop at bytes)) ∙ ap (λ (f : List ℕ). f ++ drop 4 (drop at bytes)) prefix ∙ ap (λ (b : List ℕ). number_bytes 4 (count_of sizes table) ++ b) (drop-drop 4 at bytes ∙ next)
          ∙ sym (append_assoc (number_bytes 4 (count_of sizes table)) (counts_bytes test sizes listed) (drop (at + 4 + 4 * count_by test listed) bytes))
          ∙ ap (λ (bs : List ℕ). bs ++ drop (at + 4 + 4 * count_by test listed) bytes) (sym (counts_bytes-true test sizes table listed here))
          ∙ ap (λ n. counts_bytes test sizes (table ∷ listed) ++ drop n bytes) end
      | inr here ↦
          let more = count_by-false test table listed here in
          let end : at + 4 * count_by test listed ≡ at + 4 * count_by test (table ∷ listed) = omega (arith, more) in
          let next = counts_there test sizes listed bytes at are (omega (arith, more)) (λ k offset below set e. each (suc k) offset (omega arith) set (omega (arith, e, count_by-false test table (take k listed) here))) in
          next ∙ ap (λ (bs : List ℕ). bs ++ drop (at + 4 * count_by test listed) bytes) (sym (counts_bytes-false test sizes table listed here))
          ∙ ap (λ n. counts_bytes test sizes (table ∷ listed) ++ drop n bytes) end
    ]

-- seven parts one after another
regroup : (a b c d e f g : List ℕ) → a ++ b ++ c ++ d ++ e ++ f ++ g ≡ a ++ (b ++ (c ++ (d ++ (e ++ (f ++ g)))))
regroup a b c d e f g = simp append_assoc

record Parts (stream b c d e f g : List ℕ) : Type 0 where
  version : drop 4 stream ≡ b ++ drop 8 stream
  valid : drop 8 stream ≡ c ++ (d ++ (e ++ (f ++ g)))
  sorted : drop 16 stream ≡ d ++ (e ++ (f ++ g))
  counts : drop 24 stream ≡ e ++ (f ++ g)
  long : length stream ≡ 24 + (length e + (length f + length g))

parts_of : (stream a b c d e f g : List ℕ) → stream ≡ a ++ b ++ c ++ d ++ e ++ f ++ g → length a ≡ 4 → length b ≡ 4 → length c ≡ 8 → length d ≡ 8 → Parts stream b c d e f g
parts_of stream a b c d e f g whole la lb lc ld =
    let all = whole ∙ regroup a b c d e f g in
    let at4 = past stream a (b ++ (c ++ (d ++ (e ++ (f ++ g))))) 0 4 la all in
    let at8 = past stream b (c ++ (d ++ (e ++ (f ++ g)))) 4 4 lb at4 in
    let at16 = past stream c (d ++ (e ++ (f ++ g))) 8 8 lc at8 in
    let at24 = past stream d (e ++ (f ++ g)) 16 8 ld at16 in
    record {
      version = at4 ∙ ap (λ (tail : List ℕ). b ++ tail) (sym at8);
      valid = at8;
      sorted = at16;
      counts = at24;
      long = ap length all ∙ lengths a b c d e f g la lb lc ld;
    }
  where
    lengths : (a b c d e f g : List ℕ) → length a ≡ 4 → length b ≡ 4 → length c ≡ 8 → length d ≡ 8 → length (a ++ (b ++ (c ++ (d ++ (e ++ (f ++ g)))))) ≡ 24 + (length e + (length f + length g))
    lengths a b c d e f g la lb lc ld = simp length-append (omega arith)

rebuild : (stream a b c d e f g x4 x8 x16 x24 body : List ℕ) → stream ≡ a ++ x4 → x4 ≡ b ++ x8 → x8 ≡ c ++ x16 → x16 ≡ d ++ x24 → x24 ≡ e ++ body → body ≡ f ++ g → stream ≡ a ++ b ++ c ++ d ++ e ++ f ++ g
rebuild stream a b c d e f g x4 x8 x16 x24 body h0 h4 h8 h16 h24 h = rw (h0, h4, h8, h16, h24, h) (sym (regroup a b c d e f g))

-- the parts of a table stream
parts_laid : (stream : List ℕ) (sizes : Sizes) (numbers : List (List (List ℕ))) (laid : IsLaidOut stream sizes numbers)
    → Parts stream (2 ∷ 0 ∷ sizes.heap_sizes ∷ laid.reserved_byte ∷ []) (number_bytes 8 (bits_of laid.counted tables)) (number_bytes 8 sizes.sorted) (counts_bytes laid.counted sizes tables) (tables_bytes sizes tables numbers) laid.tail
parts_laid stream sizes numbers laid =
    parts_of stream laid.reserved (2 ∷ 0 ∷ sizes.heap_sizes ∷ laid.reserved_byte ∷ []) (number_bytes 8 (bits_of laid.counted tables)) (number_bytes 8 sizes.sorted) (counts_bytes laid.counted sizes tables) (tables_bytes sizes tables numbers) laid.tail
    laid.whole laid.reserved_long refl (length-number_bytes 8 (bits_of laid.counted tables)) (length-number_bytes 8 sizes.sorted)

-- Valid, and the tables that it names
valid_laid : (stream : List ℕ) (sizes : Sizes) (numbers : List (List (List ℕ))) (laid : IsLaidOut stream sizes numbers) → valid_of stream ≡ bits_of laid.counted tables
valid_laid stream sizes numbers laid = number_read stream _ 8 8 (bits_of laid.counted tables) (bits_low laid.counted) (parts_laid stream sizes numbers laid).valid

counted_laid : (stream : List ℕ) (sizes : Sizes) (numbers : List (List (List ℕ))) (laid : IsLaidOut stream sizes numbers) → ◌≡◌ {A = TableId → Bool} (has_bit (valid_of stream)) laid.counted
counted_laid stream sizes numbers laid = ap has_bit (valid_laid stream sizes numbers laid) ∙ tests_are laid.counted

-- the row count of each table
count_laid : (stream : List ℕ) (sizes : Sizes) (numbers : List (List (List ℕ))) → IsLaidOut stream sizes numbers → (table : TableId) → count_in stream table ≡ count_of sizes table
count_laid stream sizes numbers laid table =
    let tests = counted_laid stream sizes numbers laid in
    let p = table_index_of table in
    let here = table_at_index table in
    elim (cases_Bool (laid.counted table)) [
      | inl set ↦
          let stands = rw here at (count_stands laid.counted sizes tables stream _ 24 p (parts_laid stream sizes numbers laid).counts (omega (arith, table_index_below table, length-tables)) (ap laid.counted here ∙ set)) in
          let few = laid.few table in
          count_counted stream table (ap (λ (f : TableId → Bool). f table) tests ∙ set)
          ∙ ap (λ (f : TableId → Bool). little_endian (part stream (header_size (count_by f (take p tables))) 4)) tests
          ∙ number_read stream stands.0 (header_size (count_by laid.counted (take p tables))) 4 (count_of sizes table) (omega arith) stands.1
      | inr clear ↦ count_uncounted stream table (ap (λ (f : TableId → Bool). f table) tests ∙ clear) ∙ sym (laid.uncounted table clear)
    ]

-- there is one list of rows for each table
pub fit_long : (sizes : Sizes) (listed : List TableId) (numbers : List (List (List ℕ))) → FitTables sizes listed numbers → length numbers ≡ length listed
fit_long sizes [] [] fit = refl
fit_long sizes [] (rows ∷ numbers) fit = absurd fit
fit_long sizes (table ∷ listed) [] fit = absurd fit
fit_long sizes (table ∷ listed) (rows ∷ numbers) fit = ap suc (fit_long sizes listed numbers fit.1)

counts_long : (stream : List ℕ) (sizes : Sizes) (numbers : List (List (List ℕ))) → IsLaidOut stream sizes numbers → length sizes.counts ≡ 38
counts_long stream sizes numbers laid = ap length laid.counts ∙ length-map numbers length ∙ fit_long sizes tables numbers laid.fit ∙ length-tables

-- the row count of the table with a table index
count_at : (sizes : Sizes) (k : ℕ) → k < 38 → count_of sizes (get_or tables k Module) ≡ get_or sizes.counts k 0
count_at sizes k below = ap (λ (n : ℕ). get_or sizes.counts n 0) (table_index_at k below)

-- a table stream has one list of sizes
pub sizes_laid : (stream : List ℕ) (sizes : Sizes) (numbers : List (List (List ℕ))) → IsLaidOut stream sizes numbers → sizes ≡ sizes_of stream
sizes_laid stream sizes numbers laid =
    let parts = parts_laid stream sizes numbers laid in
    let counts = counts_are (count_in stream) sizes.counts (counts_long stream sizes numbers laid) (λ k below. sym (count_laid stream sizes numbers laid (get_or tables k Module) ∙ count_at sizes k below)) in
    let heap : sizes.heap_sizes ≡ heap_sizes_of stream = sym (sym (get_or-drop 4 stream 2 0) ∙ ap (λ (bs : List ℕ). get_or bs 2 0) parts.version) in
    let sorted : sizes.sorted ≡ sorted_of stream = sym (number_read stream _ 16 8 sizes.sorted laid.sorted_low parts.sorted) in
    let body : sizes.body ≡ (sizes_of stream).body = laid.body ∙ ap (λ (f : TableId → Bool). header_size (count_by f tables)) (sym (counted_laid stream sizes numbers laid)) in
    same_sizes sizes (sizes_of stream) counts heap sorted body

-- the number of rows is the row count
counted_each : (sizes : Sizes) (listed : List TableId) (numbers : List (List (List ℕ))) → length numbers ≡ length listed → ((k : ℕ) → k < length listed → length (get_or numbers k []) ≡ count_of sizes (get_or listed k Module)) → AreCounted sizes listed numbers
counted_each sizes [] [] e each = tt
counted_each sizes [] (rows ∷ numbers) e each = absurd (omega arith)
counted_each sizes (table ∷ listed) [] e each = absurd (omega arith)
counted_each sizes (table ∷ listed) (rows ∷ numbers) e each = (each 0 (omega arith), counted_each sizes listed numbers (omega arith) (λ k below. each (suc k) (omega arith)))

pub counted_rows : (stream : List ℕ) (sizes : Sizes) (numbers : List (List (List ℕ))) → IsLaidOut stream sizes numbers → AreCounted sizes tables numbers
counted_rows stream sizes numbers laid =
    let long = fit_long sizes tables numbers laid.fit in
    counted_each sizes tables numbers long (λ k below.
    let low : k < 38 = omega (arith, length-tables) in
    sym (get_or-map length numbers k [] 0 (omega (arith, long))) ∙ ap (λ (xs : List ℕ). get_or xs k 0) (sym laid.counts) ∙ sym (count_at sizes k low))

-- the tables follow the row counts
pub body_laid : (stream : List ℕ) (sizes : Sizes) (numbers : List (List (List ℕ))) → IsLaidOut stream sizes numbers → Begins stream sizes.body (tables_bytes sizes tables numbers)
body_laid stream sizes numbers laid =
    let parts = parts_laid stream sizes numbers laid in
    rw (laid.body) (laid.tail, past stream (counts_bytes laid.counted sizes tables) (tables_bytes sizes tables numbers ++ laid.tail) 24 (4 * count_by laid.counted tables) (length-counts laid.counted sizes tables) parts.counts)

pub end_laid : (stream : List ℕ) (sizes : Sizes) (numbers : List (List (List ℕ))) → IsLaidOut stream sizes numbers → tables_end sizes ≤ length stream
end_laid stream sizes numbers laid =
    let parts = parts_laid stream sizes numbers laid in
    omega (arith, parts.long, laid.body, length-counts laid.counted sizes tables, length-tables_bytes sizes tables numbers laid.fit (counted_rows stream sizes numbers laid))

-- a table stream satisfies all rules
pub rules_laid : (stream : List ℕ) (sizes : Sizes) (numbers : List (List (List ℕ))) → IsLaidOut stream sizes numbers → AllHold (rules_of_stream stream)
rules_laid stream sizes numbers laid =
    let parts = parts_laid stream sizes numbers laid in
    let same = sizes_laid stream sizes numbers laid in
    let long = parts.long in
    let low : heap_sizes_of stream < 8 = subst (λ (s : Sizes). s.heap_sizes < 8) same laid.heap_sizes_low in
    let body : (sizes_of stream).body ≤ length stream = subst (λ (s : Sizes). s.body ≤ length stream) same (omega (arith, parts.long, laid.body, length-counts laid.counted sizes tables)) in
    let end : tables_end (sizes_of stream) ≤ length stream = subst (λ (s : Sizes). tables_end s ≤ length stream) same (end_laid stream sizes numbers laid) in
    all_append (rules_of_header stream) _ (omega arith, (ap (take 2) parts.version, (low, (record { counted = laid.counted; bits = valid_laid stream sizes numbers laid }, (body, tt)))))
    (all_append (rules_from (rules_of_count_at stream) 0 38) (rules_of_tables stream)
    (all_of_each (rules_of_count_at stream) 0 38 (λ k low high. let few = laid.few (get_or tables k Module) in (omega (arith, few, count_laid stream sizes numbers laid (get_or tables k Module)), tt)))
    (end, tt))

-- the number of rows is the row count
count_rows : (sizes : Sizes) (listed : List TableId) (numbers : List (List (List ℕ))) → AreCounted sizes listed numbers → (k : ℕ) → k < length listed → length (get_or numbers k []) ≡ count_of sizes (get_or listed k Module)
count_rows sizes [] numbers counted k below = absurd (omega arith)
count_rows sizes (table ∷ listed) [] counted k below = absurd counted
count_rows sizes (table ∷ listed) (rows ∷ numbers) counted zero below = counted.0
count_rows sizes (table ∷ listed) (rows ∷ numbers) counted (suc k) below = count_rows sizes listed numbers counted.1 k (omega arith)

-- the four bytes after the first four
version_there : (stream : List ℕ) → 24 ≤ length stream → part stream 4 2 ≡ 2 ∷ 0 ∷ [] → drop 4 stream ≡ 2 ∷ 0 ∷ heap_sizes_of stream ∷ get_or stream 7 0 ∷ drop 8 stream
version_there stream long version =
    sym (take-append-drop 2 (drop 4 stream)) ∙ ap (λ (f : List ℕ). f ++ drop 2 (drop 4 stream)) version
    ∙ ap (λ (b : List ℕ). 2 ∷ 0 ∷ b) (drop-drop 2 4 stream ∙ drop_more stream 6 0 (omega arith) ∙ ap (λ (b : List ℕ). heap_sizes_of stream ∷ b) (drop_more stream 7 0 (omega arith)))

-- a number of eight bytes at an offset
number_there : (stream : List ℕ) (offset number : ℕ) → IsBytes stream → offset + 8 ≤ length stream → little_endian (part stream offset 8) ≡ number → drop offset stream ≡ number_bytes 8 number ++ drop (offset + 8) stream
number_there stream offset number are long is =
    sym (take-append-drop 8 (drop offset stream)) ∙ ap (λ (f : List ℕ). f ++ drop 8 (drop offset stream)) (sym (part_of_number stream offset 8 are long) ∙ ap (number_bytes 8) is)
    ∙ ap (λ (b : List ℕ). number_bytes 8 number ++ b) (drop-drop 8 offset stream)

-- if all rules hold, the bytes are a table stream
pub stream_there : (stream : List ℕ) → IsBytes stream → AllHold (rules_of_stream stream) → IsTableStream stream (sizes_of stream)
stream_there stream are all =
    let sizes = sizes_of stream in
    let counted : TableId → Bool = has_bit (valid_of stream) in
    let header = all_prefix (rules_of_header stream) (rules_from (rules_of_count_at stream) 0 38 ++ rules_of_tables stream) all in
    let behind = all_back (rules_of_header stream) (rules_from (rules_of_count_at stream) 0 38 ++ rules_of_tables stream) all in
    let each = all_prefix (rules_from (rules_of_count_at stream) 0 38) (rules_of_tables stream) behind in
    let end = (all_back (rules_from (rules_of_count_at stream) 0 38) (rules_of_tables stream) behind).0 in
    let long = header.0 in
    let body = header.1.1.1.1.0 in
    let few = few_from stream each in
    let count = λ (table : TableId). count_is (count_in stream) sizes.counts refl table in
    let there = tables_there sizes tables stream sizes.body are end in
    let counts = counts_there counted sizes tables stream 24 are body (λ k offset below set e.
    count (get_or tables k Module) ∙ count_counted stream (get_or tables k Module) set
    ∙ ap (λ (n : ℕ). little_endian (part stream n 4)) (sym (offset_at counted k offset (omega (arith, length-tables)) e))) in
    let named = sym (names_tables (valid_of stream) header.1.1.1.0) in (
      there.0,
      record {
        reserved = take 4 stream;
        reserved_byte = get_or stream 7 0;
        counted = counted;
        tail = drop (tables_end sizes) stream;
        whole = rebuild stream (take 4 stream) (2 ∷ 0 ∷ sizes.heap_sizes ∷ get_or stream 7 0 ∷ []) (number_bytes 8 (bits_of counted tables)) (number_bytes 8 sizes.sorted) (counts_bytes counted sizes tables) (tables_bytes sizes tables there.0) (drop (tables_end sizes) stream)
            (drop 4 stream) (drop 8 stream) (drop 16 stream) (drop 24 stream) (drop sizes.body stream)
            (sym (take-append-drop 4 stream)) (version_there stream long header.1.0) (number_there stream 8 (bits_of counted tables) are (omega arith) named) (number_there stream 16 sizes.sorted are (omega arith) refl) counts there.3;
        reserved_long = length-take-le 4 stream (omega arith);
        heap_sizes_low = header.1.1.0;
        sorted_low = part_fits stream 16 8 are (omega arith);
        uncounted = λ table clear. count table ∙ count_uncounted stream table clear;
        few = few.counts;
        body = refl;
        counts = same_lists sizes.counts (map length there.0) (omega (arith, length-map tables (count_in stream), length-map there.0 length, fit_long sizes tables there.0 there.1))
            (λ k d below.
            let low : k < length tables = omega (arith, length-map tables (count_in stream)) in
            let in_numbers : k < length there.0 = omega (arith, fit_long sizes tables there.0 there.1) in
            get_or-map (count_in stream) tables k Module d low ∙ sym (count (get_or tables k Module)) ∙ sym (count_rows sizes tables there.0 there.2 k low) ∙ sym (get_or-map length there.0 k [] d in_numbers));
        fit = there.1;
      },
    )

-- what the relation says of a result that reports the rules
pub reports_found : (stream : List ℕ) (r : Result Sizes Fault) → IsBytes stream → Reports (rules_of_stream stream) r → IfOk r (λ sizes. sizes ≡ sizes_of stream) → IfOk r (λ sizes. IsTableStream stream sizes)
reports_found stream (Ok sizes) are all is = subst (IsTableStream stream) (sym is) (stream_there stream are all)
reports_found stream (Err found) are fails is = tt

pub reports_only : (stream : List ℕ) (sizes : Sizes) (numbers : List (List (List ℕ))) (r : Result Sizes Fault) → Reports (rules_of_stream stream) r → IfOk r (λ layout. layout ≡ sizes_of stream) → IsLaidOut stream sizes numbers
    → IsOkAnd r (λ layout. layout ≡ sizes)
reports_only stream sizes numbers (Ok layout) all is laid = is ∙ sym (sizes_laid stream sizes numbers laid)
reports_only stream sizes numbers (Err found) fails is laid = absurd (none_fails (rules_of_stream stream) found (rules_laid stream sizes numbers laid) fails)
