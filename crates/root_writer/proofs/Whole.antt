-- The canonical root of a valid model is a root with that model.
use Rattle.root_writer.proofs.Prelude.{◌≡◌, ℕ, ◌+◌, ◌-◌, ◌%◌, ◌^◌, ◌<◌, ◌≤◌, Bool, true, false, ltb, List, [], ◌∷◌, ◌++◌, length, refl, sym, ap, subst, ◌∙◌, ◌⊎◌, inl, inr, ⊎_elim, arith, length-append, All, Option, Some, None, IfSome, replicate, AllByRecursion, flat_map, count_by, cases_Bool, cond_both, nat_tests, append-nil, nil_from_length, All-from_recursion, Kind, Tables, Strings, UserStrings, Guids, Blobs, Header, signature, IsVersion, AreHeaders, IsRoot, IsNumber, zero_padded, is_among, first_uses, distinct, TableId, ColumnKind, tables, column_at, header_size, number_bytes, tables_bytes, IsLaidOut, Cell, Guid, Metadata, count_in, Source, cell_count, column_of, table_at, AreTables, AreByKey, AreLinked, links_in, IsModel, used, guids_of, numbers, has_rows, is_sorted, sizes_of, header_bytes, table_stream, stream, streams_of, ended, directory, prefix, first_offset, root_of, canonical, IsValid}
use Rattle.schema.proofs.BitLemmas.{bits_low}
use Rattle.table_schema.specs.declared.column.ColumnKind.TheVariants as kind
use Rattle.metadata.specs.Streams.{stream_in, source_in}
use Rattle.std.proofs.lemmas.List.{length-replicate}
use Rattle.metadata.proofs.ItemLemmas.{all_weaker}
use Rattle.root_writer.proofs.HeldRoots.{MayRefer, IsValidCell, IsValidAt, IsValidRow, AreValidRows, tables_valid}
use Rattle.root_writer.proofs.Lists.{all_flat_map, all_from, length-filter_le}
use Rattle.heap_pools.proofs.MemberLemmas.{IsIn, in_filter}
use Rattle.root_writer.proofs.Facts.{Facts}
use Rattle.root_writer.proofs.Widths.{heap_sizes_low, count_is}
use Rattle.root_writer.proofs.Stands.{IsWithin}
use Rattle.root_writer.proofs.Rows.{fields, tables_low, fit_tables, counts_are}
use Rattle.root_writer.proofs.Tables.{source_of, tables_stand}
use Rattle.root_writer.proofs.Orders.{are_by_key, are_linked}
use Rattle.root_writer.proofs.Streams.{length-zero_padded, padding_of, ended_is, AreApart, all_kinds, filter_apart, in_all, headers_of, contents, are_headers, length-headers_of, stream_found, is_named, all_meet, directory_long, within}

-- ---- each GUID of a valid model has 16 bytes

abbrev IsLong : List ℕ → Type 0
IsLong guid = length guid ≡ 16

abbrev HasLong : Cell → Type 0
HasLong cell = AllByRecursion IsLong (guids_of cell)

long_reference : (model : Metadata) (nullable : Bool) (P : TableId → Type 0) (cell : Cell) → MayRefer model nullable P cell → HasLong cell
long_reference model nullable P cell (inl null) = rw (null.1) tt
long_reference model nullable P cell (inr is) = rw (is.3) tt

long_guid : (guid : Option (List ℕ)) → IfSome guid IsLong → HasLong (Guid guid)
long_guid None long = tt
long_guid (Some guid) long = (long, tt)

long_cell : (model : Metadata) (k : ColumnKind) (nullable : Bool) (cell : Cell) → IsValidCell model k nullable cell → HasLong cell
long_cell model kind.Padding nullable cell valid = absurd valid
long_cell model kind.Text nullable cell valid = rw (valid.3) tt
long_cell model kind.Guid nullable cell valid = rw (valid.2) (long_guid valid.0 valid.1)
long_cell model (kind.Signature column) nullable cell valid = rw (valid.4) tt
long_cell model (kind.Row table) nullable cell valid = long_reference model nullable _ cell valid
long_cell model (kind.Coded coded) nullable cell valid = long_reference model nullable _ cell valid
long_cell model _ nullable cell valid = rw (valid.2) tt

all_first_uses : (P : List ℕ → Type 0) (before values : List (List ℕ)) → AllByRecursion P values → AllByRecursion P (first_uses before values)
all_first_uses P before [] all = tt
all_first_uses P before (value ∷ values) all =
    let tail = all_first_uses P (before ++ value ∷ []) values all.1 in
    let uses = first_uses (before ++ value ∷ []) values in
    cond_both (is_among before value) uses (value ∷ uses) (AllByRecursion P) (λ t. tail) (λ f. (all.0, tail))

module _ (model : Metadata) (valid : IsValid model) where
  long_row : (table : TableId) (cells : List Cell) → IsValidRow model table cells → AllByRecursion HasLong cells
  unfolding IsValidRow
  long_row table cells row =
      all_from (IsValidAt model table) HasLong (λ cell_index cell v. long_cell model (column_at table (column_of table cell_index)).kind
      (column_at table (column_of table cell_index)).nullable cell v)
      0 (cell_count table) cells row

  long_used : AllByRecursion IsLong (used guids_of model)
  unfolding used
  long_used =
      all_flat_map IsLong (AllByRecursion (AllByRecursion HasLong)) (flat_map (flat_map guids_of))
      (λ rows all. all_flat_map IsLong (AllByRecursion HasLong) (flat_map guids_of)
      (λ cells has. all_flat_map IsLong HasLong guids_of (λ cell h. h) cells has) rows all)
      model.tables
      (all_from (AreValidRows model) (AllByRecursion (AllByRecursion HasLong))
      (λ i rows are. all_weaker (IsValidRow model (table_at i)) (AllByRecursion HasLong) (long_row (table_at i)) rows are) 0 38 model.tables (tables_valid model valid))

  sixteen : All (λ guid. length guid ≡ 16) (distinct (used guids_of model))
  sixteen = All-from_recursion IsLong (distinct (used guids_of model)) (all_first_uses IsLong ([] ∷ []) (used guids_of model) long_used)

-- ---- the table stream

no_rows : (n : ℕ) → ltb 0 n ≡ false → n ≡ 0
no_rows n e = grind (arith, nat_tests)

sorted_is : (model : Metadata) → (sizes_of model).sorted < 2 ^ 64
unfolding sizes_of
sorted_is model = bits_low (is_sorted model)

body_is : (model : Metadata) → (sizes_of model).body ≡ header_size (count_by (has_rows model) tables)
unfolding sizes_of
body_is model = refl

laid_out : (model : Metadata) → IsValid model → IsLaidOut (table_stream model) (sizes_of model) (fields model)
unfolding table_stream header_bytes
laid_out model valid =
    let body = header_bytes model ++ tables_bytes (sizes_of model) tables (numbers model) in
    let tail = replicate ((4 - length body % 4) % 4) 0 in
    record {
      reserved = 0 ∷ 0 ∷ 0 ∷ 0 ∷ [];
      reserved_byte = 1;
      counted = has_rows model;
      tail = tail;
      whole = ap (λ l. header_bytes model ++ l ++ tail) (sym (tables_low model));
      reserved_long = refl;
      heap_sizes_low = heap_sizes_low model;
      sorted_low = sorted_is model;
      uncounted = λ table none. count_is model table ∙ no_rows (count_in model table) none;
      few = λ table. rw (count_is model table) (valid.few table);
      body = body_is model;
      counts = counts_are model;
      fit = fit_tables model;
    }

-- ---- the root

ended_short : (version : List ℕ) → length version ≤ 254 → length (ended version) ≤ 258
ended_short version short = omega (
  arith,
  length-append (version ++ 0 ∷ []) (padding_of version),
  length-replicate {A = ℕ} ((4 - length (version ++ 0 ∷ []) % 4) % 4) 0,
  length-append version (0 ∷ []),
)

module _ (facts : Facts) (version : List ℕ) (streams : Kind → List ℕ) (kinds : List Kind) where
  offset : ℕ
  offset = first_offset version streams kinds

  headers : List Header
  headers = headers_of facts streams (20 + length (ended version)) offset kinds

  before_long : length (prefix version (length kinds) ++ directory streams offset kinds) ≡ offset
  unfolding offset
  before_long = length-append (prefix version (length kinds)) (directory streams offset kinds)
      ∙ ap (λ n. length (prefix version (length kinds)) + n) (directory_long facts streams offset 0 kinds)

  root_long : length (root_of version streams kinds) ≡ offset + length (contents facts streams kinds)
  unfolding root_of offset
  root_long = length-append (prefix version (length kinds) ++ directory streams offset kinds) (contents facts streams kinds)
      ∙ ap (λ n. n + length (contents facts streams kinds)) before_long

  find_stream : (kind : Kind) → IsIn kind kinds ⊎ (streams kind ≡ []) → stream_in (root_of version streams kinds) headers kind ≡ streams kind
  unfolding root_of offset headers
  find_stream kind here =
      stream_found facts streams kind (root_of version streams kinds) (prefix version (length kinds) ++ directory streams offset kinds)
      (20 + length (ended version)) offset kinds refl before_long here

  is_root : IsVersion version → length kinds ≤ 5 → AreApart kinds → IsIn Tables kinds → length (root_of version streams kinds) ≤ 2 ^ 30
      → IsRoot (root_of version streams kinds) version headers
  unfolding root_of offset headers
  is_root is few apart tables small =
      let long = root_long in
      let short = ended_short version is.short in
      let is_ended = ended_is version in
      let count = length-headers_of facts streams (20 + length (ended version)) offset kinds in
      record {
        ignored = 1 ∷ 0 ∷ 1 ∷ 0 ∷ 0 ∷ 0 ∷ 0 ∷ 0 ∷ [];
        length_bytes = number_bytes 4 (length (ended version));
        padding = padding_of version;
        flags = 0 ∷ 0 ∷ [];
        count_bytes = number_bytes 2 (length kinds);
        directory = directory streams offset kinds;
        tail = contents facts streams kinds;
        whole = ap (λ v. signature ++ (1 ∷ 0 ∷ 1 ∷ 0 ∷ 0 ∷ 0 ∷ 0 ∷ 0 ∷ []) ++ number_bytes 4 (length (ended version)) ++ v ++ (0 ∷ 0 ∷ []) ++ number_bytes 2
            (length kinds)
            ++ directory streams offset kinds ++ contents facts streams kinds) is_ended;
        ignored_long = refl;
        version_long = subst (λ v. IsNumber 4 (number_bytes 4 (length (ended version))) (length v)) is_ended
            (facts.encoded 4 (length (ended version)) (omega (arith, short)));
        version_padded = subst (λ v. length v % 4 ≡ 0) is_ended (length-zero_padded (version ++ 0 ∷ []));
        version_is = is;
        flags_long = refl;
        count = subst (IsNumber 2 (number_bytes 2 (length kinds))) (sym count) (facts.encoded 2 (length kinds) (omega (arith, few)));
        headers_are = subst (λ v. AreHeaders (20 + length v) (directory streams offset kinds) headers) is_ended
            (are_headers facts streams (20 + length (ended version)) offset kinds (omega (arith, long, small)));
        headers_meet = all_meet facts streams (length (root_of version streams kinds)) [] (20 + length (ended version)) offset kinds apart (λ kind h. refl)
            (omega (arith, long));
        tables = is_named facts streams Tables (20 + length (ended version)) offset kinds tables;
      }

  stream_short : (kind : Kind) → IsIn kind kinds ⊎ (streams kind ≡ []) → length (streams kind) ≤ length (root_of version streams kinds)
  stream_short kind (inl h) = omega (arith, root_long, within facts streams kind kinds h)
  stream_short kind (inr none) = omega (arith, ap length none)

-- ---- the canonical root

is_held : (bytes : List ℕ) → (ltb 0 (length bytes) ≡ true) ⊎ (bytes ≡ [])
is_held bytes = ⊎_elim
    (λ (t : ltb 0 (length bytes) ≡ true). inl t)
    (λ (f : ltb 0 (length bytes) ≡ false). inr (nil_from_length bytes (no_rows (length bytes) f)))
    (cases_Bool (ltb 0 (length bytes)))

module _ (facts : Facts) (model : Metadata) (valid : IsValid model) (small : length (canonical model) ≤ 2 ^ 30) where
  abbrev kinds : List Kind
  kinds = streams_of model

  holds : (kind : Kind) → IsIn kind kinds ⊎ (stream model kind ≡ [])
  unfolding streams_of
  holds kind = ⊎_elim
      (λ (t : ltb 0 (length (stream model kind)) ≡ true). inl (in_filter (λ k. ltb 0 (length (stream model k))) kind all_kinds (in_all kind) t))
      (λ (none : stream model kind ≡ []). inr none)
      (is_held (stream model kind))

  few_kinds : length kinds ≤ 5
  unfolding streams_of
  few_kinds = length-filter_le (λ k. ltb 0 (length (stream model k))) all_kinds

  apart_kinds : AreApart kinds
  unfolding streams_of
  apart_kinds = filter_apart (λ k. ltb 0 (length (stream model k)))

  some_tables : 0 < length (table_stream model)
  unfolding table_stream header_bytes
  some_tables = omega arith

  tables_held : IsIn Tables kinds
  tables_held = ⊎_elim (λ (h : IsIn Tables kinds). h) (λ (none : table_stream model ≡ []). absurd (omega (arith, some_tables, ap length none))) (holds Tables)

  short : (kind : Kind) → length (stream model kind) ≤ 2 ^ 30
  short kind = omega (arith, stream_short facts model.version (stream model) kinds kind (holds kind), small)

  inside : IsWithin model
  inside = record { texts = short Strings; blobs = short Blobs; guids = short Guids; counts = valid.few; sixteen = sixteen model valid }

  root_headers : List Header
  root_headers = headers facts model.version (stream model) kinds

  find : (kind : Kind) → stream_in (canonical model) root_headers kind ≡ stream model kind
  unfolding root_headers
  find kind = find_stream facts model.version (stream model) kinds kind (holds kind)

  same_source : source_in (canonical model) root_headers (sizes_of model) (fields model) ≡ source_of model
  same_source = λ i. record { sizes = sizes_of model; numbers = fields model; texts = find Strings i; blobs = find Blobs i; guids = find Guids i }

  user_is : model.user ≡ zero_padded (stream_in (canonical model) root_headers UserStrings)
  user_is =
      let whole : model.user ++ replicate ((4 - length model.user % 4) % 4) 0 ≡ model.user =
      ap (λ n. model.user ++ replicate {A = ℕ} ((4 - n) % 4) 0) valid.user.zero_padded ∙ append-nil model.user in
      sym whole ∙ ap zero_padded (sym (find UserStrings))

  -- the canonical root has the model
  pub is_model : IsModel (canonical model) model
  unfolding root_headers
  is_model =
      let source = source_in (canonical model) root_headers (sizes_of model) (fields model) in
      record {
        small = small;
        headers = root_headers;
        is_root = is_root facts model.version (stream model) kinds valid.version few_kinds apart_kinds tables_held small;
        sizes = sizes_of model;
        numbers = fields model;
        laid_out = subst (λ bytes. IsLaidOut bytes (sizes_of model) (fields model)) (sym (find Tables)) (laid_out model valid);
        cells = subst (λ (s : Source). AreTables s model.tables) (sym same_source) (tables_stand facts model valid inside);
        ordered = subst (λ (s : Source). AreByKey s) (sym same_source) (are_by_key model valid inside);
        linked = subst (λ (s : Source). AreLinked (links_in s)) (sym same_source) (are_linked model valid inside facts);
        user = user_is;
      }
