-- The model of a root is valid.
use Rattle.metadata.proofs.Prelude.{◌≡◌, ℕ, zero, suc, ◌+◌, ◌-◌, ◌%◌, ◌^◌, ◌<◌, ◌≤◌, Bool, eqb, List, [], ◌∷◌, take, drop, length, Contains, IsUtf8, refl, sym, ap, subst, ◌∙◌, inl, inr, Option, Some, None, IfSome, lit<, arith, length-append, option_map, cond_both, length-take, length-drop, length-replicate, Tables, UserStrings, Header, named, stream_name, HasNoNul, IsText, IsBlob, IsGuid, zero_padded, TableId, Token, SigKind, ColumnKind, tables, table_index_of, columns_of, column_at, tables_of, Sizes, count_of, kind_width, width_of, IsLaidOut, HoldsCell, Body, Encodes, IsEncodable, tokens, Cell, Number, Ref, Start, Metadata, rows_of, row_of, count_in, cell_in, Source, rows_in, number_of, IsThere, start_from, start_of, StandsFor, Refers, stream_in, source_in, cell_count, column_of, StandsIn, IsCell, IsRow, IsTable, IsTableAt, owner_of, cell_of, member_of, links_in, IsModel, IsTo, IsOfKind, IsHeld, Names, IsWithinMembers, IsValidCell, IsValidAt, start_in, row_in, links_of, IsValid}
use Rattle.std.specs.Prelude.{slice_get, unwrap_or, replicate}
use Rattle.std.proofs.lemmas.Str.{IsUtf8-nil}
use Rattle.packed.specs.Packed.{IsPacked}
use Rattle.table_schema.specs.declared.column.ColumnKind.TheVariants as kind
use Rattle.metadata.proofs.LinkLemmas.{AreAlike, links_alike}
use Rattle.metadata.proofs.ListLemmas.{list_within, list_kind, list_column}
use Rattle.metadata.proofs.ItemLemmas.{all_weaker, items_length, from_at}
use Rattle.table_schema.proofs.CellColumnLemmas.{cell_column}
use Rattle.table_schema.proofs.TableFacts.{table_at_index, table_index_below}

-- the laws of the crates below about roots and signatures
pub record Known : Type 0 where
  pub holds : (stream : List ℕ) (sizes : Sizes) (numbers : List (List (List ℕ))) → IsLaidOut stream sizes numbers
      → (table : TableId) (row column : ℕ) → 1 ≤ row → row ≤ count_of sizes table → column < length (columns_of table)
      → HoldsCell stream sizes numbers table row column
  pub encodable : (kind : SigKind) (signature : Body) (bytes : List ℕ) → Encodes kind signature bytes → IsEncodable signature

-- ---- the cell that a number represents is valid

packed_small : (n : ℕ) (bytes : List ℕ) → IsPacked n bytes → n < 2 ^ 29
packed_small n bytes (inl one) = let less = one.0 in omega (arith, less)
packed_small n bytes (inr (inl two)) = let less = two.0 in omega (arith, less)
packed_small n bytes (inr (inr four)) = four.0

no_nul_nil : HasNoNul []
no_nul_nil k d below = absurd (omega arith)

valid_text : (heap : List ℕ) (index : ℕ) (text : List ℕ) → IsText heap index text → HasNoNul text × IsUtf8 text
valid_text heap index text (inl null) = rw (null.1) (no_nul_nil, IsUtf8-nil)
valid_text heap index text (inr is) = (is.1.no_nul, is.2)

valid_blob : (heap : List ℕ) (index : ℕ) (blob : List ℕ) → IsBlob heap index blob → length blob < 2 ^ 29
valid_blob heap index blob (inl null) = rw (null.1) (lit< tt)
valid_blob heap index blob (inr is) = packed_small (length blob) is.1.count is.1.counts

valid_guid : (heap : List ℕ) (index : ℕ) (guid : Option (List ℕ)) → IsGuid heap index guid → IfSome guid (λ bytes. length bytes ≡ 16)
valid_guid heap index None is = tt
valid_guid heap index (Some guid) is = is.1.long

contains_listed : {X : Type 0} (xs : List X) (k : ℕ) (x : X) → slice_get xs k ≡ Some x → Contains xs x
contains_listed [] k x e = cc
contains_listed (y ∷ ys) zero x e = let same : y ≡ x = cc in (0, omega arith, same)
contains_listed (y ∷ ys) (suc k) x e = let tail = contains_listed ys k x e in (suc tail.0, omega (arith, tail.1), tail.2)

module _ (known : Known) (model : Metadata) (source : Source) (counts : (table : TableId) → count_in model table ≡ rows_in source table) where
  names : (token : Token) → IsThere source token → Names model token
  names token there = (there.0, rw (counts token.table) (there.1))

  -- a reference that represents a token is to an existing row, or is null and the column allows null
  refers : (k : ColumnKind) (listed : List (Option TableId)) (nullable : Bool) (token : Token) (cell : Cell)
      → ((reference : Option Token) → IsTo listed reference → IsOfKind k (Ref reference)) → ((reference : Option Token) → IsHeld k (Ref reference))
      → ((reference : Option Token) → IsWithinMembers model k (Ref reference))
      → Contains listed (Some token.table) → Refers source nullable token cell → IsValidCell model k nullable cell
  refers k listed nullable token cell of_kind held within has (inl null) = subst (IsValidCell model k nullable) (sym null.2) (record {
    of_kind = of_kind None tt;
    storable = tt;
    refers = null.1;
    within = within None;
    held = held None;
    types = tt;
  })
  refers k listed nullable token cell of_kind held within has (inr is) = subst (IsValidCell model k nullable) (sym is.1) (record {
    of_kind = of_kind (Some token) has;
    storable = tt;
    refers = names token is.0;
    within = within (Some token);
    held = held (Some token);
    types = tt;
  })

  number_valid : (k : ColumnKind) (nullable : Bool) (number : ℕ) (cell : Cell) → IsOfKind k (Number number) → IsHeld k (Number number)
      → IsWithinMembers model k (Number number) → cell ≡ Number number → IsValidCell model k nullable cell
  number_valid k nullable number cell of_kind held within is = subst (IsValidCell model k nullable) (sym is)
      (record { of_kind = of_kind; storable = tt; refers = tt; within = within; held = held; types = tt })

  pub valid_cell : (k : ColumnKind) (nullable : Bool) (start : TableId → ℕ) (number : ℕ) (cell : Cell) → number < 256 ^ kind_width source.sizes k
      → ((member : TableId) → k ≡ kind.List member → start member ≤ rows_in source member + 1)
      → StandsFor source k nullable start number cell → IsValidCell model k nullable cell
  valid_cell kind.U8 nullable start number cell fits starts stands = number_valid kind.U8 nullable number cell fits tt tt stands
  valid_cell kind.U16 nullable start number cell fits starts stands = number_valid kind.U16 nullable number cell fits tt tt stands
  valid_cell kind.U32 nullable start number cell fits starts stands = number_valid kind.U32 nullable number cell fits tt tt stands
  valid_cell kind.Padding nullable start number cell fits starts stands = absurd stands
  valid_cell kind.Text nullable start number cell fits starts stands = subst (IsValidCell model kind.Text nullable) (sym stands.2)
      (record { of_kind = tt; storable = valid_text source.texts number stands.0 stands.1; refers = tt; within = tt; held = tt; types = tt })
  valid_cell kind.Guid nullable start number cell fits starts stands = subst (IsValidCell model kind.Guid nullable) (sym stands.2)
      (record { of_kind = tt; storable = valid_guid source.guids number stands.0 stands.1; refers = tt; within = tt; held = tt; types = tt })
  valid_cell kind.Blob nullable start number cell fits starts stands = subst (IsValidCell model kind.Blob nullable) (sym stands.2)
      (record { of_kind = tt; storable = valid_blob source.blobs number stands.0 stands.1; refers = tt; within = tt; held = tt; types = tt })
  valid_cell (kind.Signature column) nullable start number cell fits starts stands =
      let signature = stands.1 in
      let encodes = stands.3 in
      subst (IsValidCell model (kind.Signature column) nullable) (sym stands.5) (record {
        of_kind = tt;
        storable = tt;
        refers = tt;
        within = tt;
        held = (encodes.column, known.encodable column signature stands.0 encodes);
        types = all_weaker (IsThere source) (Names model) names (tokens signature) stands.4;
      })
  valid_cell (kind.Row table) nullable start number cell fits starts stands =
      refers (kind.Row table) (Some table ∷ []) nullable (record { table = table; row = number }) cell (λ reference is. is) (λ reference. tt) (λ reference. tt)
      (0, omega arith, refl) stands
  valid_cell (kind.Coded coded) nullable start number cell fits starts stands =
      let token = stands.0 in
      let is = stands.1 in
      refers (kind.Coded coded) (tables_of coded) nullable token cell (λ reference h. h) (λ reference. tt) (λ reference. tt)
      (contains_listed _ is.tag (Some token.table) is.listed) stands.2
  valid_cell (kind.List member) nullable start number cell fits starts stands =
      let bound = starts member refl in
      let here : start member ≤ count_in model member + 1 = rw (counts member) bound in
      subst (IsValidCell model (kind.List member) nullable) (sym stands.1)
      (record { of_kind = tt; storable = tt; refers = tt; within = here; held = tt; types = tt })

-- ---- the starts of runs

start_bound : (value : ℕ → ℕ) (end row n : ℕ) → ((r : ℕ) → row ≤ r → r < row + n → value r ≤ end) → start_from value end row n ≤ end
start_bound value end row zero low = omega arith
start_bound value end row (suc n) low =
    cond_both (eqb (value row) 0) (start_from value end (row + 1) n) (value row) (λ start. start ≤ end)
    (λ t. start_bound value end (row + 1) n (λ r l h. low r (omega arith) (omega arith))) (λ f. low row (omega arith) (omega arith))

-- ---- the whole

length_zeros : (n : ℕ) → length (replicate {A = ℕ} n 0) ≡ n
length_zeros n = length-replicate {A = ℕ} n 0

padding_is : (n : ℕ) → (n + (4 - n % 4) % 4) % 4 ≡ 0
padding_is n = omega arith

length-zero_padded : (bytes : List ℕ) → length (zero_padded bytes) % 4 ≡ 0
length-zero_padded bytes = rw (length-append bytes (replicate ((4 - length bytes % 4) % 4) 0), length_zeros ((4 - length bytes % 4) % 4)) (padding_is (length bytes))

padding_small : (bytes : List ℕ) → length bytes ≤ 2 ^ 30 → length (zero_padded bytes) ≤ 2 ^ 30
padding_small bytes small = omega (arith, small, length-append bytes (replicate ((4 - length bytes % 4) % 4) 0), length_zeros ((4 - length bytes % 4) % 4))

part_small : (root : List ℕ) (found : Option Header)
    → length (unwrap_or (option_map (λ header. take header.size (drop header.offset root)) found) []) ≤ length root
part_small root None = omega arith
part_small root (Some header) = omega (arith, length-take header.size (drop header.offset root), length-drop header.offset root)

module _ (known : Known) (root : List ℕ) (model : Metadata) (is : IsModel root model) where
  source : Source
  source = source_in root is.headers is.sizes is.numbers

  table_is : (table : TableId) → IsTable source table (rows_of model table)
  unfolding source IsTableAt
  table_is table =
      let here = from_at (IsTableAt source) 0 38 model.tables (table_index_of table) (table_index_of table) [] is.cells (table_index_below table) (omega arith) in
      subst (λ t. IsTable source t (rows_of model table)) (table_at_index table) here

  counts : (table : TableId) → count_in model table ≡ rows_in source table
  unfolding IsTable
  counts table = items_length (IsRow source table) 1 (rows_in source table) (rows_of model table) (table_is table)

  row_is : (table : TableId) (row : ℕ) → 1 ≤ row → row ≤ rows_in source table → IsRow source table row (row_of model table row)
  unfolding IsTable
  row_is table row first last = from_at (IsRow source table) 1 (rows_in source table) (rows_of model table) (row - 1) row [] (table_is table) (omega arith)
      (omega arith)

  row_long : (table : TableId) (row : ℕ) → 1 ≤ row → row ≤ rows_in source table → length (row_of model table row) ≡ cell_count table
  unfolding IsRow
  row_long table row first last = items_length (IsCell source table row) 0 (cell_count table) (row_of model table row) (row_is table row first last)

  cell_is : (table : TableId) (row cell_index : ℕ) → 1 ≤ row → row ≤ rows_in source table → cell_index < cell_count table
      → IsCell source table row cell_index (cell_in model table row cell_index)
  unfolding IsRow
  cell_is table row cell_index first last below =
      from_at (IsCell source table row) 0 (cell_count table) (row_of model table row) cell_index cell_index (Number 0) (row_is table row first last) below (omega arith)

  number_fits : (table : TableId) (row column : ℕ) → 1 ≤ row → row ≤ rows_in source table → column < length (columns_of table)
      → number_of source table row column < 256 ^ width_of is.sizes (column_at table column)
  unfolding source number_of
  number_fits table row column first last below =
      (known.holds (stream_in root is.headers Tables) is.sizes is.numbers is.laid_out table row column first last below).fits

  -- the cell of a list column is the start of its run: a member's row, or the row after the last
  list_is : (table : TableId) (row cell_index : ℕ) (member : TableId) → 1 ≤ row → row ≤ rows_in source table → cell_index < cell_count table
      → (column_at table (column_of table cell_index)).kind ≡ kind.List member
      → (number_of source table row (column_of table cell_index) ≤ rows_in source member + 1)
      × (cell_in model table row cell_index ≡ Start (start_of source table row (column_of table cell_index) member))
  list_is table row cell_index member first last below lists =
      subst (λ k. StandsFor source k (column_at table (column_of table cell_index)).nullable (start_of source table row (column_of table cell_index))
      (number_of source table row (column_of table cell_index)) (cell_in model table row cell_index))
      lists (cell_is table row cell_index first last below)

  start_within : (table : TableId) (row cell_index : ℕ) (member : TableId) → 1 ≤ row → row ≤ rows_in source table → cell_index < cell_count table
      → (column_at table (column_of table cell_index)).kind ≡ kind.List member
      → start_of source table row (column_of table cell_index) member ≤ rows_in source member + 1
  unfolding start_of
  start_within table row cell_index member first last below lists =
      start_bound (λ r. number_of source table r (column_of table cell_index)) (rows_in source member + 1) row (rows_in source table + 1 - row)
      (λ r l h. (list_is table r cell_index member (omega arith) (omega arith) below lists).0)

  cell_valid : (table : TableId) (row cell_index : ℕ) → 1 ≤ row → row ≤ rows_in source table → cell_index < cell_count table
      → IsValidAt model table cell_index (cell_in model table row cell_index)
  unfolding source
  cell_valid table row cell_index first last below =
      let column = column_at table (column_of table cell_index) in
      valid_cell known model source counts column.kind column.nullable (start_of source table row (column_of table cell_index))
      (number_of source table row (column_of table cell_index))
      (cell_in model table row cell_index)
      (number_fits table row (column_of table cell_index) first last (cell_column table cell_index below).0)
      (λ member lists. start_within table row cell_index member first last below lists)
      (cell_is table row cell_index first last below)

  referred : (nullable : Bool) (table : TableId) (number : ℕ) (cell : Cell) → Refers source nullable (record { table = table; row = number }) cell
      → row_in cell ≡ number
  referred nullable table number cell (inl null) = ap row_in null.2 ∙ sym null.0
  referred nullable table number cell (inr there) = ap row_in there.1

  -- the links of the root have the numbers of those of the model
  alike : AreAlike (links_in source) (links_of model)
  alike = record {
    counts = λ table. sym (counts table);
    starts = λ list row first last.
        sym (ap start_in (list_is (owner_of list) row (cell_of list) (member_of list) first last (list_within list) (list_kind list)).1
        ∙ ap (λ (column : ℕ). start_of source (owner_of list) row column (member_of list)) (list_column list));
    references = λ table target row column first last to.
        let cell = cell_in model table row column in
        let at = subst (λ (c : ℕ). StandsIn source table row c cell) to.cell (cell_is table row column first last to.within) in
        let stands = subst (λ (k : ColumnKind). StandsFor source k (column_at table column).nullable (start_of source table row column) (number_of source table row column) cell)
        to.refers at in
        sym (referred (column_at table column).nullable target (number_of source table row column) cell stands);
  }

  pub is_valid : IsValid model
  unfolding source
  is_valid = record {
    version = is.is_root.version_is;
    user = record {
      zero_padded = subst (λ bytes. length bytes % 4 ≡ 0) (sym is.user) (length-zero_padded (stream_in root is.headers UserStrings));
      small = subst (λ bytes. length bytes ≤ 2 ^ 30) (sym is.user) (padding_small (stream_in root is.headers UserStrings)
          (omega (arith, is.small, part_small root (named (stream_name UserStrings) is.headers))));
    };
    tables = items_length (IsTableAt source) 0 38 model.tables is.cells;
    few = λ table. rw (counts table) (is.laid_out.few table);
    long = λ table row there. row_long table row there.0 (omega (arith, counts table, there.1));
    cells = λ table row cell_index there below. cell_valid table row cell_index there.0 (omega (arith, counts table, there.1)) below;
    linked = links_alike (links_in source) (links_of model) alike is.linked;
  }
