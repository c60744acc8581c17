-- The bytes of tables, table by table.
use Rattle.root_writer.proofs.Prelude.{◌≡◌, ℕ, ◌+◌, ◌*◌, ◌-◌, ◌<◌, ◌≤◌, List, [], ◌++◌, length, get_or, take, drop, sym, ap, ◌∙◌, arith, sum_by, mul-le-mul_left, mul-le-mul_right, drop_all, drop_more, sum_by-drop_more, TableId, Module, tables, columns_of, Sizes, rows_bytes, tables_bytes}
use Rattle.root_writer.specs.Flat.{cells_of, table_in, tables_in}

-- the bytes of these tables, for a list of their numbers
abbrev pub bytes_in : Sizes → List TableId → List ℕ → List ℕ
bytes_in sizes listed numbers = tables_bytes sizes listed (tables_in sizes listed numbers)

pub next_table : (sizes : Sizes) (i : ℕ) (table : TableId) (numbers here tail : List ℕ) → table ≡ get_or tables i Module → i < length tables
    → here ≡ take (cells_of sizes table) numbers → tail ≡ drop (cells_of sizes table) numbers
    → bytes_in sizes (drop i tables) numbers ≡ rows_bytes sizes (columns_of table) (table_in sizes table here) ++ bytes_in sizes (drop (i + 1) tables) tail
next_table sizes i table numbers here tail is below prefix back =
    let more : List TableId = drop (i + 1) tables in
    ap (λ listed. bytes_in sizes listed numbers) (drop_more tables i Module below)
    ∙ ap (λ t. rows_bytes sizes (columns_of t) (table_in sizes t (take (cells_of sizes t) numbers)) ++ bytes_in sizes more (drop (cells_of sizes t) numbers)) (sym is)
    ∙ ap (λ list. rows_bytes sizes (columns_of table) (table_in sizes table list) ++ bytes_in sizes more (drop (cells_of sizes table) numbers)) (sym prefix)
    ∙ ap (λ list. rows_bytes sizes (columns_of table) (table_in sizes table here) ++ bytes_in sizes more list) (sym back)

pub no_table : (sizes : Sizes) (i : ℕ) (numbers : List ℕ) → length tables ≤ i → bytes_in sizes (drop i tables) numbers ≡ []
no_table sizes i numbers past = ap (λ listed. bytes_in sizes listed numbers) (drop_all i tables past)

-- the number of numbers in the tables that are left
pub cells_more : (sizes : Sizes) (i : ℕ) (table : TableId) → table ≡ get_or tables i Module → i < length tables
    → sum_by (cells_of sizes) (drop i tables) ≡ cells_of sizes table + sum_by (cells_of sizes) (drop (i + 1) tables)
cells_more sizes i table is below =
    sum_by-drop_more (cells_of sizes) tables i Module below ∙ ap (λ t. cells_of sizes t + sum_by (cells_of sizes) (drop (i + 1) tables)) (sym is)

-- a table with at most 9 columns and 0xFFFFFF rows has at most 150994935 numbers
pub cells_low : (columns count : ℕ) → columns ≤ 9 → count ≤ 0xFFFFFF → columns * count ≤ 150994935
cells_low columns count few rows = omega (arith, mul-le-mul_right count few, mul-le-mul_left 9 rows)

-- the numbers of a table, and those after it, among those that are left
pub within : (used cells more whole total : ℕ) → used ≡ cells → total ≡ whole → whole ≡ cells + more → used ≤ total
within used cells more whole total is many split = omega arith

pub behind : (cells more whole total : ℕ) → total ≡ whole → whole ≡ cells + more → total - cells ≡ more
behind cells more whole total many split = omega arith
