-- Parts of canonical roots, by computation. The tests compare whole roots.
use Rattle.root_writer.proofs.Prelude.{◌≡◌, ℕ, length, ◌++◌, List, [], ◌∷◌, refl, Some, TypeDef, TypeRef, Field, MethodDef, Module, Constant, Assembly, PropertyMap, tables, columns_of, Sizes, row_bytes, bits_of, is_holder, counted, Cell, Number, Bytes, Ref, Start, Metadata, Pools, used, cell_number, numbers_of, wide_bit, sizes_of}
use Rattle.std.specs.Prelude.{replicate}
use Rattle.table_schema.specs.declared.coded.Coded.TheVariants.{TypeDefOrRef}
use Rattle.table_schema.specs.declared.column.ColumnKind.TheVariants as kind
use Rattle.heap_pools.specs.Ending.{ends_with}

-- attributes of the assembly, of the assembly again, and of the module, so that their parents are 46, 46 and 39
abbrev attribute : Cell → List Cell
attribute parent = parent ∷ Ref (Some (record { table = MethodDef; row = 1 })) ∷ Bytes [] ∷ []

abbrev of_assembly : Cell
of_assembly = Ref (Some (record { table = Assembly; row = 1 }))

abbrev of_module : Cell
of_module = Ref (Some (record { table = Module; row = 1 }))

abbrev with_attributes : List (List Cell) → Metadata
with_attributes attributes = record { version = []; user = []; tables = replicate 9 [] ++ attributes ∷ replicate 28 [] }

-- the bit of CustomAttribute is set if and only if its parents are in order; the other bits do not depend on it
pub out_of_order : (sizes_of (with_attributes (attribute of_assembly ∷ attribute of_assembly ∷ attribute of_module ∷ []))).sorted ≡ 0x16003301EA00
unfolding tables bits_of used sizes_of ends_with is_holder counted
out_of_order = refl

pub in_order : (sizes_of (with_attributes (attribute of_module ∷ attribute of_assembly ∷ attribute of_assembly ∷ []))).sorted ≡ 0x16003301FA00
unfolding tables bits_of used sizes_of ends_with is_holder counted
in_order = refl

-- if each table has 65535 rows, a start has two bytes, and the start after the last member is 0
abbrev full : Sizes
full = record { counts = replicate 38 65535; heap_sizes = 0; sorted = 0; body = 176 }

abbrev none : Pools
none = record { texts = []; blobs = []; guids = [] }

pub last_start : row_bytes full (columns_of PropertyMap)
    (numbers_of none (columns_of PropertyMap) (Ref (Some (record { table = TypeDef; row = 1 })) ∷ Start 65536 ∷ []))
    ≡ 0x01 ∷ 0x00 ∷ 0x00 ∷ 0x00 ∷ []
last_start = refl

-- a row of Constant: its padding is 0, and row 3 of Field is 12 as a HasConstant index
pub constant_row : numbers_of none (columns_of Constant) (Number 8 ∷ Ref (Some (record { table = Field; row = 3 })) ∷ Bytes [] ∷ []) ≡ 8 ∷ 0 ∷ 12 ∷ 0 ∷ []
constant_row = refl

-- row 2 of TypeRef has the tag 1 in TypeDefOrRef
pub coded_reference : cell_number none (kind.Coded TypeDefOrRef) (Ref (Some (record { table = TypeRef; row = 2 }))) ≡ 9
coded_reference = refl

-- indexes have four bytes if the heap has 65536 bytes or more
pub last_narrow : (heap : List ℕ) → length heap ≡ 65535 → wide_bit heap 4 ≡ 0
last_narrow heap long = rw long refl

pub first_wide : (heap : List ℕ) → length heap ≡ 65536 → wide_bit heap 4 ≡ 4
first_wide heap long = rw long refl
