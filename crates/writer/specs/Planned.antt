-- The plan of the canonical root of a model, made before a byte of it is written (ECMA-335 II.24.2).
use Rattle.std.specs.Prelude.{◌≡◌, ◌+◌, ◌^◌, ◌≤◌, ℕ, List, ◌++◌, length, sum_by}
use Rattle.root.specs.declared.kind.Kind.{Kind}
use Rattle.table_schema.specs.Tables.{tables}
use Rattle.schema.specs.LaidOut.{tables_bytes}
use Rattle.heap_pools.specs.declared.pool_error.PoolError.{PoolError}
use Rattle.heap_pools.specs.declared.pool_error.PoolError.TheVariants as pool
use Rattle.heap_pools.specs.TextPlan.{TextPlan}
use Rattle.heap_entries.specs.Padding.{zero_padded}
use Rattle.metadata.specs.Metadata.{Metadata}
use Rattle.metadata.specs.Valid.{IsValid}
use Rattle.root_writer.specs.Pools.{pools_of, texts_stream, blobs_stream, guids_stream}
use Rattle.root_writer.specs.Numbers.{numbers}
use Rattle.root_writer.specs.TableStream.{sizes_of, header_bytes, table_stream}
use Rattle.root_writer.specs.Canonical.{canonical, stream}
use Rattle.root_writer.specs.Flat.{cells_of, tables_in}
use Rattle.root_writer.specs.Heading.{size_of, held, heading_size}
use Rattle.root_writer.specs.TableHeader.{table_header}
use Rattle.root_writer.specs.Written.{padding}
use Rattle.root_writer.specs.Numbered.{Numbered, IsNumbering}
use Rattle.writer.specs.declared.heap_lens.HeapLens.{HeapLens}
use Rattle.writer.specs.declared.tables_plan.TablesPlan.{TablesPlan}
use Rattle.writer.specs.declared.root_plan.RootPlan.{RootPlan}
use Rattle.writer.specs.declared.plan_error.PlanError.{PlanError}
use Rattle.writer.specs.declared.plan_error.PlanError.TheVariants as error

-- if a heap would exceed 2^30 bytes, the root would too
abbrev pub plan_error : PoolError → PlanError
plan_error pool.Memory = error.Memory
plan_error pool.Full = error.TooLarge

-- the pools are those of the model, and the numbers are those of its cells
pub record ArePooled (model : Metadata) (plan : TextPlan) (numbered : Numbered) : Type 0 where
  pub texts : plan.entries ≡ (pools_of model).texts
  pub numbering : IsNumbering model numbered

-- the lengths of the model's heap streams in bytes
pub record AreHeapLens (model : Metadata) (lens : HeapLens) : Type 0 where
  pub strings : lens.strings ≡ length (texts_stream model)
  pub guids : lens.guids ≡ length (guids_stream model)
  pub blobs : lens.blobs ≡ length (blobs_stream model)

-- The plan is that of the model's table stream: its row counts and HeapSizes, which determine the widths of the
-- columns; its Sorted; and its length without padding.
pub record IsTablesPlan (model : Metadata) (plan : TablesPlan) : Type 0 where
  pub counts : plan.layout.counts ≡ (sizes_of model).counts
  pub widths : plan.layout.heap_sizes ≡ (sizes_of model).heap_sizes
  pub heap_sizes : plan.heap_sizes ≡ (sizes_of model).heap_sizes
  pub sorted : plan.sorted ≡ (sizes_of model).sorted
  pub len : plan.len ≡ length (header_bytes model ++ tables_bytes (sizes_of model) tables (numbers model))

-- the table stream of a plan, with these numbers: its header, its rows and its padding
abbrev pub planned_tables : TablesPlan → List ℕ → List ℕ
planned_tables plan numbers =
    table_header plan.heap_sizes plan.sorted plan.layout ++ tables_bytes plan.layout tables (tables_in plan.layout tables numbers) ++ padding plan.len

-- The plan is that of the model's canonical root: its version and its user strings, once they are padded; its pools and
-- its numbers; its table stream, of which the plan and the numbers determine each byte; the length of each stream; and
-- the length of the root, which is the sum of those of its headers and its streams.
pub record IsRootPlan (model : Metadata) (plan : RootPlan) : Type 0 where
  pub version : plan.version.now ≡ model.version
  pub user : zero_padded plan.user_strings.now ≡ model.user
  pub texts : plan.texts.entries ≡ (pools_of model).texts
  pub numbering : IsNumbering model plan.numbering
  pub many : length plan.numbering.numbers ≡ sum_by (cells_of plan.tables.layout) tables
  pub table_stream : planned_tables plan.tables plan.numbering.numbers ≡ table_stream model
  pub tables : IsTablesPlan model plan.tables
  pub sizes : (kind : Kind) → size_of plan.sizes kind ≡ length (stream model kind)
  pub len : plan.len ≡ length (canonical model)
  pub parts : plan.len ≡ heading_size model.version (size_of plan.sizes) (held (size_of plan.sizes)) + sum_by (size_of plan.sizes) (held (size_of plan.sizes))
  pub short : length model.version ≤ 254
  pub limit : plan.len ≤ 2 ^ 30

-- the plan is that of some valid model's canonical root
abbrev pub IsPlan : RootPlan → Type 0
IsPlan plan = ∥ ((model : Metadata) × IsValid model × IsRootPlan model plan) ∥₁
