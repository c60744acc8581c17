use Rattle.writer.proofs.Prelude.{◌≡◌, length, refl, sym, ap, ◌∙◌, arith, Kind, Tables, Metadata, stream, size_of, StreamSizes, AreHeapLens, IsTablesPlan}
use Rattle.writer.specs.Outlined.{Describes}
use Rattle.writer.proofs.PlanLemmas.{sizes_are, tables_over}
use Rattle.writer.proofs.root_plan.lens_of.Goals as goal
use Rattle.writer.proofs.root_plan.lens_of.Goals.{After-root_len-len}

-- the stream sizes that were computed
abbrev sizes_of_streams : After-root_len-len → StreamSizes
sizes_of_streams c = record {
  tables = c.padded_len.result;
  strings = c.args.heaps.now.strings;
  user_strings = c.padded_len-2.result;
  guids = c.args.heaps.now.guids;
  blobs = c.args.heaps.now.blobs;
}

-- they are those of the model's streams
same_sizes : (c : After-root_len-len) (model : Metadata) → Describes c.args.outline.now model → AreHeapLens model c.args.heaps.now
    → IsTablesPlan model c.args.tables.now → (kind : Kind) → size_of (sizes_of_streams c) kind ≡ length (stream model kind)
same_sizes c model described lens is =
    let user = c.padded_len-2.ensures.value c.args.outline.now.user_strings.now refl ∙ ap length described.user in
    sizes_are model c.args.tables.now (sizes_of_streams c) is c.padded_len.ensures.value lens user

pub returns-then-tables-limit-clause-too_large : goal.returns-then-tables-limit-clause-too_large
returns-then-tables-limit-clause-too_large c model described lens is =
    tables_over model c.args.tables.now.len c.args.limit (c.streams_are_within_roots.ensures.stream model Tables) is.len c.if-tables-limit.true

pub returns-then-len-limit-clause-too_large : goal.returns-then-len-limit-clause-too_large
returns-then-len-limit-clause-too_large c model described lens is =
    omega (arith, c.root_len-len.ensures.len model (sym described.version) (same_sizes (goal.at.returns-then-len-limit-clause-too_large c).After-root_len-len model described lens is), c.if-len-limit.true)

pub returns-clause-sizes : goal.returns-clause-sizes
returns-clause-sizes c model described lens is = same_sizes (goal.at.returns-clause-sizes c).After-root_len-len model described lens is

pub returns-clause-len : goal.returns-clause-len
returns-clause-len c model described lens is = c.root_len-len.ensures.len model (sym described.version) (same_sizes (goal.at.returns-clause-len c).After-root_len-len model described lens is)
