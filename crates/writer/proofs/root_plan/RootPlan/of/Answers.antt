use Rattle.writer.proofs.Prelude.{ℕ, ◌+◌, List, length, ap, ◌∙◌, arith, sum_by, Kind, Metadata, size_of, held, heading_size, ArePooled, AreHeapLens, IsTablesPlan, planned_tables}
use Rattle.writer.specs.Outlined.{Describes}
use Rattle.writer.proofs.PlanLemmas.{lens_are}
use Rattle.writer.proofs.root_plan.RootPlan.of.Goals as goal
use Rattle.writer.proofs.root_plan.RootPlan.of.Goals.{After-lens_of}

heaps_are : (c : After-lens_of) (model : Metadata) → ArePooled model c.args.texts c.args.numbering → AreHeapLens model c.of-heaps.result
heaps_are c model pooled =
    let heaps = c.of-heaps.ensures in
    lens_are model c.args.texts c.args.numbering pooled c.of-heaps.result heaps.strings heaps.guids heaps.blobs

tables_are : (c : After-lens_of) (model : Metadata) → Describes c.args.outline.now model → ArePooled model c.args.texts c.args.numbering
    → IsTablesPlan model c.of-tables.result
tables_are c model described pooled = c.of-tables.ensures.plan model described (c.heap_sizes.ensures.value model (heaps_are c model pooled))

pub returns-clause-plan : goal.returns-clause-plan
returns-clause-plan c model described pooled =
    let at = (goal.at.returns-clause-plan c).After-lens_of in
    let lens = heaps_are at model pooled in
    let is = tables_are at model described pooled in
    let size : Kind → ℕ = size_of c.in-Some.sizes in
    let numbered = pooled.numbering.numbers in
    record {
      version = described.version;
      user = described.user;
      texts = pooled.texts;
      numbering = pooled.numbering;
      many = ap length numbered ∙ c.of-tables.ensures.many model described;
      table_stream = ap (planned_tables c.of-tables.result) numbered ∙ c.of-tables.ensures.stream model described (c.heap_sizes.ensures.value model lens);
      tables = is;
      sizes = c.in-Some.ensures.sizes model described lens is;
      len = c.in-Some.ensures.len model described lens is;
      parts = c.in-Some.ensures.parts ∙ ap (λ (version : List ℕ). heading_size version size (held size) + sum_by size (held size)) described.version;
      short = omega (arith, c.args.outline.now.short, ap length described.version);
      limit = omega (arith, c.in-Some.ensures.fits, c.requires);
    }

pub returns-clause-fits : goal.returns-clause-fits
returns-clause-fits c model described pooled =
    let at = (goal.at.returns-clause-fits c).After-lens_of in
    omega (arith, c.in-Some.ensures.len model described (heaps_are at model pooled) (tables_are at model described pooled), c.in-Some.ensures.fits)
