use Rattle.std.proofs.Common.{ap, ◌∙◌}
use Rattle.schema.specs.Sizes.{Sizes, count_of}
use Rattle.reading.proofs.source.Source.new.Goals as goal

pub invariant_of-result : goal.invariant_of-result
invariant_of-result c = record {
  counts = λ table. c.counts-counts.ensures.each table ∙ ap (λ (sizes : Sizes). count_of sizes table) c.layout.ensures;
  low = c.requires;
}
