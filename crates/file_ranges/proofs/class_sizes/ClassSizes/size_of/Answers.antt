use Rattle.file_ranges.proofs.Prelude.{subst, AreSizes}
use Rattle.file_ranges.specs.declared.class_sizes.ClassSizes.{ClassSizes}
use Rattle.file_ranges.proofs.SizeLemmas.{only_size}
use Rattle.file_ranges.proofs.class_sizes.ClassSizes.size_of.Goals as goal

pub returns-in-Some : goal.returns-in-Some
returns-in-Some c =
    let source = c.args.source.now.source in
    only_size source c.args.row c.in-Some.layout c.number.result (subst (λ (sizes : ClassSizes). AreSizes source sizes) c.in-ByParent.is c.requires)
    c.in-Some.ensures.sound c.number.ensures.value

pub returns-in-Largest : goal.returns-in-Largest
returns-in-Largest c = subst (λ (sizes : ClassSizes). AreSizes c.args.source.now.source sizes) c.in-Largest.is c.requires c.args.row
