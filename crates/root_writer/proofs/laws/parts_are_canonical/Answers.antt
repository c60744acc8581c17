use Rattle.root_writer.proofs.Prelude.{◌++◌, ap, sym, ◌∙◌, fun_ext, flat_map, size_of, heading}
use Rattle.root_writer.specs.Root.{content, kinds_of, root_bytes}
use Rattle.root_writer.proofs.RootLemmas.{content_is}
use Rattle.root_writer.proofs.laws.parts_are_canonical.Goals as goal

pub returns : goal.returns
unfolding root_bytes
returns c model parts are =
    let size = size_of parts.sizes in
    ap (λ version. heading version size (kinds_of parts) ++ flat_map (content parts) (kinds_of parts)) are.version
    ∙ ap (λ streams. heading model.version size (kinds_of parts) ++ flat_map streams (kinds_of parts)) (fun_ext (content_is model parts are))
    ∙ sym (c.canonical_roots_are_put.ensures model size are.sizes)
