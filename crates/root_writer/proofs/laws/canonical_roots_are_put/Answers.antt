use Rattle.root_writer.proofs.Prelude.{[], ◌∷◌, ◌∙◌, ap, Tables, Strings, UserStrings, Guids, Blobs, stream, streams_of, root_of, held}
use Rattle.root_writer.proofs.HeadingLemmas.{heading_by_size, held_by_size}
use Rattle.root_writer.proofs.laws.canonical_roots_are_put.Goals as goal

pub returns : goal.returns
unfolding streams_of
returns c model size same =
    ap (root_of model.version (stream model)) (held_by_size (stream model) size same (Tables ∷ Strings ∷ UserStrings ∷ Guids ∷ Blobs ∷ []))
    ∙ heading_by_size model.version (stream model) size same (held size)
