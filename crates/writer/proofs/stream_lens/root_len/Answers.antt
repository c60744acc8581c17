use Rattle.writer.proofs.Prelude.{◌≡◌, ℕ, List, ap, sym, ◌∙◌, arith, length, Kind, Tables, Strings, UserStrings, Guids, Blobs, size_of, held, heading, heading_size}
use Rattle.writer.proofs.LengthLemmas.{five_sum, root_long}
use Rattle.writer.proofs.stream_lens.root_len.Goals as goal

pub returns-clause-parts : goal.returns-clause-parts
returns-clause-parts c =
    let size = size_of c.args.sizes.now in
    let kinds : c.as_slice.result.now ≡ held size = c.as_slice.ensures.kinds ∙ c.new-kinds.ensures in
    let prefix = c.heading_len-len.ensures.offset size ∙ ap (heading_size c.args.version.now size) kinds in
    omega (arith, prefix, five_sum size)

pub returns-clause-len : goal.returns-clause-len
returns-clause-len c model named same =
    let size = size_of c.args.sizes.now in
    let kinds : c.as_slice.result.now ≡ held size = c.as_slice.ensures.kinds ∙ c.new-kinds.ensures in
    let prefix = c.heading_len-len.ensures.len size ∙ ap (λ (listed : List Kind). length (heading c.args.version.now size listed)) kinds
    ∙ ap (λ (version : List ℕ). length (heading version size (held size))) (sym named) in
    omega (arith, prefix, five_sum size, root_long c.canonical_roots_are_put.ensures model size same)

pub returns-clause-limit : goal.returns-clause-limit
returns-clause-limit c =
    let low = c.requires.low in
    omega (arith, c.heading_len-len.ensures.limit, low Tables, low Strings, low UserStrings, low Guids, low Blobs)
