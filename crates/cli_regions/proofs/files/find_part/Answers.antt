use Rattle.cli_regions.proofs.Prelude.{◌≡◌, ◌∷◌, [], ◌++◌, ◌∙◌, ◌+◌, ap, arith, codes, drop, length, map, take, length-drop, length-take, before_nul, section_at, header_regions, numbered, section_bytes, section_header_regions, section_offset, section_regions, region, SECTION_HEADER, said_as}
use Rattle.cli_regions.proofs.files.find_part.Goals as goal

pub returns-in-Header : goal.returns-in-Header
unfolding section_header_regions
returns-in-Header c =
    let name = c.before_nul.ensures ∙ ap before_nul (c.split_at-2.ensures.front ∙ ap (take 8) (c.split_at.ensures.back ∙ ap (λ n. drop n c.args.file.now) c.requires.start)) in
    rw c.in-Header.is
    (said_as c.find_header.ensures (λ i. header_regions (codes "section header") (numbered (c.args.index + 1) (name i)) (c.requires.start i) 40 (map (λ of. (of.0.now, of.1)) SECTION_HEADER)))

pub returns-in-Bytes : goal.returns-in-Bytes
unfolding section_regions
returns-in-Bytes c =
    let file = c.args.file.now in
    let header = section_at file (section_offset file c.args.index) in
    let name = c.before_nul.ensures ∙ ap before_nul (c.split_at-2.ensures.front ∙ ap (take 8) (c.split_at.ensures.back ∙ ap (λ n. drop n c.args.file.now) c.requires.start)) in
    let count : c.u32_at-size.result ≡ header.size_of_raw_data = c.u32_at-size.ensures.value ∙ ap (λ n. (section_at file n).size_of_raw_data) c.requires.start in
    let from : c.u32_at-start.result ≡ header.pointer_to_raw_data = c.u32_at-start.ensures.value ∙ ap (λ n. (section_at file n).pointer_to_raw_data) c.requires.start in
    let long : c.min-count.result ≡ length (section_bytes file c.args.index) =
    omega (arith, c.min-count.ensures, count, from, c.saturating_sub-left.ensures, length-take header.size_of_raw_data (drop header.pointer_to_raw_data file), length-drop header.pointer_to_raw_data file) in
    rw c.in-Bytes.is (said_as c.look.ensures (λ i. region (from i) (long i) (codes "section" ++ numbered (c.args.index + 1) (name i)) ∷ []))
