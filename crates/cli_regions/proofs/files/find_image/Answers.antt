use Rattle.cli_regions.proofs.Prelude.{◌≡◌, ◌∙◌, [], ◌+◌, ap, codes, little_endian, part, optional_header_size, header_regions, optional_fields, dos_header_regions, file_header_regions, image_regions, optional_header_regions, and_then, said_as}
use Rattle.cli_regions.proofs.files.find_image.Goals as goal

pub find_sections-requires-clause-count : goal.find_sections-requires-clause-count
find_sections-requires-clause-count c = c.u16_at-count.ensures.value ∙ ap (λ n. little_endian (part c.args.file.now (n + 6) 2)) c.u32_at-signature.ensures.value

pub find_sections-requires-2-clause-count : goal.find_sections-requires-2-clause-count
find_sections-requires-2-clause-count c = c.u16_at-count.ensures.value ∙ ap (λ n. little_endian (part c.args.file.now (n + 6) 2)) c.u32_at-signature.ensures.value

pub returns : goal.returns
unfolding image_regions dos_header_regions file_header_regions optional_header_regions
returns c =
    let file = c.args.file.now in
    let signature = c.u32_at-signature.ensures.value in
    let size : c.u16_at-optional_size.result ≡ optional_header_size file = c.u16_at-optional_size.ensures.value ∙ ap (λ n. little_endian (part file (n + 20) 2)) signature in
    let fields = c.optional_fields-fields.ensures.fields ∙ ap optional_fields (c.u16_at.ensures.value ∙ ap (λ n. little_endian (part file (n + 24) 2)) signature) in
    let dos_header = and_then c.look.ensures (and_then c.look-2.ensures c.look_field.ensures) in
    let file_header = said_as (and_then c.look-3.ensures c.find_header.ensures) (ap file_header_regions signature) in
    let optional_header = said_as c.find_header-2.ensures (λ i. header_regions (codes "optional header") [] (signature i + 24) (size i) (fields i)) in
    and_then (and_then (and_then (and_then (and_then dos_header file_header) optional_header) c.find_directories.ensures) c.find_sections.ensures) c.find_sections-2.ensures
