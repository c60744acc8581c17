use Rattle.cli_regions.proofs.Prelude.{◌≡◌, ◌∙◌, ◌+◌, ◌-◌, ◌*◌, ◌/◌, ℕ, List, ap, arith, codes, length, map, min, sym, take, take-map, take_min, little_endian, part, directory_count, lfanew, sections_offset, wider, fields_from, seen_field, directories_offset, directories_regions, whole_directories, DIRECTORIES, DIRECTORY_FIELDS, and_then, said_as}
use Rattle.cli_regions.proofs.files.find_directories.Goals as goal

-- a list has no more items than its length
take_few : {X : Type 0} (items : List X) (count few : ℕ) → count ≡ min few (length items) → take count items ≡ take few items
take_few items count few is = ap (λ n. take n items) is ∙ take_min few items

pub returns : goal.returns
unfolding directories_regions
returns c =
    let file = c.args.file.now in
    let start = c.args.start in
    let at : start - 4 ≡ lfanew file + 116 + wider file = omega (arith, c.requires.directories) in
    let counted : c.u32_at-counted.result ≡ directory_count file = c.u32_at-counted.ensures.value ∙ ap (λ n. little_endian (part file n 4)) at in
    let room : (c.args.sections - start) / 8 ≡ (sections_offset file - directories_offset file) / 8 =
    (λ i. (c.requires.sections i - c.requires.directories i) / 8) in
    let few : c.min-named.result ≡ min (whole_directories file) 16 = omega (arith, c.min-whole.ensures, c.min-named.ensures, counted, room) in
    let directories = ap (map seen_field) c.split_at.ensures.front ∙ sym (take-map seen_field c.min-named.result _) ∙ take_few (map (λ of. (of.0.now, of.1)) DIRECTORIES) c.min-named.result (whole_directories file) few in
    let fields = ap (map seen_field) c.split_at-2.ensures.front ∙ sym (take-map seen_field (2 * c.min-named.result) _) ∙ take_few (map (λ of. (of.0.now, of.1)) DIRECTORY_FIELDS) (2 * c.min-named.result) (2 * whole_directories file) (omega (arith, few)) in
    and_then (said_as c.find_fields.ensures (λ i. fields_from (codes "data directory") (c.requires.directories i) (directories i)))
    (said_as c.find_fields-2.ensures (λ i. fields_from (codes "data directory") (c.requires.directories i) (fields i)))
