-- A root, its rules and its stream headers.
use Rattle.root.proofs.Prelude.{◌≡◌, ℕ, ◌+◌, ◌≤◌, ◌^◌, List, length, Option, Some, None, refl, ap, ◌∙◌, arith, AllHold, rules_from, all_prefix, all_back, Kind, Header, RootRead, named, range_of, stream_name, IsRoot, root_read, header_count, headers_before, rules_of_root_header, rules_of_header, rules_of_tables, rules_of_root}
use Rattle.std.specs.Option.{IfSome, option_map}
use Rattle.root.proofs.RootLemmas.{root_from_rules, root_meets, within_from_all, found_within}

pub rules_met : (root version : List ℕ) (headers : List Header) → length root ≤ 2 ^ 30 → IsRoot root version headers → AllHold (rules_of_root root)
rules_met root version headers small is = (root_meets root version headers small is).all

pub directory_said : (root version : List ℕ) (headers : List Header) → length root ≤ 2 ^ 30 → IsRoot root version headers → root_read root ≡ record { bytes = root; version = version; headers = headers }
directory_said root version headers small is =
    let meets = root_meets root version headers small is in
    let make : List ℕ → List Header → RootRead = λ v hs. record { bytes = root; version = v; headers = hs } in
    ap (λ (v : List ℕ). make v (headers_before root (header_count root))) meets.version_is ∙ ap (make version) meets.headers_are

pub root_found : (root : List ℕ) → AllHold (rules_of_root root) → (length root ≤ 2 ^ 30) × IsRoot root (root_read root).version (root_read root).headers
root_found root all = (all.0, root_from_rules root all)

-- the span of the stream of a header that ends within `limit` bytes
offset_ends : (limit : ℕ) (found : Option Header) → ((header : Header) → found ≡ Some header → header.offset + header.size ≤ limit)
    → IfSome {T = ℕ × ℕ} (option_map (λ header. (header.offset, header.offset + header.size)) found) (λ place. (place.0 ≤ place.1) × (place.1 ≤ limit))
offset_ends limit None ends = tt
offset_ends limit (Some header) ends = (omega arith, ends header refl)

pub offset_within : (root : List ℕ) (kind : Kind) → AllHold (rules_of_root root) → IfSome (range_of (root_read root) kind) (λ place. (place.0 ≤ place.1) × (place.1 ≤ length root))
offset_within root kind all =
    let count = header_count root in
    let behind = all_back (rules_of_root_header root) _ all in
    let within = within_from_all root count count refl (all_prefix (rules_from (rules_of_header root) 0 count) (rules_of_tables root) behind) in
    offset_ends (length root) (named (stream_name kind) (headers_before root count)) (λ header e. found_within root count kind header within e)
