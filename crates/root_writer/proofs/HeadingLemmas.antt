-- The lengths of stream headers, and the headers by the sizes of the streams.
use Rattle.root_writer.proofs.Prelude.{◌≡◌, ℕ, ◌+◌, ◌≤◌, List, [], ◌∷◌, ◌++◌, length, refl, sym, ap, ◌∙◌, arith, length-append, lit≤, drop, filter, ltb, cond, drop_all, sum_by-cons, sum_by, flat_map, Kind, Tables, stream_name, number_bytes, ended, prefix, directory, root_of, header_length, sized_header, sized_directory, heading_size, heading}

pub name_short : (kind : Kind) → length (stream_name kind) ≤ 8
name_short Tables = lit≤ tt
name_short _ = lit≤ tt

sums : {a b m n : ℕ} → a ≡ m → b ≡ n → a + b ≡ m + n
sums first second = omega (arith, first, second)

pub header_is_long : (size : Kind → ℕ) (offset : ℕ) (kind : Kind) → length (sized_header size offset kind) ≡ header_length kind
header_is_long size offset kind =
    length-append (number_bytes 4 offset ++ number_bytes 4 (size kind)) (ended (stream_name kind))

-- the length of the headers does not depend on the offsets of the streams
pub directory_is_long : (size : Kind → ℕ) (offset : ℕ) (kinds : List Kind) → length (sized_directory size offset kinds) ≡ sum_by header_length kinds
directory_is_long size offset [] = refl
directory_is_long size offset (kind ∷ kinds) =
    length-append (sized_header size offset kind) (sized_directory size (offset + size kind) kinds)
    ∙ sums (header_is_long size offset kind) (directory_is_long size (offset + size kind) kinds)
    ∙ sym (sum_by-cons header_length kind kinds)

pub prefix_is_long : (version : List ℕ) (count : ℕ) → length (prefix version count) ≡ 20 + length (ended version)
prefix_is_long version count =
    omega (arith, length-append (ended version ++ 0 ∷ 0 ∷ []) (number_bytes 2 count), length-append (ended version) (0 ∷ 0 ∷ []))

pub heading_size_is : (version : List ℕ) (size : Kind → ℕ) (kinds : List Kind)
    → heading_size version size kinds ≡ 20 + length (ended version) + sum_by header_length kinds
heading_size_is version size kinds = sums (prefix_is_long version (length kinds)) (directory_is_long size 0 kinds)

pub heading_is_long : (version : List ℕ) (size : Kind → ℕ) (kinds : List Kind)
    → length (heading version size kinds) ≡ 20 + length (ended version) + sum_by header_length kinds
heading_is_long version size kinds =
    let offset = heading_size version size kinds in
    length-append (prefix version (length kinds)) (sized_directory size offset kinds)
    ∙ sums (prefix_is_long version (length kinds)) (directory_is_long size offset kinds)

-- the headers depend only on the sizes of the streams
pub directory_by_size : (streams : Kind → List ℕ) (size : Kind → ℕ) → ((kind : Kind) → size kind ≡ length (streams kind)) → (offset : ℕ) (kinds : List Kind)
    → directory streams offset kinds ≡ sized_directory size offset kinds
directory_by_size streams size same offset [] = refl
directory_by_size streams size same offset (kind ∷ kinds) =
    ap (λ count. number_bytes 4 offset ++ number_bytes 4 count ++ ended (stream_name kind) ++ directory streams (offset + count) kinds) (sym (same kind))
    ∙ ap (λ tail. sized_header size offset kind ++ tail) (directory_by_size streams size same (offset + size kind) kinds)

pub heading_by_size : (version : List ℕ) (streams : Kind → List ℕ) (size : Kind → ℕ) → ((kind : Kind) → size kind ≡ length (streams kind)) → (kinds : List Kind)
    → root_of version streams kinds ≡ heading version size kinds ++ flat_map streams kinds
unfolding root_of
heading_by_size version streams size same kinds =
    let start = prefix version (length kinds) in
    ap (λ list. start ++ directory streams (length start + length list) kinds ++ flat_map streams kinds) (directory_by_size streams size same 0 kinds)
    ∙ ap (λ list. start ++ list ++ flat_map streams kinds) (directory_by_size streams size same (heading_size version size kinds) kinds)

-- the streams that have bytes, by these sizes
pub held_by_size : (streams : Kind → List ℕ) (size : Kind → ℕ) → ((kind : Kind) → size kind ≡ length (streams kind)) → (kinds : List Kind)
    → filter (λ kind. ltb 0 (length (streams kind))) kinds ≡ filter (λ kind. ltb 0 (size kind)) kinds
held_by_size streams size same [] = refl
held_by_size streams size same (kind ∷ kinds) =
    ap (λ count. cond (ltb 0 count) (kind ∷ filter (λ kind. ltb 0 (length (streams kind))) kinds) (filter (λ kind. ltb 0 (length (streams kind))) kinds)) (sym (same kind))
    ∙ ap (λ tail. cond (ltb 0 (size kind)) (kind ∷ tail) tail) (held_by_size streams size same kinds)

-- the case that no header is left
pub at_end : (len whole : ℕ) (kinds : List Kind) (i : ℕ) → len + sum_by header_length (drop i kinds) ≡ whole → length kinds ≤ i → len ≡ whole
at_end len whole kinds i all past =
    let none : sum_by header_length (drop i kinds) ≡ 0 = ap (sum_by header_length) (drop_all i kinds past) in
    omega (arith, none, all)
