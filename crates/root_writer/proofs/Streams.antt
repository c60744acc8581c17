-- Streams in sequence: their headers, and how each is found again.
use Rattle.root_writer.proofs.Prelude.{◌≡◌, ◌≢◌, ℕ, suc, ◌+◌, ◌-◌, ◌%◌, ◌^◌, ◌<◌, ◌≤◌, Bool, true, false, not, ◌&&◌, cond, List, [], ◌∷◌, ◌++◌, take, drop, length, filter, refl, sym, ap, ◌∙◌, ◌⊎◌, inl, inr, ⊎_elim, true≢false, arith, length-append, Option, Some, None, lit≤, rules, codes, replicate, bytes_eq, IsSome, unwrap_or, list_any, flat_map, AllByRecursion, cases_Bool, false≢true, cond_both, and_parts, or_parts, not-true, not_from_false, All-from_recursion, Kind, Tables, Strings, UserStrings, Guids, Blobs, Header, stream_name, named, IsStreamName, IsHeader, AreHeaders, AllMeet, number_bytes, zero_padded, ended, stream_header, directory}
use Rattle.std.proofs.lemmas.Str.Ascii.{IsAscii-from_all}
use Rattle.std.specs.Option.{option_map, option_or}
use Rattle.std.proofs.lemmas.List.{append_assoc, length-replicate, drop_at, take_at}
use Rattle.std.proofs.lemmas.List.Folds.{find-append}
use Rattle.packed.specs.Offsets.{part}
use Rattle.root_writer.proofs.Lists.{from_filter}
use Rattle.heap_pools.proofs.MemberLemmas.{IsIn}
use Rattle.root_writer.proofs.Facts.{Facts}

-- ---- padding

padding_few : (n : ℕ) → (4 - n % 4) % 4 < 4
padding_few n = omega arith

padding_is : (n : ℕ) → (n + (4 - n % 4) % 4) % 4 ≡ 0
padding_is n = omega arith

pub length-zero_padded : (bytes : List ℕ) → length (zero_padded bytes) % 4 ≡ 0
length-zero_padded bytes = rw (length-append bytes (replicate ((4 - length bytes % 4) % 4) 0), length-replicate {A = ℕ} ((4 - length bytes % 4) % 4) 0) (padding_is (length bytes))

-- the zeros after the NUL of a text
abbrev pub padding_of : List ℕ → List ℕ
padding_of text = replicate ((4 - length (text ++ 0 ∷ []) % 4) % 4) 0

pub ended_is : (text : List ℕ) → ended text ≡ text ++ 0 ∷ padding_of text
ended_is text = append_assoc text (0 ∷ []) (padding_of text)

-- ---- the five names

is_name : (name : List ℕ) → length name ≤ 32 → AllByRecursion (λ b. b < 128) name → AllByRecursion (λ b. b ≢ 0) name → IsStreamName name
is_name name short ascii no_nul = record { short = short; ascii = IsAscii-from_all name (All-from_recursion (λ b. b < 128) name ascii); no_nul = All-from_recursion (λ b. b ≢ 0) name no_nul }

name_is : (kind : Kind) → IsStreamName (stream_name kind)
name_is Tables = is_name _ (lit≤ tt) (search rules) (search rules)
name_is _ = is_name _ (lit≤ tt) (search rules) (search rules)

same_kind : (a b : Kind) → bytes_eq (stream_name a) (stream_name b) ≡ true → a ≡ b
same_kind Tables Tables e = refl
same_kind Strings Strings e = refl
same_kind UserStrings UserStrings e = refl
same_kind Guids Guids e = refl
same_kind Blobs Blobs e = refl
same_kind a b e = absurd (false≢true e)

name_itself : (kind : Kind) → bytes_eq (stream_name kind) (stream_name kind) ≡ true
name_itself Tables = refl
name_itself _ = refl

not_uncompressed : (kind : Kind) → bytes_eq (stream_name kind) (codes "#-") ≡ false
not_uncompressed Tables = refl
not_uncompressed _ = refl

compressed : (kind : Kind) → stream_name kind ≢ codes "#-"
compressed kind = λ e. true≢false (sym (name_itself kind) ∙ ap (bytes_eq (stream_name kind)) e ∙ not_uncompressed kind)

-- ---- kinds have different names

abbrev pub AreApart : List Kind → Type 0
AreApart [] = Unit {0}
AreApart (kind ∷ kinds) = ((other : Kind) → IsIn other kinds → bytes_eq (stream_name kind) (stream_name other) ≡ false) × AreApart kinds

are_apart : List Kind → Bool
are_apart [] = true
are_apart (kind ∷ kinds) = not (list_any (λ other. bytes_eq (stream_name kind) (stream_name other)) kinds) && are_apart kinds

not_in : {X : Type 0} (test : X → Bool) (x : X) (xs : List X) → not (list_any test xs) ≡ true → IsIn x xs → test x ≡ false
not_in test x [] none h = absurd h
not_in test x (z ∷ zs) none h =
    let neither = or_parts (test z) (list_any test zs) (not-true _ none) in
    ⊎_elim (λ (e : z ≡ x). ap test (sym e) ∙ neither.0) (λ (l : IsIn x zs). not_in test x zs (not_from_false (list_any test zs) neither.1) l) h

apart_from : (kinds : List Kind) → are_apart kinds ≡ true → AreApart kinds
unfolding are_apart
apart_from [] apart = tt
apart_from (kind ∷ kinds) apart =
    let both = and_parts (not (list_any (λ other. bytes_eq (stream_name kind) (stream_name other)) kinds)) (are_apart kinds) apart in
    ((λ other h. not_in (λ k. bytes_eq (stream_name kind) (stream_name k)) other kinds both.0 h), apart_from kinds both.1)

apart_filter : (test : Kind → Bool) (kinds : List Kind) → AreApart kinds → AreApart (filter test kinds)
apart_filter test [] apart = tt
apart_filter test (kind ∷ kinds) apart =
    cond_both (test kind) (kind ∷ filter test kinds) (filter test kinds) AreApart
    (λ t. ((λ other h. apart.0 other (from_filter test other kinds h)), apart_filter test kinds apart.1)) (λ f. apart_filter test kinds apart.1)

abbrev pub all_kinds : List Kind
all_kinds = Tables ∷ Strings ∷ UserStrings ∷ Guids ∷ Blobs ∷ []

pub filter_apart : (test : Kind → Bool) → AreApart (filter test all_kinds)
unfolding are_apart
filter_apart test = apart_filter test all_kinds (apart_from all_kinds refl)

pub in_all : (kind : Kind) → IsIn kind all_kinds
in_all Tables = inl refl
in_all Strings = inr (inl refl)
in_all UserStrings = inr (inr (inl refl))
in_all Guids = inr (inr (inr (inl refl)))
in_all Blobs = inr (inr (inr (inr (inl refl))))

-- ---- the headers

module _ (facts : Facts) (streams : Kind → List ℕ) where
  abbrev pub headers_of : ℕ → ℕ → List Kind → List Header
  headers_of header_offset offset [] = []
  headers_of header_offset offset (kind ∷ kinds) =
      record { place = header_offset; offset = offset; size = length (streams kind); name = stream_name kind }
      ∷ headers_of (header_offset + length (stream_header streams offset kind)) (offset + length (streams kind)) kinds

  abbrev pub contents : List Kind → List ℕ
  contents kinds = flat_map streams kinds

  header_is : (header_offset offset : ℕ) (kind : Kind) → offset < 2 ^ 32 → length (streams kind) < 2 ^ 32
      → IsHeader (stream_header streams offset kind) (record { place = header_offset; offset = offset; size = length (streams kind); name = stream_name kind })
  header_is header_offset offset kind low small =
      let name = stream_name kind in
      let prefix = number_bytes 4 offset ++ number_bytes 4 (length (streams kind)) in
      record {
        offset_bytes = number_bytes 4 offset;
        size_bytes = number_bytes 4 (length (streams kind));
        padding = padding_of name;
        whole = ap (λ l. prefix ++ l) (ended_is name) ∙ sym (append_assoc prefix name (0 ∷ padding_of name));
        offset = facts.encoded 4 offset low;
        size = facts.encoded 4 (length (streams kind)) small;
        name = name_is kind;
        padded = record {
          fewer = rw (length-replicate {A = ℕ} ((4 - length (name ++ 0 ∷ []) % 4) % 4) 0) (padding_few (length (name ++ 0 ∷ [])));
          multiple = rw (length-replicate {A = ℕ} ((4 - length (name ++ 0 ∷ []) % 4) % 4) 0, ← length-append name (0 ∷ [])) (padding_is (length (name ++ 0 ∷ [])));
        };
      }

  pub are_headers : (header_offset offset : ℕ) (kinds : List Kind) → offset + length (contents kinds) < 2 ^ 32
      → AreHeaders header_offset (directory streams offset kinds) (headers_of header_offset offset kinds)
  are_headers header_offset offset [] small = refl
  are_headers header_offset offset (kind ∷ kinds) small =
      let long = length-append (streams kind) (contents kinds) in (
        stream_header streams offset kind,
        directory streams (offset + length (streams kind)) kinds,
        refl,
        refl,
        header_is header_offset offset kind (omega arith) (omega (arith, long)),
        are_headers (header_offset + length (stream_header streams offset kind)) (offset + length (streams kind)) kinds (omega (arith, long)),
      )

  pub length-headers_of : (header_offset offset : ℕ) (kinds : List Kind) → length (headers_of header_offset offset kinds) ≡ length kinds
  length-headers_of header_offset offset [] = refl
  length-headers_of header_offset offset (kind ∷ kinds) =
      ap suc (length-headers_of (header_offset + length (stream_header streams offset kind)) (offset + length (streams kind)) kinds)

  -- ---- a stream is found again

  abbrev pub found_in : List ℕ → Kind → Option Header → List ℕ
  found_in root kind found = unwrap_or (option_map (λ header. part root header.offset header.size) found) []

  pub stream_found : (kind : Kind) (root before : List ℕ) (header_offset offset : ℕ) (kinds : List Kind) → root ≡ before ++ contents kinds → length before ≡ offset
      → IsIn kind kinds ⊎ (streams kind ≡ []) → found_in root kind (named (stream_name kind) (headers_of header_offset offset kinds)) ≡ streams kind
  stream_found kind root before header_offset offset [] e at (inl h) = absurd h
  stream_found kind root before header_offset offset [] e at (inr none) = sym none
  stream_found kind root before header_offset offset (first ∷ kinds) e at here =
      let header : Header = record { place = header_offset; offset = offset; size = length (streams first); name = stream_name first } in
      let others = headers_of (header_offset + length (stream_header streams offset first)) (offset + length (streams first)) kinds in
      ⊎_elim
      (λ (t : bytes_eq (stream_name first) (stream_name kind) ≡ true).
      let stands : part root offset (length (streams first)) ≡ streams first =
      ap (λ l. take (length (streams first)) (drop offset l)) e
      ∙ ap (take (length (streams first))) (drop_at before (streams first ++ contents kinds) offset at)
      ∙ take_at (streams first) (contents kinds) (length (streams first)) refl in
      ap (λ b. found_in root kind (cond b (Some header) (named (stream_name kind) others))) t ∙ stands ∙ ap streams (same_kind first kind t))
      (λ (f : bytes_eq (stream_name first) (stream_name kind) ≡ false).
      ap (λ b. found_in root kind (cond b (Some header) (named (stream_name kind) others))) f
      ∙ stream_found kind root (before ++ streams first) (header_offset + length (stream_header streams offset first)) (offset + length (streams first)) kinds
      (e ∙ sym (append_assoc before (streams first) (contents kinds)))
      (length-append before (streams first) ∙ ap (λ n. n + length (streams first)) at)
      (later first f here))
      (cases_Bool (bytes_eq (stream_name first) (stream_name kind)))
    where
      later : (first : Kind) → bytes_eq (stream_name first) (stream_name kind) ≡ false → IsIn kind (first ∷ kinds) ⊎ (streams kind ≡ []) → IsIn kind kinds
          ⊎ (streams kind ≡ [])
      later first f (inl (inl same)) = absurd (false≢true (sym f ∙ ap (λ k. bytes_eq (stream_name k) (stream_name kind)) same ∙ name_itself kind))
      later first f (inl (inr h)) = inl h
      later first f (inr none) = inr none

  pub is_named : (kind : Kind) (header_offset offset : ℕ) (kinds : List Kind) → IsIn kind kinds → IsSome (named (stream_name kind) (headers_of header_offset offset kinds))
  is_named kind header_offset offset [] h = absurd h
  is_named kind header_offset offset (first ∷ kinds) h =
      let header : Header = record { place = header_offset; offset = offset; size = length (streams first); name = stream_name first } in
      let others = headers_of (header_offset + length (stream_header streams offset first)) (offset + length (streams first)) kinds in
      cond_both (bytes_eq (stream_name first) (stream_name kind)) (Some header) (named (stream_name kind) others) IsSome (λ t. refl)
      (λ f.
      is_named kind (header_offset + length (stream_header streams offset first)) (offset + length (streams first)) kinds
      (⊎_elim (λ (same : first ≡ kind). absurd (false≢true (sym f ∙ ap (λ k. bytes_eq (stream_name k) (stream_name kind)) same ∙ name_itself kind)))
      (λ (l : IsIn kind kinds). l) h))

  -- ---- each stream ends within the root, and is the first of its name

  named_push : (name : List ℕ) (headers : List Header) (header : Header) → named name headers ≡ None → bytes_eq header.name name ≡ false
      → named name (headers ++ header ∷ []) ≡ None
  named_push name headers header none other =
      find-append (λ (h : Header). bytes_eq h.name name) headers (header ∷ [])
      ∙ ap (λ o. option_or o (cond (bytes_eq header.name name) (Some header) None)) none ∙ ap (λ b. cond b (Some header) None) other

  pub all_meet : (size : ℕ) (earlier : List Header) (header_offset offset : ℕ) (kinds : List Kind) → AreApart kinds
      → ((kind : Kind) → IsIn kind kinds → named (stream_name kind) earlier ≡ None)
      → offset + length (contents kinds) ≤ size → AllMeet size earlier (headers_of header_offset offset kinds)
  all_meet size earlier header_offset offset [] apart fresh ends = tt
  all_meet size earlier header_offset offset (kind ∷ kinds) apart fresh ends =
      let long = length-append (streams kind) (contents kinds) in
      let header : Header = record { place = header_offset; offset = offset; size = length (streams kind); name = stream_name kind } in (
        (λ other e. omega (arith, long)),
        (λ other e. ap (λ name. named name earlier) (sym e) ∙ fresh kind (inl refl)),
        compressed kind,
        all_meet size (earlier ++ header ∷ []) (header_offset + length (stream_header streams offset kind)) (offset + length (streams kind)) kinds apart.1
            (λ other h. named_push (stream_name other) earlier header (fresh other (inr h)) (apart.0 other h)) (omega (arith, long)),
      )

  -- ---- the length of the directory does not depend on the stream offsets

  header_long : (a b : ℕ) (kind : Kind) → length (stream_header streams a kind) ≡ length (stream_header streams b kind)
  header_long a b kind = omega (
    arith,
    length-append (number_bytes 4 a ++ number_bytes 4 (length (streams kind))) (ended (stream_name kind)),
    length-append (number_bytes 4 b ++ number_bytes 4 (length (streams kind))) (ended (stream_name kind)),
  )

  pub directory_long : (a b : ℕ) (kinds : List Kind) → length (directory streams a kinds) ≡ length (directory streams b kinds)
  directory_long a b [] = refl
  directory_long a b (kind ∷ kinds) = omega (
    arith,
    length-append (stream_header streams a kind) (directory streams (a + length (streams kind)) kinds),
    length-append (stream_header streams b kind) (directory streams (b + length (streams kind)) kinds),
    header_long a b kind,
    directory_long (a + length (streams kind)) (b + length (streams kind)) kinds,
  )

  pub within : (kind : Kind) (kinds : List Kind) → IsIn kind kinds → length (streams kind) ≤ length (contents kinds)
  within kind [] h = absurd h
  within kind (first ∷ kinds) (inl e) = omega (arith, length-append (streams first) (contents kinds), ap (λ k. length (streams k)) e)
  within kind (first ∷ kinds) (inr h) = omega (arith, length-append (streams first) (contents kinds), within kind kinds h)
