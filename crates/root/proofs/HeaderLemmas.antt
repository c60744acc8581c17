-- A stream header at an offset.
use Rattle.root.proofs.Prelude.{◌≡◌, ℕ, suc, ◌+◌, ◌-◌, ◌*◌, ◌/◌, ◌<◌, ◌≤◌, List, ◌∷◌, ◌++◌, length, take, drop, refl, sym, ap, ◌∙◌, arith, length-append, length-drop, Result, Ok, Err, Some, None, subst, result_ok, MatchResult, IsAscii, part, Header, IsHeader, IsPadded, before_nul, header_at, header_length, ShowsHeader, HasHeader}
use Rattle.std.proofs.lemmas.List.{append_assoc, take_at, drop_at, drop-drop, take-append-drop, length-take-le}
use Rattle.root.proofs.NulLemmas.{nul_offset, nul_split, before_nul-text, before_nul-no_nul, length-before_nul}

-- the length of bytes with their padding
padded_length : (count padding : ℕ) → IsPadded count padding → count + padding ≡ (count + 3) / 4 * 4
padded_length count padding h = let a = h.fewer in let b = h.multiple in omega arith

-- a part of bytes that are given as a concatenation
pub part_at : (whole before middle after : List ℕ) (place count : ℕ) → whole ≡ before ++ (middle ++ after) → length before ≡ place → length middle ≡ count → part whole place count ≡ middle
part_at whole before middle after place count e p c = rw (e, drop_at before (middle ++ after) place p) (take_at middle after count c)

-- the header at an offset is the one that the fields there encode
pub record Reports (root : List ℕ) (place : ℕ) (header : Header) (bytes tail : List ℕ) : Type 0 where
  pub is : header_at root place ≡ record header { place = place }
  pub long : length bytes ≡ header_length header
  pub next : drop (place + header_length header) root ≡ tail
  pub shows : ShowsHeader root place

pub header_reports : (root : List ℕ) (place : ℕ) (header : Header) (bytes tail : List ℕ) → drop place root ≡ bytes ++ tail → IsHeader bytes header → Reports root place header bytes tail
header_reports root place header bytes tail whole h =
    let behind : drop place root ≡ h.offset_bytes ++ (h.size_bytes ++ (header.name ++ 0 ∷ (h.padding ++ tail))) = rw (whole, h.whole) (simp append_assoc) in
    let a : length h.offset_bytes ≡ 4 = h.offset.long in
    let b : length h.size_bytes ≡ 4 = h.size.long in
    let offset : part root place 4 ≡ h.offset_bytes = rw behind (take_at h.offset_bytes _ 4 a) in
    let behind4 : drop (place + 4) root ≡ h.size_bytes ++ (header.name ++ 0 ∷ (h.padding ++ tail)) = sym (drop-drop 4 place root) ∙ rw behind (drop_at h.offset_bytes _ 4 a) in
    let size : part root (place + 4) 4 ≡ h.size_bytes = rw behind4 (take_at h.size_bytes _ 4 b) in
    let behind8 : drop (place + 8) root ≡ header.name ++ 0 ∷ (h.padding ++ tail) = ap (λ (p : ℕ). drop p root) (omega arith) ∙ sym (drop-drop 4 (place + 4) root) ∙ rw behind4 (drop_at h.size_bytes _ 4 b) in
    let name : before_nul (drop (place + 8) root) ≡ header.name = rw behind8 (before_nul-text header.name (h.padding ++ tail) h.name.no_nul) in
    let is : header_at root place ≡ record header { place = place } = rw (offset, size, name, sym h.offset.equal, sym h.size.equal) refl in
    let padded = padded_length (length header.name + 1) (length h.padding) h.padded in
    let long : length bytes ≡ header_length header = rw h.whole (simp length-append (omega arith)) in
    let next : drop (place + header_length header) root ≡ tail = sym (drop-drop (header_length header) place root) ∙ rw whole (drop_at bytes tail (header_length header) long) in
    let same : header_length (header_at root place) ≡ header_length header = ap header_length is in
    let total : length (drop place root) ≡ length bytes + length tail = rw whole (length-append bytes tail) in
    record {
      is = is;
      long = long;
      next = next;
      shows = record {
        ends = rw same (let k = length-drop place root in omega arith);
        nul = rw (name, behind8) (simp length-append (omega arith));
        short = rw name h.name.short;
        ascii = rw name h.name.ascii;
      };
    }

-- if the tests on the bytes accept a header, there is one
pub header_stands : (root : List ℕ) (place : ℕ) → ShowsHeader root place → IsHeader (part root place (header_length (header_at root place))) (header_at root place)
header_stands root place h =
    let field = drop (place + 8) root in
    let name = before_nul field in
    let n : length name ≡ nul_offset field = length-before_nul field in
    let count = header_length (header_at root place) in
    let left : ℕ = count - 9 - length name in
    let tail : List ℕ = drop (suc (nul_offset field)) field in
    let field_long : length field ≡ length root - (place + 8) = length-drop (place + 8) root in
    let behind_long : length (drop place root) ≡ length root - place = length-drop place root in
    let behind4_long : length (drop (place + 4) root) ≡ length root - (place + 4) = length-drop (place + 4) root in
    let tail_long : length tail ≡ length field - suc (nul_offset field) = length-drop (suc (nul_offset field)) field in
    let ends : place + count ≤ length root = h.ends in
    let count_is : count ≡ 8 + (length name + 4) / 4 * 4 = refl in
    let offset_long : length (part root place 4) ≡ 4 = length-take-le 4 (drop place root) (omega arith) in
    let size_long : length (part root (place + 4) 4) ≡ 4 = length-take-le 4 (drop (place + 4) root) (omega arith) in
    let padding_long : length (take left tail) ≡ left = length-take-le left tail (omega arith) in
    let nul : nul_offset field < length field = let before = h.nul in omega arith in
    let split : field ≡ name ++ 0 ∷ (take left tail ++ drop left tail) = nul_split field nul ∙ ap (λ (t : List ℕ). name ++ 0 ∷ t) (sym (take-append-drop left tail)) in
    let behind4 : drop (place + 4) root ≡ part root (place + 4) 4 ++ field = sym (take-append-drop 4 (drop (place + 4) root)) ∙ ap (λ (t : List ℕ). part root (place + 4) 4 ++ t) (drop-drop 4 (place + 4) root ∙ ap (λ (p : ℕ). drop p root) (omega arith)) in
    let behind : drop place root ≡ part root place 4 ++ drop (place + 4) root = sym (take-append-drop 4 (drop place root)) ∙ ap (λ (t : List ℕ). part root place 4 ++ t) (drop-drop 4 place root) in
    let all : drop place root ≡ (part root place 4 ++ part root (place + 4) 4 ++ name ++ 0 ∷ take left tail) ++ drop left tail =
    behind ∙ ap (λ (t : List ℕ). part root place 4 ++ t) (behind4 ∙ ap (λ (t : List ℕ). part root (place + 4) 4 ++ t) split) ∙ simp append_assoc in
    let long : length (part root place 4 ++ part root (place + 4) 4 ++ name ++ 0 ∷ take left tail) ≡ count = simp length-append (omega arith) in
    record {
      offset_bytes = part root place 4;
      size_bytes = part root (place + 4) 4;
      padding = take left tail;
      whole = ap (λ (t : List ℕ). take count t) all ∙ take_at _ (drop left tail) count long;
      offset = record { long = offset_long; equal = refl };
      size = record { long = size_long; equal = refl };
      name = record { short = h.short; ascii = h.ascii; no_nul = before_nul-no_nul field };
      padded = record { fewer = omega arith; multiple = omega arith };
    }

-- the tests on the bytes accept a header if there is one
pub shows_from_has : (root : List ℕ) (place : ℕ) → HasHeader root place → ShowsHeader root place
shows_from_has root place h = (header_reports root place h.header h.bytes h.tail h.whole h.is).shows

pub has_from_shows : (root : List ℕ) (place : ℕ) → ShowsHeader root place → HasHeader root place
has_from_shows root place h = record {
  header = header_at root place;
  bytes = part root place (header_length (header_at root place));
  tail = drop (header_length (header_at root place)) (drop place root);
  whole = sym (take-append-drop (header_length (header_at root place)) (drop place root));
  is = header_stands root place h;
}

-- an error, if `ok()` of the result is `None`
pub err_from_none : {X E : Type 0} (r : Result X E) (P : X → Type 0) (Q : E → Type 0) → None ≡ result_ok r → MatchResult r P Q → (e : E) × Q e
err_from_none (Ok x) P Q h m = cc
err_from_none (Err e) P Q h m = (e, m)

pub ok_from_some : {X E : Type 0} (r : Result X E) (x : X) (P : X → Type 0) (Q : E → Type 0) → Some x ≡ result_ok r → MatchResult r P Q → P x
ok_from_some (Ok y) x P Q h m = let same : y ≡ x = cc in subst P same m
ok_from_some (Err e) x P Q h m = cc

-- the same for the bytes after the two numbers, at any address
pub record ShowsIn (size place : ℕ) (field : List ℕ) : Type 0 where
  pub ends : place + 8 + (nul_offset field + 4) / 4 * 4 ≤ size
  pub nul : nul_offset field < length field
  pub short : nul_offset field ≤ 32
  pub ascii : IsAscii (before_nul field)

pub shows_in : (root : List ℕ) (place : ℕ) (field : List ℕ) → field ≡ drop (place + 8) root → HasHeader root place → ShowsIn (length root) place field
shows_in root place field e h =
    let shows = shows_from_has root place h in
    let long = length-before_nul (drop (place + 8) root) in
    let ends = shows.ends in
    let short = shows.short in
    let nul = shows.nul in
    rw e (record { ends = omega arith; nul = omega arith; short = omega arith; ascii = shows.ascii })

pub has_in : (root : List ℕ) (place : ℕ) (field : List ℕ) → field ≡ drop (place + 8) root → ShowsIn (length root) place field → HasHeader root place
has_in root place field e h =
    let shows = rw e at h in
    let long = length-before_nul (drop (place + 8) root) in
    let ends = shows.ends in
    let short = shows.short in
    let nul = shows.nul in
    has_from_shows root place (record { ends = omega arith; nul = omega arith; short = omega arith; ascii = shows.ascii })
