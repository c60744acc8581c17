-- All rules hold if and only if the bytes are a root of at most 2^30 bytes.
use Rattle.std.proofs.Common.{◌≡◌, ℕ, zero, suc, add-one, ◌+◌, ◌%◌, ◌≤◌, ◌<◌, ◌^◌, List, [], ◌∷◌, ◌++◌, length, drop, refl, sym, ap, ◌∙◌, subst, arith, append_assoc, length-append, length-drop, Bool, true, false, cond, Some, inl, inr, get_or, Result, Ok, Err}
use Rattle.root.proofs.Prelude.{append-nil, drop_at, drop-drop, take-append-drop, length-take-le, drop_all, drop_more, get_or_append_left, get_or_at, part, cases_lt, none_fails, all_prefix, all_back, all_append, before_none, before_more, before_all, before_of_all, before_fewer, IfOk, IsOkAnd, find, bytes_eq, AllHold, Reports, rules_from, HoldBefore, Kind, Header, RootRead, named, stream_name, signature, IsHeader, AreHeaders, EndsWithin, IsNew, IsCompressed, AllMeet, IsRoot, before_nul, root_read, version_length, version_of, header_count, header_at, header_length, header_offset, headers_before, AllShow, HasSignature, HasVersion, HasHeader, rules_of_root_header, rules_of_header, rules_of_tables, rules_of_root}
use Rattle.packed.specs.Number.{little_endian}
use Rattle.std.proofs.lemmas.Slice.Eq.{bytes_eq-Decides}
use Rattle.packed.specs.declared.fault.Fault.{Fault}
use Rattle.std.specs.Prelude.{IsSome}
use Rattle.root.specs.declared.kind.Kind.TheVariants.{Tables}
use Rattle.root.proofs.NulLemmas.{before_nul-text}
use Rattle.root.proofs.HeaderLemmas.{part_at, header_reports, header_stands}
use Rattle.root.proofs.WalkLemmas.{shows_from_all}

-- a part and the bytes after it
pub part_split : (bytes : List ℕ) (place count next : ℕ) → place + count ≡ next → drop place bytes ≡ part bytes place count ++ drop next bytes
part_split bytes place count next e =
    sym (take-append-drop count (drop place bytes)) ∙ ap (λ (t : List ℕ). part bytes place count ++ t) (drop-drop count place bytes ∙ ap (λ (n : ℕ). drop n bytes) e)

part_long : (bytes : List ℕ) (place count : ℕ) → place + count ≤ length bytes → length (part bytes place count) ≡ count
part_long bytes place count h = length-take-le count (drop place bytes) (omega (arith, length-drop place bytes))

-- parts one after another
joined : (a b c d e f g h r r1 r2 r3 r4 r5 r6 : List ℕ) → r ≡ a ++ r1 → r1 ≡ b ++ r2 → r2 ≡ c ++ r3 → r3 ≡ d ++ r4 → r4 ≡ e ++ r5 → r5 ≡ f ++ r6 → r6 ≡ g ++ h
    → r ≡ a ++ b ++ c ++ d ++ e ++ f ++ g ++ h
joined a b c d e f g h r r1 r2 r3 r4 r5 r6 p0 p1 p2 p3 p4 p5 p6 =
    p0 ∙ ap (λ (t : List ℕ). a ++ t) (p1 ∙ ap (λ (t : List ℕ). b ++ t) (p2 ∙ ap (λ (t : List ℕ). c ++ t) (p3 ∙ ap (λ (t : List ℕ). d ++ t) (p4 ∙ ap (λ (t : List ℕ). e ++ t) (p5 ∙ ap (λ (t : List ℕ). f ++ t) p6)))))
    ∙ simp append_assoc

-- one more header after others
are_push : (place : ℕ) (bytes : List ℕ) (headers : List Header) (root_header : List ℕ) (header : Header)
    → AreHeaders place bytes headers → header.place ≡ place + length bytes → IsHeader root_header header → AreHeaders place (bytes ++ root_header) (headers ++ header ∷ [])
are_push place bytes [] root_header header none at is =
    let long : length bytes ≡ 0 = rw none refl in
    (root_header, [], rw none (sym (append-nil root_header)), omega arith, is, refl)
are_push place bytes (h ∷ headers) root_header header some at is =
    let long : length bytes ≡ length some.0 + length some.1 = rw some.2 (length-append some.0 some.1) in (
      some.0,
      some.1 ++ root_header,
      rw some.2 (append_assoc some.0 some.1 root_header),
      some.3,
      some.4,
      are_push (place + length some.0) some.1 headers root_header header some.5 (omega arith) is,
    )

meet_push : (size : ℕ) (earlier headers : List Header) (header : Header)
    → AllMeet size earlier headers → EndsWithin size header → IsNew (earlier ++ headers) header → IsCompressed header → AllMeet size earlier (headers ++ header ∷ [])
meet_push size earlier [] header all within new compressed =
    (within, rw (← append-nil earlier) new, compressed, tt)
meet_push size earlier (h ∷ headers) header all within new compressed =
    (all.0, all.1, all.2, meet_push size (earlier ++ h ∷ []) headers header all.3 within (rw (append_assoc earlier (h ∷ []) headers) new) compressed)

-- the bytes of the first `count` headers
directory_bytes : List ℕ → ℕ → List ℕ
directory_bytes root zero = []
directory_bytes root (suc count) = directory_bytes root count ++ part root (header_offset root count) (header_length (header_at root (header_offset root count)))

record IsDirectory (root : List ℕ) (count : ℕ) : Type 0 where
  long : header_offset root 0 + length (directory_bytes root count) ≡ header_offset root count
  split : drop (header_offset root 0) root ≡ directory_bytes root count ++ drop (header_offset root count) root
  are : AreHeaders (header_offset root 0) (directory_bytes root count) (headers_before root count)

is_directory : (root : List ℕ) (count : ℕ) → AllShow root count → IsDirectory root count
unfolding directory_bytes
is_directory root zero shows = record { long = omega arith; split = refl; are = refl }
is_directory root (suc count) shows =
    let before = is_directory root count (λ i lt. shows i (omega arith)) in
    let place = header_offset root count in
    let here = shows count (omega arith) in
    let ends = here.ends in
    let size = header_length (header_at root place) in
    let long : length (part root place size) ≡ size = part_long root place size (omega arith) in
    let so_far = before.long in
    record {
      long = simp length-append (omega arith);
      split = before.split ∙ ap (λ (t : List ℕ). directory_bytes root count ++ t) (part_split root place size (header_offset root (suc count)) refl) ∙ sym (append_assoc (directory_bytes root count) (part root place size) (drop (header_offset root (suc count)) root));
      are = are_push (header_offset root 0) (directory_bytes root count) (headers_before root count) (part root place size) (header_at root place) before.are (sym before.long) (header_stands root place here);
    }

all_meet : (root : List ℕ) (count : ℕ) → HoldBefore (rules_of_header root) 0 count → AllMeet (length root) [] (headers_before root count)
all_meet root zero hold = tt
all_meet root (suc count) hold =
    let here = hold.each count (omega arith) (omega arith) in
    let fewer = before_fewer (rules_of_header root) 0 count (suc count) (omega arith) hold in
    meet_push (length root) [] (headers_before root count) (header_at root (header_offset root count)) (all_meet root count fewer) here.1.0 here.1.1.0 here.1.1.1.0

length-headers_before : (root : List ℕ) (count : ℕ) → length (headers_before root count) ≡ count
length-headers_before root zero = refl
length-headers_before root (suc count) = simp length-append (omega (arith, length-headers_before root count))

root_of_version : (root : List ℕ) (version : HasVersion root) → HasSignature root → 20 + version_length root ≤ length root → AllHold (rules_from (rules_of_header root) 0 (header_count root))
    → IsSome (named (stream_name Tables) (headers_before root (header_count root))) → IsRoot root version.version (headers_before root (header_count root))
root_of_version root version begins room headers_hold tables =
    let count = header_count root in
    let length_is = version_length root in
    let field = part root 16 length_is in
    let directory = is_directory root count (shows_from_all root count headers_hold) in
    let field_long : length field ≡ length_is = part_long root 16 length_is (omega arith) in
    let same_long : length (version.version ++ 0 ∷ version.padding) ≡ length_is = sym (ap length version.whole) ∙ field_long in
    let padded = version.padded in
    record {
      ignored = part root 4 8;
      length_bytes = part root 12 4;
      padding = version.padding;
      flags = part root (16 + length_is) 2;
      count_bytes = part root (18 + length_is) 2;
      directory = directory_bytes root count;
      tail = drop (header_offset root count) root;
      whole = joined signature (part root 4 8) (part root 12 4) (version.version ++ 0 ∷ version.padding) (part root (16 + length_is) 2) (part root (18 + length_is) 2) (directory_bytes root count) (drop (header_offset root count) root)
          root (drop 4 root) (drop 12 root) (drop 16 root) (drop (16 + length_is) root) (drop (18 + length_is) root) (drop (20 + length_is) root)
          (part_split root 0 4 4 refl ∙ ap (λ (t : List ℕ). t ++ drop 4 root) begins.1)
          (part_split root 4 8 12 refl) (part_split root 12 4 16 refl)
          (part_split root 16 length_is (16 + length_is) refl ∙ ap (λ (t : List ℕ). t ++ drop (16 + length_is) root) version.whole)
          (part_split root (16 + length_is) 2 (18 + length_is) (omega arith)) (part_split root (18 + length_is) 2 (20 + length_is) (omega arith))
          directory.split;
      ignored_long = part_long root 4 8 (omega arith);
      version_long = record { long = part_long root 12 4 (omega arith); equal = same_long };
      version_padded = rw same_long padded;
      version_is = version.is;
      flags_long = part_long root (16 + length_is) 2 (omega arith);
      count = record { long = part_long root (18 + length_is) 2 (omega arith); equal = length-headers_before root count };
      headers_are = rw (← ap (λ (n : ℕ). 20 + n) (sym same_long)) directory.are;
      headers_meet = all_meet root count (before_of_all (rules_of_header root) count headers_hold);
      tables = tables;
    }

-- bytes that satisfy all rules are a root
pub root_from_rules : (root : List ℕ) → AllHold (rules_of_root root) → IsRoot root (version_of root) (headers_before root (header_count root))
root_from_rules root all =
    let root_header = all_prefix (rules_of_root_header root) _ all in
    let behind = all_back (rules_of_root_header root) _ all in
    let version = root_header.1.1.0 in
    let is : version.version ≡ version_of root = sym (ap before_nul version.whole ∙ before_nul-text version.version version.padding version.is.no_nul) in
    rw (← is) (root_of_version root version root_header.1.0 root_header.1.1.1.0 (all_prefix (rules_from (rules_of_header root) 0 (header_count root)) (rules_of_tables root) behind) (all_back (rules_from (rules_of_header root) 0 (header_count root)) (rules_of_tables root) behind).0)

-- headers that are written one after another are those that are read there
record Walks (root : List ℕ) (k : ℕ) (headers : List Header) : Type 0 where
  hold : HoldBefore (rules_of_header root) 0 (k + length headers)
  are : headers_before root (k + length headers) ≡ headers_before root k ++ headers

walks : (root : List ℕ) (k : ℕ) (headers : List Header) (bytes tail : List ℕ) → drop (header_offset root k) root ≡ bytes ++ tail
    → AreHeaders (header_offset root k) bytes headers → AllMeet (length root) (headers_before root k) headers → HoldBefore (rules_of_header root) 0 k → Walks root k headers
walks root k [] bytes tail whole are meet hold =
    let e : k ≡ k + 0 = omega arith in
    record { hold = rw (← e) hold; are = ap (headers_before root) (sym e) ∙ sym (append-nil (headers_before root k)) }
walks root k (header ∷ headers) bytes tail whole are meet hold =
    let place = header_offset root k in
    let split : drop place root ≡ are.0 ++ (are.1 ++ tail) = whole ∙ ap (λ (t : List ℕ). t ++ tail) are.2 ∙ append_assoc are.0 are.1 tail in
    let reports = header_reports root place header are.0 (are.1 ++ tail) split are.4 in
    let same : header_at root place ≡ header = reports.is ∙ ap (λ (n : ℕ). record header { place = n }) (sym are.3) in
    let next : header_offset root (suc k) ≡ place + length are.0 = ap (λ (h : Header). place + header_length h) same ∙ ap (λ (n : ℕ). place + n) (sym reports.long) in
    let has : HasHeader root place = record { header = header; bytes = are.0; tail = are.1 ++ tail; whole = split; is = are.4 } in
    let Within : Header → Type 0 = λ h. EndsWithin (length root) h in
    let New : Header → Type 0 = λ h. IsNew (headers_before root k) h in
    let Compressed : Header → Type 0 = λ h. IsCompressed h in
    let here : AllHold (rules_of_header root k) = (has, (subst Within (sym same) meet.0, (subst New (sym same) meet.1, (subst Compressed (sym same) meet.2, tt)))) in
    let before_next : headers_before root (suc k) ≡ headers_before root k ++ header ∷ [] = ap (λ (h : Header). headers_before root k ++ h ∷ []) same in
    let behind : drop (header_offset root (suc k)) root ≡ are.1 ++ tail = ap (λ (h : Header). drop (place + header_length h) root) same ∙ reports.next in
    let P : ℕ → Type 0 = λ n. HoldBefore (rules_of_header root) 0 n in
    let more = walks root (suc k) headers are.1 tail behind (rw next are.5) (rw before_next meet.3)
    (subst P (add-one k) (before_more (rules_of_header root) 0 k hold here)) in
    let e : suc k + length headers ≡ k + suc (length headers) = omega arith in
    record {
      hold = subst P e more.hold;
      are = ap (headers_before root) (sym e) ∙ more.are ∙ ap (λ (hs : List Header). hs ++ headers) before_next ∙ append_assoc (headers_before root k) (header ∷ []) headers;
    }

-- the parts of a root and its fields
record Fields (root signature_bytes length_bytes field count_bytes directory tail : List ℕ) : Type 0 where
  first : part root 0 4 ≡ signature_bytes
  lengths : part root 12 4 ≡ length_bytes
  version : part root 16 (length field) ≡ field
  counts : part root (18 + length field) 2 ≡ count_bytes
  behind : drop (20 + length field) root ≡ directory ++ tail
  room : 20 + length field ≤ length root

fields_stand : (root a b c field e f g h : List ℕ) → root ≡ a ++ b ++ c ++ field ++ e ++ f ++ g ++ h → length a ≡ 4 → length b ≡ 8 → length c ≡ 4 → length e ≡ 2 → length f ≡ 2 → Fields root a c field f g h
fields_stand root a b c field e f g h whole la lb lc le lf = record {
  first = part_at root [] a (b ++ c ++ field ++ e ++ f ++ g ++ h) 0 4 (whole ∙ simp append_assoc) refl la;
  lengths = part_at root (a ++ b) c (field ++ e ++ f ++ g ++ h) 12 4 (whole ∙ simp append_assoc) (simp length-append (omega arith)) lc;
  version = part_at root (a ++ b ++ c) field (e ++ f ++ g ++ h) 16 (length field) (whole ∙ simp append_assoc) (simp length-append (omega arith)) refl;
  counts = part_at root (a ++ b ++ c ++ field ++ e) f (g ++ h) (18 + length field) 2 (whole ∙ simp append_assoc) (simp length-append (omega arith)) lf;
  behind = ap (drop (20 + length field)) (whole ∙ append_assoc (a ++ b ++ c ++ field ++ e ++ f) g h)
      ∙ drop_at (a ++ b ++ c ++ field ++ e ++ f) (g ++ h) (20 + length field) (simp length-append (omega arith));
  room = rw whole (simp length-append (omega arith));
}

-- a root of at most 2^30 bytes satisfies all rules, and its version and headers are those of the relation
pub record Meets (root version : List ℕ) (headers : List Header) : Type 0 where
  pub all : AllHold (rules_of_root root)
  pub version_is : version_of root ≡ version
  pub headers_are : headers_before root (header_count root) ≡ headers

pub root_meets : (root version : List ℕ) (headers : List Header) → length root ≤ 2 ^ 30 → IsRoot root version headers → Meets root version headers
root_meets root version headers small h =
    let fields = fields_stand root signature h.ignored h.length_bytes (version ++ 0 ∷ h.padding) h.flags h.count_bytes h.directory h.tail h.whole refl h.ignored_long h.version_long.long h.flags_long h.count.long in
    let long : version_length root ≡ length (version ++ 0 ∷ h.padding) = ap little_endian fields.lengths ∙ sym h.version_long.equal in
    let version_field : part root 16 (version_length root) ≡ version ++ 0 ∷ h.padding = ap (part root 16) long ∙ fields.version in
    let count : header_count root ≡ length headers = ap (λ (n : ℕ). little_endian (part root (18 + n) 2)) long ∙ ap little_endian fields.counts ∙ sym h.count.equal in
    let behind : drop (header_offset root 0) root ≡ h.directory ++ h.tail = ap (λ (n : ℕ). drop (20 + n) root) long ∙ fields.behind in
    let padded : version_length root % 4 ≡ 0 = ap (λ (n : ℕ). n % 4) long ∙ h.version_padded in
    let room = fields.room in
    let within : 16 + version_length root ≤ length root = omega arith in
    let streams : 20 + version_length root ≤ length root = omega arith in
    let sixteen : 16 ≤ length root = omega arith in
    let walked = walks root 0 headers h.directory h.tail behind (rw (← ap (λ (n : ℕ). 20 + n) (sym long)) h.headers_are) h.headers_meet (before_none (rules_of_header root) 0 0 (omega arith)) in
    let zero_more : 0 + length headers ≡ header_count root = omega arith in
    let hold = before_all (rules_of_header root) 0 (header_count root) (header_count root) (rw (← zero_more) walked.hold) (omega arith) in
    let found : headers_before root (header_count root) ≡ headers = ap (headers_before root) (sym zero_more) ∙ walked.are in
    let root_header : AllHold (rules_of_root_header root) = (
      small,
      (
        (sixteen, fields.first),
        (record { version = version; padding = h.padding; padded = padded; within = within; whole = version_field; is = h.version_is }, (streams, tt)),
      ),
    ) in
    record {
      all = all_append (rules_of_root_header root) _ root_header (all_append (rules_from (rules_of_header root) 0 (header_count root)) (rules_of_tables root) hold (rw found h.tables, tt));
      version_is = ap before_nul version_field ∙ before_nul-text version h.padding h.version_is.no_nul;
      headers_are = found;
    }

-- each stream of the standard ends within the root
pub within_from_all : (root : List ℕ) (count all_count : ℕ) → count ≡ all_count → AllHold (rules_from (rules_of_header root) 0 all_count)
    → (i : ℕ) → i < count → EndsWithin (length root) (header_at root (header_offset root i))
within_from_all root count all_count e all i lt = let before = before_of_all (rules_of_header root) all_count all in (before.each i (omega arith) (omega arith)).1.0

-- the headers that are left
pub tail_none : (root : List ℕ) (next count : ℕ) → next ≡ count → drop next (headers_before root count) ≡ []
tail_none root next count e = drop_all next (headers_before root count) (omega (arith, length-headers_before root count))

pub header_among : (root : List ℕ) (count i : ℕ) (d : Header) → i < count → get_or (headers_before root count) i d ≡ header_at root (header_offset root i)
header_among root zero i d lt = absurd (omega arith)
header_among root (suc count) i d lt = elim (cases_lt i count) [
  | inl less ↦ get_or_append_left (headers_before root count) (header_at root (header_offset root count) ∷ []) d i (omega (arith, length-headers_before root count)) ∙ header_among root count i d less
  | inr le ↦
      let e : i ≡ count = omega arith in
      get_or_at (headers_before root count) (header_at root (header_offset root count)) [] d i (length-headers_before root count ∙ sym e) ∙ ap (λ (n : ℕ). header_at root (header_offset root n)) (sym e)
]

pub tail_more : (root : List ℕ) (next count place : ℕ) (header : Header) → next < count → place ≡ header_offset root next → header ≡ header_at root place
    → drop next (headers_before root count) ≡ header ∷ drop (next + 1) (headers_before root count)
tail_more root next count place header lt p e =
    drop_more (headers_before root count) next header (omega (arith, length-headers_before root count))
    ∙ ap (λ (h : Header). h ∷ drop (next + 1) (headers_before root count)) (header_among root count next header lt ∙ sym (e ∙ ap (header_at root) p))

-- an element that a search returns passes the test, and the property of all elements
find_among : {X : Type 0} (P : X → Type 0) (test : X → Bool) (xs : List X) (y : X) → ((i : ℕ) (d : X) → i < length xs → P (get_or xs i d)) → find test xs ≡ Some y → P y × (test y ≡ true)
find_among P test [] y each e = cc
find_among P test (x ∷ xs) y each e = go (test x) refl (find_among P test xs y (λ i d lt. each (suc i) d (omega arith))) e where
  go : (b : Bool) → test x ≡ b → (find test xs ≡ Some y → P y × (test y ≡ true)) → cond b (Some x) (find test xs) ≡ Some y → P y × (test y ≡ true)
  go true is tail e = let same : x ≡ y = cc in (subst P same (each 0 x (omega arith)), ap test (sym same) ∙ is)
  go false is tail e = tail e

-- the stream that is found ends within the root
pub found_within : (root : List ℕ) (count : ℕ) (kind : Kind) (header : Header) → ((i : ℕ) → i < count → EndsWithin (length root) (header_at root (header_offset root i)))
    → named (stream_name kind) (headers_before root count) ≡ Some header → header.offset + header.size ≤ length root
found_within root count kind header within e =
    let P : Header → Type 0 = λ h. EndsWithin (length root) h in
    let test : Header → Bool = λ h. bytes_eq h.name (stream_name kind) in
    let found = find_among P test (headers_before root count) header
    (λ i d lt. subst P (sym (header_among root count i d (omega (arith, length-headers_before root count)))) (within i (omega (arith, length-headers_before root count)))) e in
    found.0 kind ((bytes_eq-Decides header.name (stream_name kind)).0 found.1)

-- what the relation says of a result that reports the rules
pub reports_found : (root : List ℕ) (r : Result RootRead Fault) → Reports (rules_of_root root) r → IfOk r (λ d. d ≡ root_read root)
    → IfOk r (λ d. (length root ≤ 2 ^ 30) × (d.bytes ≡ root) × IsRoot root d.version d.headers)
reports_found root (Ok d) all is =
    rw is (all.0, refl, root_from_rules root all)
reports_found root (Err found) fails is = tt

pub reports_all : (root : List ℕ) (r : Result RootRead Fault) → Reports (rules_of_root root) r → IfOk r (λ d. d ≡ root_read root)
    → IfOk r (λ d. AllHold (rules_of_root root) × (d ≡ root_read root))
reports_all root (Ok d) all is = (all, is)
reports_all root (Err found) fails is = tt

pub reports_only : (root version : List ℕ) (headers : List Header) (r : Result RootRead Fault) → Reports (rules_of_root root) r → IfOk r (λ d. d ≡ root_read root)
    → Meets root version headers → IsOkAnd r (λ d. (d.version ≡ version) × (d.headers ≡ headers))
reports_only root version headers (Ok d) all is meets = (ap (λ (e : RootRead). e.version) is ∙ meets.version_is, ap (λ (e : RootRead). e.headers) is ∙ meets.headers_are)
reports_only root version headers (Err found) fails is meets = absurd (none_fails (rules_of_root root) found meets.all fails)
