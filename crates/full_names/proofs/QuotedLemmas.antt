-- The text of a name determines the name.
use Rattle.std.proofs.Common.{◌≡◌, ◌∙◌, ℕ, zero, suc, ◌+◌, ◌-◌, ◌/◌, ◌%◌, ◌<◌, ◌≤◌, Bool, true, false, T, eq-zero-or-pos, IsTrue, cond, List, [], ◌∷◌, ◌++◌, ◌⊎◌, inl, inr, length, get_or, drop, refl, ap, sym, subst, append_assoc, arith}
use lib.Ieee.Fits.{and_l, and_r}
use Rattle.std.specs.Prelude.{◌&&◌, ◌||◌, ◌==◌, not, nat_le, codes, if◌then◌else◌, slice_get, Option, Some, None}
use Rattle.std.specs.Char.{is_ascii_digit}
use Rattle.full_names.proofs.Prelude.{digit_glyph, All, flat_map, list_all, and_from, and_parts, cases_Bool, or_cases, or_left, or_right, drop_all, drop_more, Identifier, Dotted, Member, EndsName, begins_identifier, holds_after, is_dotted_from, position_after, is_dotted, is_identifier, is_in_identifier, is_name_byte, is_of_kind, is_verbatim, is_word, name_text, quoted_byte, quoted_bytes, type_text}
use Rattle.std.specs.Str.{bytes_eq}
use Rattle.std.proofs.lemmas.Bool.Decides.{nat_tests}
use Rattle.std.proofs.lemmas.Fmt.{hex_byte}
use Rattle.std.proofs.lemmas.List.Elements.{All-head, All-tail}
use Rattle.std.proofs.lemmas.Slice.Eq.{bytes_eq-Decides}
use Rattle.table_schema.specs.Tokens.{hexadecimal}
use Rattle.full_names.specs.declared.quoted.TheConstants.{ROLES}
use Rattle.full_names.specs.declared.quoted.NameKind.{NameKind}
use Rattle.full_names.specs.declared.quoted.Position.{Position}
use Rattle.full_names.specs.declared.quoted.Position.TheVariants.{Start, Within}

-- ---- positions in a dotted name

dotted_cons : (position : Position) (byte : ℕ) (tail : List ℕ) → is_dotted_from position (byte ∷ tail) ≡ holds_after (λ next. is_dotted_from next tail) (position_after position byte)
dotted_cons Start byte tail = refl
dotted_cons Within byte tail = refl

dotted_at : (position : Position) (text : List ℕ) (i : ℕ) (after : Option Position) → i < length text → position_after position (get_or text i 0) ≡ after
    → is_dotted_from position (drop i text) ≡ holds_after (λ next. is_dotted_from next (drop (i + 1) text)) after
dotted_at position text i after lt is =
    ap (is_dotted_from position) (drop_more text i 0 lt) ∙ dotted_cons position (get_or text i 0) (drop (i + 1) text) ∙ ap (holds_after (λ next. is_dotted_from next (drop (i + 1) text))) is

pub dotted_step : (position next : Position) (text : List ℕ) (i : ℕ) → i < length text → position_after position (get_or text i 0) ≡ Some next
    → is_dotted_from position (drop i text) ≡ is_dotted_from next (drop (i + 1) text)
dotted_step position next text i lt is = dotted_at position text i (Some next) lt is

pub dotted_stop : (position : Position) (text : List ℕ) (i : ℕ) → i < length text → position_after position (get_or text i 0) ≡ None → is_dotted_from position (drop i text) ≡ false
dotted_stop position text i lt is = dotted_at position text i None lt is

pub dotted_end : (position : Position) (text : List ℕ) (i : ℕ) → length text ≤ i → is_dotted_from position (drop i text) ≡ is_dotted_from position []
dotted_end position text i le = ap (is_dotted_from position) (drop_all i text le)

-- ---- the role of each byte in an identifier

abbrev agree : Bool → Bool → Bool
agree true b = b
agree false b = not b

agree_same : (a b : Bool) → T (agree a b) → a ≡ b
agree_same true true are = refl
agree_same false false are = refl
agree_same true false are = absurd are
agree_same false true are = absurd are

abbrev are_roles : ℕ → Bool
are_roles zero = true
are_roles (suc n) = agree (get_or ROLES n 0 == 50) (begins_identifier n) && (agree (not (get_or ROLES n 0 == 48)) (is_in_identifier n) && are_roles n)

role_below : (count byte : ℕ) → T (are_roles count) → byte < count → ((get_or ROLES byte 0 == 50) ≡ begins_identifier byte) × (not (get_or ROLES byte 0 == 48) ≡ is_in_identifier byte)
role_below zero byte are few = absurd (omega arith)
role_below (suc count) byte are few =
    let begins = agree (get_or ROLES count 0 == 50) (begins_identifier count) in
    let within = agree (not (get_or ROLES count 0 == 48)) (is_in_identifier count) in
    let others = and_r begins (within && are_roles count) are in
    elim (eq-zero-or-pos (count - byte)) [
      | inl none ↦
          let last : byte ≡ count = omega arith in
          rw last (agree_same _ _ (and_l begins (within && are_roles count) are), agree_same _ _ (and_l within (are_roles count) others))
      | inr more ↦ role_below count byte (and_r within (are_roles count) others) (omega arith)
    ]

pub begins_at : (byte : ℕ) → byte < 256 → (get_or ROLES byte 0 == 50) ≡ begins_identifier byte
begins_at byte small = (role_below 256 byte tt small).0

pub within_at : (byte : ℕ) → byte < 256 → not (get_or ROLES byte 0 == 48) ≡ is_in_identifier byte
within_at byte small = (role_below 256 byte tt small).1

-- a byte of an identifier is no dot
not_dot : (byte : ℕ) → is_in_identifier byte ≡ true → (byte == 46) ≡ false
not_dot byte within = elim (cases_Bool (byte == 46)) [
  | inl dot ↦ let at : byte ≡ 46 = grind (arith, nat_tests, dot) in let wrong : true ≡ false = sym within ∙ ap is_in_identifier at in absurd cc
  | inr other ↦ other
]

pub within_after : (byte : ℕ) → is_in_identifier byte ≡ true → Some Within ≡ position_after Within byte
within_after byte within =
    sym (ap (λ t. cond t (Some Start) (cond (is_in_identifier byte) (Some Within) None)) (not_dot byte within) ∙ ap (λ t. cond t (Some Within) None) within)

-- an identifier: a byte that begins one, and bytes of one
abbrev no_dot : List ℕ → Bool
no_dot text = list_all (λ byte. not (byte == 46)) text

and_false : (t : Bool) → (t && false) ≡ false
and_false true = refl
and_false false = refl

tail_is : (text : List ℕ) → (is_dotted_from Within text && no_dot text) ≡ list_all is_in_identifier text
tail_is [] = refl
tail_is (byte ∷ text) =
    let holds = λ (next : Option Position). holds_after (λ next. is_dotted_from next text) next in
    let later = list_all is_in_identifier text in
    elim (cases_Bool (is_in_identifier byte)) [
      | inl within ↦
          ap (λ next. holds next && (not (byte == 46) && no_dot text)) (sym (within_after byte within))
          ∙ ap (λ t. is_dotted_from Within text && (not t && no_dot text)) (not_dot byte within) ∙ tail_is text ∙ sym (ap (λ t. t && later) within)
      | inr other ↦ elim (cases_Bool (byte == 46)) [
        | inl dot ↦ ap (λ t. holds (position_after Within byte) && (not t && no_dot text)) dot ∙ and_false (holds (position_after Within byte)) ∙ sym (ap (λ t. t && later) other)
        | inr none ↦
            ap (λ t. holds (cond t (Some Start) (cond (is_in_identifier byte) (Some Within) None)) && (not (byte == 46) && no_dot text)) none
            ∙ ap (λ t. holds (cond t (Some Within) None) && (not (byte == 46) && no_dot text)) other ∙ sym (ap (λ t. t && later) other)
      ]
    ]

identifier_is : (first : ℕ) (tail : List ℕ) → (begins_identifier first && list_all is_in_identifier (first ∷ tail)) ≡ is_identifier (first ∷ tail)
identifier_is first tail =
    let holds = λ (t : Bool). holds_after (λ next. is_dotted_from next tail) (cond t (Some Within) None) in
    let both = λ (t : Bool). holds t && (not (first == 46) && no_dot tail) in
    elim (cases_Bool (begins_identifier first)) [
      | inl begins ↦
          let within : is_in_identifier first ≡ true = or_left (begins_identifier first) (is_ascii_digit first) begins in
          ap (λ t. t && list_all is_in_identifier (first ∷ tail)) begins ∙ ap (λ t. t && list_all is_in_identifier tail) within ∙ sym (tail_is tail)
          ∙ sym (ap (λ t. is_dotted_from Within tail && (not t && no_dot tail)) (not_dot first within)) ∙ sym (ap both begins)
      | inr not_one ↦ ap (λ t. t && list_all is_in_identifier (first ∷ tail)) not_one ∙ sym (ap both not_one)
    ]

pub first_is : (first : ℕ) (text : List ℕ) → Some first ≡ slice_get text 0 → (begins_identifier first && list_all is_in_identifier text) ≡ is_identifier text
first_is first [] is = absurd cc
first_is first (byte ∷ tail) is = let same : first ≡ byte = cc in ap (λ n. begins_identifier n && list_all is_in_identifier (byte ∷ tail)) same ∙ identifier_is byte tail

-- ---- a name without quotes has only bytes of names, and at least one

-- a byte that can be at a position is a byte of a name
positioned : (position next : Position) (byte : ℕ) → position_after position byte ≡ Some next → is_name_byte byte ≡ true
positioned Start next byte is = elim (cases_Bool (begins_identifier byte)) [
  | inl begins ↦ or_left (is_in_identifier byte) (byte == 46) (or_left (begins_identifier byte) (is_ascii_digit byte) begins)
  | inr not_one ↦ let none = ap (λ t. cond t (Some Within) None) (sym not_one) ∙ is in absurd cc
]
positioned Within next byte is = elim (cases_Bool (byte == 46)) [
  | inl dot ↦ or_right (is_in_identifier byte) (byte == 46) dot
  | inr other ↦ elim (cases_Bool (is_in_identifier byte)) [
    | inl within ↦ or_left (is_in_identifier byte) (byte == 46) within
    | inr not_one ↦
        let none = ap (λ t. cond t (Some Start) (cond (is_in_identifier byte) (Some Within) None)) (sym other) ∙ is in
        let more = ap (λ t. cond t (Some Within) None) (sym not_one) ∙ none in absurd cc
  ]
]

dotted_more : (position : Position) (byte : ℕ) (tail : List ℕ) (after : Option Position) → position_after position byte ≡ after → holds_after (λ next. is_dotted_from next tail) after ≡ true
    → ((next : Position) → is_dotted_from next tail ≡ true → list_all is_name_byte tail ≡ true) → list_all is_name_byte (byte ∷ tail) ≡ true
dotted_more position byte tail None at is more = absurd cc
dotted_more position byte tail (Some next) at is more = and_from (is_name_byte byte) (list_all is_name_byte tail) (positioned position next byte at) (more next is)

dotted_bytes : (position : Position) (text : List ℕ) → is_dotted_from position text ≡ true → list_all is_name_byte text ≡ true
dotted_bytes position [] is = refl
dotted_bytes position (byte ∷ tail) is = dotted_more position byte tail (position_after position byte) refl (sym (dotted_cons position byte tail) ∙ is) (λ next. dotted_bytes next tail)

-- a word of ILAsm: bytes of names, at least one
abbrev IsRun : List ℕ → Type 0
IsRun [] = ⊥
IsRun (byte ∷ bytes) = (is_name_byte byte ≡ true) × (list_all is_name_byte bytes ≡ true)

some_run : (name : List ℕ) → (name ≡ [] → ⊥) → list_all is_name_byte name ≡ true → IsRun name
some_run [] some is = some refl
some_run (byte ∷ bytes) some is = and_parts (is_name_byte byte) (list_all is_name_byte bytes) is

dotted_run : (name : List ℕ) → is_dotted name ≡ true → IsRun name
dotted_run [] is = absurd cc
dotted_run (byte ∷ name) is = some_run (byte ∷ name) (λ e. absurd cc) (dotted_bytes Start (byte ∷ name) is)

same_run : (name word : List ℕ) → bytes_eq name word ≡ true → IsRun word → IsRun name
same_run name word is run = subst IsRun (sym ((bytes_eq-Decides name word).0 is)) run

word_run : (kind : NameKind) (name : List ℕ) → is_of_kind kind name ≡ true → IsRun name
word_run Identifier name is = dotted_run name (and_parts (is_dotted name) (list_all (λ byte. not (byte == 46)) name) is).0
word_run Dotted name is = dotted_run name is
word_run Member name is = elim (or_cases (is_dotted name || bytes_eq name (codes ".ctor")) (bytes_eq name (codes ".cctor")) is) [
  | inl first ↦ elim (or_cases (is_dotted name) (bytes_eq name (codes ".ctor")) first) [
    | inl dotted ↦ dotted_run name dotted
    | inr same ↦ same_run name (codes ".ctor") same (refl, refl)
  ]
  | inr same ↦ same_run name (codes ".cctor") same (refl, refl)
]

-- ---- two runs of bytes of names

head_of : ℕ → List ℕ → ℕ
head_of other [] = other
head_of other (first ∷ tail) = first

tail_of : List ℕ → List ℕ
tail_of [] = []
tail_of (first ∷ tail) = tail

runs_end : (a b s t : List ℕ) → list_all is_name_byte a ≡ true → list_all is_name_byte b ≡ true → EndsName s → EndsName t → a ++ s ≡ b ++ t → (a ≡ b) × (s ≡ t)
runs_end [] [] s t of_a of_b ends end is = (refl, is)
runs_end [] (y ∷ b) [] t of_a of_b ends end is = absurd cc
runs_end [] (y ∷ b) (x ∷ s) t of_a of_b ends end is =
    let same : x ≡ y = cc in
    let no : is_name_byte y ≡ false = subst (λ (n : ℕ). is_name_byte n ≡ false) same ends in
    let yes = (and_parts (is_name_byte y) (list_all is_name_byte b) of_b).0 in
    let wrong : true ≡ false = sym yes ∙ no in absurd cc
runs_end (x ∷ a) [] s [] of_a of_b ends end is = absurd cc
runs_end (x ∷ a) [] s (y ∷ t) of_a of_b ends end is =
    let same : y ≡ x = cc in
    let no : is_name_byte x ≡ false = subst (λ (n : ℕ). is_name_byte n ≡ false) same end in
    let yes = (and_parts (is_name_byte x) (list_all is_name_byte a) of_a).0 in
    let wrong : true ≡ false = sym yes ∙ no in absurd cc
runs_end (x ∷ a) (y ∷ b) s t of_a of_b ends end is =
    let same : x ≡ y = cc in
    let more : a ++ s ≡ b ++ t = cc in
    let tails = runs_end a b s t (and_parts (is_name_byte x) (list_all is_name_byte a) of_a).1 (and_parts (is_name_byte y) (list_all is_name_byte b) of_b).1 ends end more in
    let first = tails.0 in
    (cc, tails.1)

-- ---- two texts between quotes

cons_same : (x y : ℕ) (a b : List ℕ) → x ≡ y → a ≡ b → x ∷ a ≡ y ∷ b
cons_same x y a b heads tails = (cc)

glyphs : (m n : ℕ) → m < 16 → n < 16 → digit_glyph false m ≡ digit_glyph false n → m ≡ n
glyphs m n low high is = grind (arith, nat_tests, is)

same_byte : (x y : ℕ) → digit_glyph false (x / 16) ≡ digit_glyph false (y / 16) → digit_glyph false (x % 16) ≡ digit_glyph false (y % 16) → x < 256 → y < 256 → x ≡ y
same_byte x y high low small less =
    let a = glyphs (x / 16) (y / 16) (omega arith) (omega arith) high in
    let b = glyphs (x % 16) (y % 16) (omega arith) (omega arith) low in
    omega (arith, a, b)

abbrev AreBytes : List ℕ → Type 0
AreBytes bytes = All (λ byte. byte < 256) bytes

first_byte : (x : ℕ) (xs : List ℕ) → AreBytes (x ∷ xs) → x < 256
first_byte x xs are = All-head (λ byte. byte < 256) x xs are

other_bytes : (x : ℕ) (xs : List ℕ) → AreBytes (x ∷ xs) → AreBytes xs
other_bytes x xs are = All-tail (λ byte. byte < 256) x xs are

-- texts that are made byte by byte: a byte as it is, unless it is a quote or a backslash, or escaped by four bytes
module _ (made : ℕ → List ℕ) (high low : ℕ → ℕ)
    (stands : (byte : ℕ) → byte < 256 → ((made byte ≡ byte ∷ []) × (byte ≡ 39 → ⊥) × (byte ≡ 92 → ⊥)) ⊎ (made byte ≡ 92 ∷ 120 ∷ high byte ∷ low byte ∷ []))
    (same : (x y : ℕ) → x < 256 → y < 256 → high x ≡ high y → low x ≡ low y → x ≡ y) where
  text_before : List ℕ → List ℕ → List ℕ
  text_before [] end = 39 ∷ end
  text_before (x ∷ xs) end = made x ++ text_before xs end

  begins_with : (x : ℕ) (xs end : List ℕ) → x < 256 → (head_of 0 (text_before (x ∷ xs) end) ≡ 39 → ⊥)
  unfolding text_before head_of
  begins_with x xs end small is = elim (stands x small) [
    | inl plain ↦ plain.1 (sym (ap (λ (q : List ℕ). head_of 0 (q ++ text_before xs end)) plain.0) ∙ is)
    | inr escaped ↦ let slash = sym (ap (λ (q : List ℕ). head_of 0 (q ++ text_before xs end)) escaped) ∙ is in absurd (omega (arith, slash))
  ]

  ends_alike : (a b s t : List ℕ) → AreBytes a → AreBytes b → text_before a s ≡ text_before b t → (a ≡ b) × (s ≡ t)
  unfolding text_before head_of
  ends_alike [] [] s t of_a of_b is = (refl, cc)
  ends_alike [] (y ∷ b) s t of_a of_b is = absurd (begins_with y b t (first_byte y b of_b) (ap (head_of 0) (sym is)))
  ends_alike (x ∷ a) [] s t of_a of_b is = absurd (begins_with x a s (first_byte x a of_a) (ap (head_of 0) is))
  ends_alike (x ∷ a) (y ∷ b) s t of_a of_b is =
      let first = λ (q : List ℕ). q ++ text_before a s in
      let second = λ (q : List ℕ). q ++ text_before b t in
      elim (stands x (first_byte x a of_a)) [
        | inl plain ↦ elim (stands y (first_byte y b of_b)) [
          | inl other ↦
              let here : x ∷ text_before a s ≡ y ∷ text_before b t = sym (ap first plain.0) ∙ is ∙ ap second other.0 in
              let heads : x ≡ y = cc in
              let tails : text_before a s ≡ text_before b t = cc in
              let more = ends_alike a b s t (other_bytes x a of_a) (other_bytes y b of_b) tails in
              (cons_same x y a b heads more.0, more.1)
          | inr escaped ↦ absurd (plain.2 (ap (head_of 0) (sym (ap first plain.0) ∙ is ∙ ap second escaped)))
        ]
        | inr escape ↦ elim (stands y (first_byte y b of_b)) [
          | inl other ↦ absurd (other.2 (ap (head_of 0) (sym (ap second other.0) ∙ sym is ∙ ap first escape)))
          | inr escaped ↦
              let here : 92 ∷ 120 ∷ high x ∷ low x ∷ text_before a s ≡ 92 ∷ 120 ∷ high y ∷ low y ∷ text_before b t = sym (ap first escape) ∙ is ∙ ap second escaped in
              let highs : high x ≡ high y = cc in
              let lows : low x ≡ low y = cc in
              let tails : text_before a s ≡ text_before b t = cc in
              let more = ends_alike a b s t (other_bytes x a of_a) (other_bytes y b of_b) tails in
              (cons_same x y a b (same x y (first_byte x a of_a) (first_byte y b of_b) highs lows) more.0, more.1)
        ]
      ]

  text_is : (a end : List ℕ) → flat_map made a ++ (39 ∷ end) ≡ text_before a end
  unfolding text_before
  text_is [] end = refl
  text_is (x ∷ a) end = append_assoc (made x) (flat_map made a) (39 ∷ end) ∙ ap (λ t. made x ++ t) (text_is a end)

  texts_end : (a b s t : List ℕ) → AreBytes a → AreBytes b → flat_map made a ++ (39 ∷ s) ≡ flat_map made b ++ (39 ∷ t) → (a ≡ b) × (s ≡ t)
  texts_end a b s t of_a of_b is = ends_alike a b s t of_a of_b (sym (text_is a s) ∙ is ∙ text_is b t)

high_digit : ℕ → ℕ
high_digit byte = digit_glyph false (byte / 16)

low_digit : ℕ → ℕ
low_digit byte = digit_glyph false (byte % 16)

stands_as : (byte : ℕ) → byte < 256 → ((quoted_byte byte ≡ byte ∷ []) × (byte ≡ 39 → ⊥) × (byte ≡ 92 → ⊥)) ⊎ (quoted_byte byte ≡ 92 ∷ 120 ∷ high_digit byte ∷ low_digit byte ∷ [])
unfolding high_digit low_digit
stands_as byte small = elim (cases_Bool (is_verbatim byte)) [
  | inl so ↦ inl (
    ap (λ (t : Bool). cond t (byte ∷ []) (92 ∷ 120 ∷ hexadecimal 2 byte)) so,
    λ quote. let wrong : true ≡ false = sym so ∙ ap is_verbatim quote in absurd cc,
    λ slash. let wrong : true ≡ false = sym so ∙ ap is_verbatim slash in absurd cc,
  )
  | inr not_so ↦ inr (ap (λ (t : Bool). cond t (byte ∷ []) (92 ∷ 120 ∷ hexadecimal 2 byte)) not_so ∙ ap (λ (digits : List ℕ). 92 ∷ 120 ∷ digits) (hex_byte false byte small))
]

same_digits : (x y : ℕ) → x < 256 → y < 256 → high_digit x ≡ high_digit y → low_digit x ≡ low_digit y → x ≡ y
unfolding high_digit low_digit
same_digits x y small less highs lows = same_byte x y highs lows small less

contents_end : (a b s t : List ℕ) → AreBytes a → AreBytes b → quoted_bytes a ++ (39 ∷ s) ≡ quoted_bytes b ++ (39 ∷ t) → (a ≡ b) × (s ≡ t)
contents_end a b s t of_a of_b is = texts_end quoted_byte high_digit low_digit stands_as same_digits a b s t of_a of_b is

-- ---- two names

-- the text of a name: a run, or a text in quotes
abbrev Written : NameKind → List ℕ → Type 0
Written kind name = ((name_text kind name ≡ name) × IsRun name) ⊎ (name_text kind name ≡ 39 ∷ (quoted_bytes name ++ 39 ∷ []))

written : (kind : NameKind) (name : List ℕ) → Written kind name
unfolding name_text
written kind name =
    let text = λ (t : Bool). cond t name (39 ∷ (quoted_bytes name ++ 39 ∷ [])) in
    elim (cases_Bool (is_word kind name)) [
      | inl so ↦ inl (ap text so, word_run kind name (and_parts (nat_le (length name) 1023) (is_of_kind kind name) so).1)
      | inr not_so ↦ inr (ap text not_so)
    ]

run_bytes : (name : List ℕ) → IsRun name → list_all is_name_byte name ≡ true
run_bytes [] run = absurd run
run_bytes (x ∷ xs) run = and_from (is_name_byte x) (list_all is_name_byte xs) run.0 run.1

-- a run does not begin with a quote
no_quote : (name s t : List ℕ) → IsRun name → name ++ s ≡ 39 ∷ t → ⊥
no_quote [] s t run is = run
no_quote (x ∷ xs) s t run is =
    let quote : x ≡ 39 = cc in
    let wrong : true ≡ false = sym run.0 ∙ ap is_name_byte quote in absurd cc

pub names_end : (kind other : NameKind) (a b s t : List ℕ) → AreBytes a → AreBytes b → EndsName s → EndsName t → name_text kind a ++ s ≡ name_text other b ++ t → (a ≡ b) × (s ≡ t)
unfolding tail_of
names_end kind other a b s t of_a of_b ends end is = elim (written kind a) [
  | inl word ↦ elim (written other b) [
    | inl more ↦ runs_end a b s t (run_bytes a word.1) (run_bytes b more.1) ends end (ap (λ (x : List ℕ). x ++ s) (sym word.0) ∙ is ∙ ap (λ (x : List ℕ). x ++ t) more.0)
    | inr quoted ↦ absurd (no_quote a s _ word.1 (ap (λ (x : List ℕ). x ++ s) (sym word.0) ∙ is ∙ ap (λ (x : List ℕ). x ++ t) quoted))
  ]
  | inr quoted ↦ elim (written other b) [
    | inl word ↦ absurd (no_quote b t _ word.1 (ap (λ (x : List ℕ). x ++ t) (sym word.0) ∙ sym is ∙ ap (λ (x : List ℕ). x ++ s) quoted))
    | inr more ↦
        let here : 39 ∷ ((quoted_bytes a ++ 39 ∷ []) ++ s) ≡ 39 ∷ ((quoted_bytes b ++ 39 ∷ []) ++ t) = ap (λ (x : List ℕ). x ++ s) (sym quoted) ∙ is ∙ ap (λ (x : List ℕ). x ++ t) more in
        let inner : (quoted_bytes a ++ 39 ∷ []) ++ s ≡ (quoted_bytes b ++ 39 ∷ []) ++ t = ap tail_of here in
        contents_end a b s t of_a of_b (sym (append_assoc (quoted_bytes a) (39 ∷ []) s) ∙ inner ∙ append_assoc (quoted_bytes b) (39 ∷ []) t)
  ]
]

-- ---- what is written

first_of_two : (test : Bool) (xs ys : List ℕ) → IsTrue test → (if test then xs else ys) ≡ xs
first_of_two true xs ys is = refl
first_of_two false xs ys is = cc

pub word_alone : (kind : NameKind) (name : List ℕ) → is_word kind name ≡ true → name ≡ name_text kind name
unfolding name_text
word_alone kind name so = sym (ap (λ (t : Bool). cond t name (codes "'" ++ (quoted_bytes name ++ codes "'"))) so)

pub in_quotes : (kind : NameKind) (name : List ℕ) → is_word kind name ≡ false → codes "'" ++ (quoted_bytes name ++ codes "'") ≡ name_text kind name
unfolding name_text
in_quotes kind name not_so = sym (ap (λ (t : Bool). cond t name (codes "'" ++ (quoted_bytes name ++ codes "'"))) not_so)

-- verbatim bytes are not escaped
pub verbatim_text : (text : List ℕ) → ((k : ℕ) → k < length text → IsTrue (is_verbatim (get_or text k 0))) → text ≡ quoted_bytes text
verbatim_text [] are = refl
verbatim_text (byte ∷ bytes) are =
    ap (λ ys. byte ∷ ys) (verbatim_text bytes (λ k lt. are (suc k) (omega arith)))
    ∙ ap (λ xs. xs ++ quoted_bytes bytes) (sym (first_of_two (is_verbatim byte) (byte ∷ []) (92 ∷ 120 ∷ hexadecimal 2 byte) (are 0 (omega arith))))

pub type_alone : (space name : List ℕ) → length space ≡ 0 → name_text Identifier name ≡ type_text space name
type_alone [] name none = refl
type_alone (x ∷ space) name none = absurd (omega arith)

pub type_after : (space name : List ℕ) → (length space == 0) ≡ false → name_text Dotted space ++ (codes "." ++ name_text Identifier name) ≡ type_text space name
type_after [] name some = absurd cc
type_after (x ∷ space) name some = refl
