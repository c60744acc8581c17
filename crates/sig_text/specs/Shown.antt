-- What the private functions pass to a sink, and the bytes that they leave, for bytes of any kind. There is nothing to
-- believe here: it is proved that for the bytes of a signature this is the text of the signature.
use Rattle.std.specs.Prelude.{ℕ, zero, suc, ◌+◌, ◌/◌, ◌%◌, ◌==◌, ◌||◌, nat_lt, ℤ, pos, Bool, if◌then◌else◌, Option, Some, None, drop, length, List, [], ◌∷◌, ◌++◌, codes}
use Rattle.std.specs.Option.{unwrap_or}
use Rattle.table_schema.specs.declared.token.Token.{Token}
use Rattle.table_schema.specs.declared.table.TableId.TheVariants.{TypeDef}
use Rattle.table_schema.specs.declared.column.SigKind.{SigKind}
use Rattle.table_schema.specs.declared.column.SigKind.TheVariants as column
use Rattle.sig_grammar.specs.declared.element.Element.{Element}
use Rattle.sig_grammar.specs.declared.body.Prefix.{Prefix}
use Rattle.sig_grammar.specs.ElementTypes.{VOID, PTR, BYREF, VALUETYPE, CLASS, VAR, ARRAY, GENERICINST, TYPEDBYREF, FNPTR, SZARRAY, MVAR, SENTINEL}
use Rattle.sig_grammar.specs.Reading.{number_at, signed_at, index_at, prefix_at, head_is, element_of}
use Rattle.sig_text.specs.SignatureText.{Piece, word, number, name, method_name, param_flags, param_name, comma, following, prefix_text, element_text, kind_text, dimension_text, written_dimensions, rank_text, mark_text, flag_text, call_text, arity_text, generics_text}

-- the pieces of what is at the start, and the bytes after it
abbrev pub Shown : Type 0
Shown = List Piece × List ℕ

-- ---- one value at the start; another value if there is none

abbrev pub byte_or : List ℕ → ℕ × List ℕ
byte_or [] = (0, [])
byte_or (c ∷ b) = (c, b)

abbrev pub number_or : List ℕ → ℕ × List ℕ
number_or b = unwrap_or (number_at b) (0, b)

abbrev pub signed_or : List ℕ → ℤ × List ℕ
signed_or b = unwrap_or (signed_at b) (pos 0, b)

abbrev pub index_or : List ℕ → Token × List ℕ
index_or b = unwrap_or (index_at b) (record { table = TypeDef; row = 0 }, b)

-- ---- modifiers and PINNED

abbrev pub marked : Option (Option Prefix × List ℕ) → Option (Prefix × List ℕ)
marked None = None
marked (Some (None, b)) = None
marked (Some (Some p, b)) = Some (p, b)

-- the one at the start
unfoldable pub mark_at : List ℕ → Option (Prefix × List ℕ)
mark_at b = marked (prefix_at b)

-- those at the start, at most the given number
abbrev pub after_mark : (List ℕ → List Prefix × List ℕ) → List ℕ → Option (Prefix × List ℕ) → List Prefix × List ℕ
after_mark more b None = ([], b)
after_mark more b (Some x) = (x.0 ∷ (more x.1).0, (more x.1).1)

unfoldable pub marks_in : ℕ → List ℕ → List Prefix × List ℕ
marks_in zero b = ([], b)
marks_in (suc n) b = after_mark (marks_in n) b (mark_at b)

-- all at the start
unfoldable pub marks_of : List ℕ → List Prefix × List ℕ
marks_of b = marks_in (length b) b

-- ---- the shape of an array

unfoldable pub numbers_behind : ℕ → List ℕ → List ℕ
numbers_behind zero b = b
numbers_behind (suc n) b = numbers_behind n (number_or b).1

-- the next of the given number of values; then the number of those left, and the bytes
unfoldable pub next_of : {A : Type 0} → (List ℕ → A × List ℕ) → ℕ × List ℕ → Option A × (ℕ × List ℕ)
next_of read (zero, b) = (None, (zero, b))
next_of read (suc n, b) = (Some (read b).0, (n, (read b).1))

unfoldable pub dimensions_shown : List Piece → ℕ → ℕ × List ℕ → ℕ × List ℕ → Shown
dimensions_shown before zero sizes low = ([], low.1)
dimensions_shown before (suc n) sizes low =
    let more = dimensions_shown (word (codes ",") ∷ []) n (next_of number_or sizes).1 (next_of signed_or low).1 in
    (before ++ (dimension_text (next_of signed_or low).0 (next_of number_or sizes).0 ++ more.0), more.1)

unfoldable pub shape_shown : List ℕ → Shown
shape_shown b =
    let rank = number_or b in
    let sizes = number_or rank.1 in
    let low = number_or (numbers_behind sizes.0 sizes.1) in
    let written = written_dimensions rank.0 sizes.0 low.0 in
    let all = dimensions_shown [] written sizes low in
    (word (codes "[") ∷ (mark_text rank.0 sizes.0 low.0 ++ (all.0 ++ (rank_text rank.0 written ++ word (codes "]") ∷ []))), all.1)

-- ---- types; the reader shows a type without modifiers, from its first byte and the bytes after it

abbrev pub CoreShown : Type 0
CoreShown = ℕ → List ℕ → Shown

abbrev pub word_shown : List ℕ → List ℕ → Shown
word_shown text b = (word text ∷ [], b)

unfoldable pub named_shown : CoreShown
named_shown c b = (word (kind_text (c == VALUETYPE)) ∷ name (index_or b).0 ∷ [], (index_or b).1)

unfoldable pub parameter_shown : List ℕ → List ℕ → Shown
parameter_shown mark b = (word mark ∷ number (number_or b).0 ∷ [], (number_or b).1)

unfoldable pub by_ref_shown : CoreShown → List ℕ → Shown
by_ref_shown core b =
    let marks = marks_of b in
    let first = byte_or marks.1 in
    let inner = core first.0 first.1 in
    (inner.0 ++ (following prefix_text marks.0 ++ word (codes "&") ∷ []), inner.1)

unfoldable pub content_shown : CoreShown → List ℕ → Shown
content_shown core b = let first = byte_or b in if first.0 == BYREF then by_ref_shown core first.1 else core first.0 first.1

unfoldable pub slot_shown : CoreShown → List ℕ → Shown
slot_shown core b =
    let marks = marks_of b in
    let inner = content_shown core marks.1 in
    (inner.0 ++ following prefix_text marks.0, inner.1)

-- the separator before all values but the first
abbrev pub before : List ℕ → ℕ → List Piece
before separator done = flag_text (nat_lt 0 done) separator

abbrev pub is_marked : List ℕ → Bool
is_marked b = head_is SENTINEL b

abbrev pub behind_mark : List ℕ → List ℕ
behind_mark b = if is_marked b then drop 1 b else b

unfoldable pub listed_shown : CoreShown → List Piece → ℕ → List ℕ → Shown
listed_shown core separator zero b = ([], b)
listed_shown core separator (suc n) b =
    let first = slot_shown core (behind_mark b) in
    let more = listed_shown core comma n first.1 in
    (separator ++ (flag_text (is_marked b) (codes "..., ") ++ (first.0 ++ more.0)), more.1)

unfoldable pub enclosed_shown : CoreShown → List ℕ → List ℕ → ℕ → List ℕ → Shown
enclosed_shown core first last n b =
    let all = listed_shown core [] n b in
    (word first ∷ (all.0 ++ word last ∷ []), all.1)

unfoldable pub instance_shown : CoreShown → List ℕ → Shown
instance_shown core b =
    let first = byte_or b in
    let named = named_shown first.0 first.1 in
    let count = number_or named.1 in
    let args = enclosed_shown core (codes "<") (codes ">") count.0 count.1 in
    (named.0 ++ args.0, args.1)

unfoldable pub generic_or : ℕ → List ℕ → Option ℕ × List ℕ
generic_or c b = if c / 16 % 2 == 1 then (Some (number_or b).0, (number_or b).1) else (None, b)

abbrev pub code_text : ℕ → List Piece
code_text c = call_text (c % 16) (c / 32 % 2 == 1) (c / 64 % 2 == 1)

unfoldable pub method_shown : CoreShown → List ℕ → Shown
method_shown core b =
    let first = byte_or b in
    let generic = generic_or first.0 first.1 in
    let count = number_or generic.1 in
    let ret = slot_shown core count.1 in
    let params = enclosed_shown core (codes "(") (codes ")") count.0 ret.1 in
    (word (codes "method ") ∷ (code_text first.0 ++ (ret.0 ++ (word (codes " *") ∷ (arity_text generic.0 ++ params.0)))), params.1)

unfoldable pub after_element_shown : ℕ → List ℕ → Shown
after_element_shown c b =
    if c == PTR then word_shown (codes "*") b else
    if c == SZARRAY then word_shown (codes "[]") b else
    if c == ARRAY then shape_shown b else
    ([], b)

unfoldable pub around_shown : CoreShown → CoreShown
around_shown core c b =
    let of = slot_shown core b in
    let end = after_element_shown c of.1 in
    (of.0 ++ end.0, end.1)

unfoldable pub code_shown : CoreShown → CoreShown
code_shown core c b =
    if c == CLASS || c == VALUETYPE then named_shown c b else
    if c == VAR then parameter_shown (codes "!") b else
    if c == MVAR then parameter_shown (codes "!!") b else
    if c == VOID then word_shown (codes "void") b else
    if c == TYPEDBYREF then word_shown (codes "typedref") b else
    if c == FNPTR then method_shown core b else
    if c == GENERICINST then instance_shown core b else
    around_shown core c b

abbrev pub element_or : CoreShown → ℕ → Option Element → List ℕ → Shown
element_or core c (Some e) b = word_shown (element_text e) b
element_or core c None b = code_shown core c b

-- a type of at most the given depth
unfoldable pub core_shown : ℕ → CoreShown
core_shown zero c b = ([], b)
core_shown (suc d) c b = element_or (core_shown d) c (element_of c) b

-- ---- whole signatures

unfoldable pub property_shown : CoreShown → ℕ → List ℕ → Shown
property_shown core c b =
    let count = number_or b in
    let of = slot_shown core count.1 in
    let params = enclosed_shown core (codes "(") (codes ")") count.0 of.1 in
    (flag_text (c == 0x28) (codes "instance ") ++ (of.0 ++ (word (codes " ") ∷ params.0)), params.1)

unfoldable pub counted_shown : CoreShown → List ℕ → List ℕ → List ℕ → Shown
counted_shown core first last b = enclosed_shown core first last (number_or b).0 (number_or b).1

unfoldable pub headed_shown : CoreShown → List ℕ → Shown
headed_shown core b =
    let first = byte_or b in
    if first.0 == 0x06 then slot_shown core first.1 else
    if first.0 == 0x07 then counted_shown core (codes "(") (codes ")") first.1 else
    if first.0 == 0x0A then counted_shown core (codes "<") (codes ">") first.1 else
    if first.0 == 0x08 || first.0 == 0x28 then property_shown core first.0 first.1 else
    method_shown core b

unfoldable pub body_shown : CoreShown → SigKind → List ℕ → List Piece
body_shown core column.TypeSpec b = (slot_shown core b).0
body_shown core _ b = (headed_shown core b).0

-- ---- the declaration of a method, a property or a field

unfoldable pub named_slots_shown : CoreShown → List Piece → ℕ → ℕ → List ℕ → List Piece
named_slots_shown core separator position zero b = []
named_slots_shown core separator position (suc n) b =
    let first = slot_shown core (behind_mark b) in
    separator ++ (flag_text (is_marked b) (codes "..., ") ++ (param_flags position ∷ (first.0 ++ (param_name position ∷ named_slots_shown core comma (position + 1) n first.1))))

unfoldable pub declared_shown : CoreShown → List ℕ → List Piece
declared_shown core b =
    let first = byte_or b in
    let generic = generic_or first.0 first.1 in
    let count = number_or generic.1 in
    let ret = slot_shown core count.1 in
    code_text first.0 ++ (ret.0 ++ (word (codes " ") ∷ (method_name ∷ (generics_text generic.0 ++ (word (codes "(") ∷ (named_slots_shown core [] 1 count.0 ret.1 ++ word (codes ")") ∷ []))))))

unfoldable pub member_shown : CoreShown → List ℕ → List Piece
member_shown core b =
    let first = byte_or b in
    if first.0 == 0x06 then (slot_shown core first.1).0 ++ (word (codes " ") ∷ method_name ∷ []) else declared_shown core b
