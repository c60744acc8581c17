-- Readers as functions on lists: each returns the first value and the remaining bytes. Private functions compute them.
-- It is proved that they read what the grammar encodes, and nothing else.
use Rattle.std.specs.Prelude.{ℕ, ℤ, zero, suc, ◌/◌, ◌%◌, nat_lt, ◌==◌, ◌&&◌, ◌||◌, Bool, true, false, if◌then◌else◌, Option, Some, None, option_map, option_and_then, slice_get, drop, List, [], ◌∷◌, length}
use Rattle.packed.specs.Prefix as head
use Rattle.table_schema.specs.declared.token.Token.{Token}
use Rattle.table_schema.specs.declared.table.TableId.{TableId}
use Rattle.table_schema.specs.declared.coded.Coded.TheVariants.{TypeDefOrRef}
use Rattle.table_schema.specs.CodedIndexes.{tables_of}
use Rattle.sig_grammar.specs.declared.element.Element.{Element}
use Rattle.sig_grammar.specs.declared.element.Element.TheVariants.{Boolean, Char, I1, U1, I2, U2, I4, U4, I8, U8, R4, R8, String, I, U, Object}
use Rattle.sig_grammar.specs.declared.types.Modifier.{Modifier}
use Rattle.sig_grammar.specs.declared.body.Prefix.{Prefix}
use Rattle.sig_grammar.specs.declared.body.Prefix.TheVariants.{Mod, Pinned}
use Rattle.sig_grammar.specs.ElementTypes.{VOID, PTR, BYREF, VALUETYPE, CLASS, VAR, ARRAY, GENERICINST, TYPEDBYREF, FNPTR, SZARRAY, MVAR, CMOD_REQD, CMOD_OPT, SENTINEL, PINNED}
use Rattle.sig_grammar.specs.Syntax.{Core, simple, void_pointer, pointer, vector, array, class, value, var, mvar, instance, function, Typed, typed, Content, typed_ref, plain, by_ref, Slot, slot, Ret, some_ret, void_ret, Method, method, ArrayShape}
use Rattle.sig_grammar.specs.Views.{types_from, slots_from}

abbrev pub Reader : Type 0 → Type 0
Reader A = List ℕ → Option (A × List ℕ)

-- the same reader, with a function applied to its value
abbrev pub change : {A B : Type 0} → (A → B) → Reader A → Reader B
change f r b = option_map (λ x. (f x.0, x.1)) (r b)

-- the value at the start and the remaining bytes, from the value and the number of its bytes
abbrev pub split : {A : Type 0} → List ℕ → Option (A × ℕ) → Option (A × List ℕ)
split b read = option_map (λ x. (x.0, drop x.1 b)) read

unfoldable pub number_at : Reader ℕ
number_at b = split b (head.unsigned_at b)

unfoldable pub signed_at : Reader ℤ
signed_at b = split b (head.signed_at b)

abbrev pub token_in : ℕ → Option TableId → Option Token
token_in n listed = option_map (λ table. record { table = table; row = n / 4 }) listed

-- the token of a type index
unfoldable pub token_of : ℕ → Option Token
token_of n = option_and_then (token_in n) (slice_get (tables_of TypeDefOrRef) (n % 4))

unfoldable pub index_at : Reader Token
index_at b = option_and_then (λ x. option_map (λ t. (t, x.1)) (token_of x.0)) (number_at b)

-- n values, one after another
unfoldable pub many_at : {A : Type 0} → Reader A → ℕ → Reader (List A)
many_at r zero b = Some ([], b)
many_at r (suc n) b = option_and_then (λ x. option_map (λ y. (x.0 ∷ y.0, y.1)) (many_at r n x.1)) (r b)

-- a count, then that number of values
unfoldable pub counted_at : {A : Type 0} → Reader A → Reader (List A)
counted_at r b = option_and_then (λ x. many_at r x.0 x.1) (number_at b)

-- a reader of an item that may be absent at the start
abbrev pub Optional : Type 0 → Type 0
Optional A = List ℕ → Option (Option A × List ℕ)

abbrev pub items_then : {A : Type 0} → Reader (List A) → Option A × List ℕ → Option (List A × List ℕ)
items_then more (None, b) = Some ([], b)
items_then more (Some x, b) = option_map (λ y. (x ∷ y.0, y.1)) (more b)

-- the items at the start, at most the given number
unfoldable pub leading_within : {A : Type 0} → Optional A → ℕ → Reader (List A)
leading_within r zero b = Some ([], b)
leading_within r (suc k) b = option_and_then (items_then (leading_within r k)) (r b)

-- all items at the start
unfoldable pub leading_at : {A : Type 0} → Optional A → Reader (List A)
leading_at r b = leading_within r (length b) b

abbrev pub modifier_after : Bool → Optional Modifier
modifier_after required b = option_map (λ x. (Some (record { required = required; of = x.0 }), x.1)) (index_at b)

unfoldable pub modifier_at : Optional Modifier
modifier_at [] = Some (None, [])
modifier_at (c ∷ b) = if c == CMOD_REQD then modifier_after true b else (if c == CMOD_OPT then modifier_after false b else Some (None, c ∷ b))

abbrev pub prefix_of : Option Modifier × List ℕ → Option Prefix × List ℕ
prefix_of (None, b) = (None, b)
prefix_of (Some m, b) = (Some (Mod m), b)

unfoldable pub prefix_at : Optional Prefix
prefix_at [] = Some (None, [])
prefix_at (c ∷ b) = if c == PINNED then Some (Some Pinned, b) else option_map prefix_of (modifier_at (c ∷ b))

unfoldable pub modifiers_at : Reader (List Modifier)
modifiers_at = leading_at modifier_at

unfoldable pub prefixes_at : Reader (List Prefix)
prefixes_at = leading_at prefix_at

-- two values, one after the other
unfoldable pub both : {A B : Type 0} → Reader A → Reader B → Reader (A × B)
both r q b = option_and_then (λ x. option_map (λ y. ((x.0, y.0), y.1)) (q x.1)) (r b)

-- this value if the codes are equal, else the other result
abbrev pub pick : {A : Type 0} → ℕ → ℕ → A → Option A → Option A
pick c n x other = if c == n then Some x else other

unfoldable pub element_of : ℕ → Option Element
element_of c =
    pick c 0x02 Boolean (pick c 0x03 Char (pick c 0x04 I1
    (pick c 0x05 U1 (pick c 0x06 I2 (pick c 0x07 U2 (pick c 0x08 I4
    (pick c 0x09 U4 (pick c 0x0A I8 (pick c 0x0B U8 (pick c 0x0C R4
    (pick c 0x0D R8 (pick c 0x0E String (pick c 0x18 I (pick c 0x19 U
    (pick c 0x1C Object None)))))))))))))))

-- this reader if the codes are equal, else the other reader
abbrev pub choose : {A : Type 0} → ℕ → ℕ → Reader A → Reader A → Reader A
choose c n r other b = if c == n then r b else other b

abbrev pub fail : {A : Type 0} → Reader A
fail b = None

-- the first byte is the given one
abbrev pub head_is : ℕ → List ℕ → Bool
head_is n [] = false
head_is n (c ∷ b) = c == n

-- the value, if the first byte is the code
abbrev pub code_at : {A : Type 0} → ℕ → A → Reader A
code_at n x [] = None
code_at n x (c ∷ b) = if c == n then Some (x, b) else None

-- the value after the code, if the first byte is the code, else the other reader
abbrev pub behind : {A : Type 0} → ℕ → Reader A → Reader A → Reader A
behind n r other [] = None
behind n r other (c ∷ b) = if c == n then r b else other (c ∷ b)

unfoldable pub typed_at : Reader Core → Reader Typed
typed_at nested = change (λ x. typed x.0 x.1) (both modifiers_at nested)

-- VOID, or a core
unfoldable pub void_or : {A : Type 0} → Reader A → Reader (Option A)
void_or r = behind VOID (λ b. Some (None, b)) (change (λ x. Some x) r)

abbrev pub pointer_to : List Modifier × Option Core → Core
pointer_to (modifiers, None) = void_pointer modifiers
pointer_to (modifiers, Some to) = pointer modifiers to

unfoldable pub target_at : Reader Core → Reader (List Modifier × Option Core)
target_at nested = both modifiers_at (void_or nested)

-- VALUETYPE or CLASS
unfoldable pub named_at : Reader Bool
named_at = behind VALUETYPE (λ b. Some (true, b)) (code_at CLASS false)

abbrev pub instance_from : (Bool × Token) × List Typed → Core
instance_from x = instance x.0.0 x.0.1 (types_from x.1)

unfoldable pub instance_at : Reader Core → Reader ((Bool × Token) × List Typed)
instance_at nested = both (both named_at index_at) (counted_at (typed_at nested))

-- a count, at most the limit, then that number of values
unfoldable pub counted_within : {A : Type 0} → Reader A → ℕ → Reader (List A)
counted_within r most b =
    option_and_then (λ x. if nat_lt most x.0 then None else many_at r x.0 x.1) (number_at b)

abbrev pub shape_with : ℕ → List ℕ × List ℤ → ArrayShape
shape_with rank x = record { rank = rank; sizes = x.0; low = x.1 }

abbrev pub shape_from : ℕ → Reader ArrayShape
shape_from rank b =
    if rank == 0 then None else change (shape_with rank) (both (counted_within number_at rank) (counted_within signed_at rank)) b

unfoldable pub shape_at : Reader ArrayShape
shape_at b = option_and_then (λ x. shape_from x.0 x.1) (number_at b)

abbrev pub array_from : Typed × ArrayShape → Core
array_from x = array x.0 x.1

unfoldable pub array_at : Reader Core → Reader (Typed × ArrayShape)
array_at nested = both (typed_at nested) shape_at

unfoldable pub content_at : Reader Core → Reader Content
content_at nested =
    behind TYPEDBYREF (λ b. Some (typed_ref, b)) (behind BYREF (change (λ x. by_ref x.0 x.1) (both modifiers_at nested)) (change plain nested))

unfoldable pub slot_at : Reader Core → Reader Slot
slot_at nested = change (λ x. slot x.0 x.1) (both modifiers_at (content_at nested))

abbrev pub ret_from : List Modifier × Option Content → Ret
ret_from (modifiers, None) = void_ret modifiers
ret_from (modifiers, Some p) = some_ret (slot modifiers p)

unfoldable pub ret_at : Reader Core → Reader Ret
ret_at nested = change ret_from (both modifiers_at (void_or (content_at nested)))

-- n parameters, and the number of those before SENTINEL, if it is allowed and present
unfoldable pub params_at : Reader Core → Bool → ℕ → Reader (List Slot × Option ℕ)
params_at nested allowed zero b = Some (([], None), b)
params_at nested allowed (suc n) b =
    if allowed && head_is SENTINEL b
    then option_and_then (λ x. option_map (λ y. ((x.0 ∷ y.0.0, Some 0), y.1)) (params_at nested false n x.1)) (slot_at nested (drop 1 b))
    else option_and_then (λ x. option_map (λ y. ((x.0 ∷ y.0.0, option_map suc y.0.1), y.1)) (params_at nested allowed n x.1)) (slot_at nested b)

-- the number of generic parameters, if the method is generic
unfoldable pub generic_at : Bool → Reader (Option ℕ)
generic_at true = change (λ n. Some n) number_at
generic_at false = λ b. Some (None, b)

abbrev pub takes_sentinel : ℕ → Bool
takes_sentinel kind = kind == 1 || kind == 5

abbrev pub is_method_code : ℕ → Bool
is_method_code c = nat_lt c 0x80 && (nat_lt (c % 16) 6 || c % 16 == 9)

-- the part of a method after its first byte
unfoldable pub method_from : Bool → Reader Core → ℕ → Reader Method
method_from own nested c b =
    option_and_then (λ g. option_and_then (λ n. option_and_then (λ r. option_map
    (λ p. (method (c % 16) (c / 32 % 2 == 1) (c / 64 % 2 == 1) g.0 r.0 (slots_from p.0.0) p.0.1, p.1))
    (params_at nested (own && takes_sentinel (c % 16)) n.0 r.1)) (ret_at nested n.1))
    (number_at g.1)) (generic_at (c / 16 % 2 == 1) b)

-- a method; the flag says whether it may have a SENTINEL of its own
unfoldable pub method_at : Bool → Reader Core → Reader Method
method_at own nested [] = None
method_at own nested (c ∷ b) = if is_method_code c then method_from own nested c b else None

-- the reader at a depth; at depth 0 it reads nothing
abbrev pub deep : {A : Type 0} → ℕ → Reader A → Reader A
deep zero r b = None
deep (suc d) r b = r b

unfoldable pub core_by : ℕ → Reader Core → ℕ → Reader Core
core_by d nested c =
    choose c PTR (deep d (change pointer_to (target_at nested)))
    (choose c VALUETYPE (change value index_at)
    (choose c CLASS (change class index_at)
    (choose c VAR (change var number_at)
    (choose c ARRAY (change array_from (array_at nested))
    (choose c GENERICINST (change instance_from (instance_at nested))
    (choose c FNPTR (deep d (change function (method_at true nested)))
    (choose c SZARRAY (change vector (typed_at nested))
    (choose c MVAR (change mvar number_at) fail))))))))

abbrev pub core_or : ℕ → Reader Core → ℕ → Option Element → Reader Core
core_or d nested c (Some e) b = Some (simple e, b)
core_or d nested c None b = core_by d nested c b

-- a core of at most the given depth
unfoldable pub core_at : ℕ → Reader Core
core_at zero b = None
core_at (suc d) [] = None
core_at (suc d) (c ∷ b) = core_or d (core_at d) c (element_of c) b

-- the bytes start with a modifier
abbrev pub starts_modifier : List ℕ → Bool
starts_modifier [] = false
starts_modifier (c ∷ b) = c == CMOD_REQD || c == CMOD_OPT

-- the bytes start with a modifier or PINNED
abbrev pub starts_prefix : List ℕ → Bool
starts_prefix [] = false
starts_prefix (c ∷ b) = c == PINNED || (c == CMOD_REQD || c == CMOD_OPT)
