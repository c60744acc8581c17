-- The remainder of a signature after its parts, without their values. Private functions compute this in the same way.
use Rattle.std.specs.Prelude.{ℕ, zero, suc, ◌==◌, ◌&&◌, ◌/◌, ◌%◌, ◌^◌, nat_lt, Bool, true, false, not, if◌then◌else◌, Option, Some, None, option_map, option_and_then, unwrap_or, is_some, List, [], ◌∷◌, drop}
use Rattle.std.specs.Option.{option_or}
use Rattle.table_schema.specs.declared.token.Token.{Token}
use Rattle.table_schema.specs.declared.table.TableId.TheVariants.{TypeDef}
use Rattle.table_schema.specs.declared.column.SigKind.{SigKind}
use Rattle.table_schema.specs.declared.column.SigKind.TheVariants as column
use Rattle.sig_grammar.specs.ElementTypes.{VOID, PTR, BYREF, VALUETYPE, CLASS, VAR, ARRAY, GENERICINST, TYPEDBYREF, FNPTR, SZARRAY, MVAR, SENTINEL}
use Rattle.sig_grammar.specs.Parts.{Part, part_tokens}
use Rattle.sig_grammar.specs.Grammar.{modifiers_parts, prefixes_parts}
use Rattle.sig_grammar.specs.Encodes.{first_bad}
use Rattle.sig_grammar.specs.Reading.{token_of, number_at, index_at, modifiers_at, prefixes_at, element_of, head_is, is_method_code, takes_sentinel}
use Rattle.std.specs.List.{flat_map}
use Rattle.sig_recogniser.specs.declared.position.Position.{Position}

-- the remaining bytes, and the first type index so far whose row does not exist
abbrev pub Left : Type 0
Left = List ℕ × Option Token

-- the two numbers of a position: the bytes before it, and what is kept of a type index
abbrev pub offset_of : Position → ℕ
offset_of here = here.bits % 2 ^ 32

abbrev pub bad_of : Position → ℕ
bad_of here = here.bits / 2 ^ 32

-- the type index of a number is kept as one more; 0 is none
abbrev pub token_kept : ℕ → Option Token
token_kept zero = None
token_kept (suc number) = Some (unwrap_or (token_of number) (record { table = TypeDef; row = 0 }))

unfoldable pub remains : List ℕ → Position → List ℕ
remains bytes here = drop (offset_of here) bytes

unfoldable pub bad_token : Position → Option Token
bad_token here = token_kept (bad_of here)

abbrev pub left : List ℕ → Position → Left
left bytes here = (remains bytes here, bad_token here)

abbrev pub Skip : Type 0
Skip = Left → Option Left

-- the first such index after some more tokens
abbrev pub noted : List ℕ → Option Token → List Token → Option Token
noted counts bad tokens = option_or bad (first_bad counts tokens)

-- the remainder after a value that was read and has these parts
abbrev pub passed : {A : Type 0} → List ℕ → Option Token → (A → List Part) → Option (A × List ℕ) → Option Left
passed counts bad parts read = option_map (λ x. (x.1, noted counts bad (flat_map part_tokens (parts x.0)))) read

-- ---- numbers and type indexes

abbrev pub with_bad : Option Token → ℕ × List ℕ → ℕ × Left
with_bad bad x = (x.0, (x.1, bad))

-- the number at the start, and the remainder after it
unfoldable pub number_left : Left → Option (ℕ × Left)
number_left here = option_map (with_bad here.1) (number_at here.0)

unfoldable pub skip_number : Skip
skip_number here = option_map (λ x. x.1) (number_left here)

unfoldable pub skip_index : List ℕ → Skip
skip_index counts here = option_map (λ x. (x.1, noted counts here.1 (x.0 ∷ []))) (index_at here.0)

-- the items at the start
unfoldable pub skip_modifiers : List ℕ → Skip
skip_modifiers counts here = passed counts here.1 modifiers_parts (modifiers_at here.0)

unfoldable pub skip_prefixes : List ℕ → Skip
skip_prefixes counts here = passed counts here.1 prefixes_parts (prefixes_at here.0)

-- ---- one after another

-- the given number of values
unfoldable pub skip_many : Skip → ℕ → Skip
skip_many each zero here = Some here
skip_many each (suc n) here = option_and_then (skip_many each n) (each here)

-- a number, and that number of values
unfoldable pub skip_counted : Skip → Skip
skip_counted each here = option_and_then (λ x. skip_many each x.0 x.1) (number_left here)

-- a number, one value, and that number of further values
unfoldable pub skip_headed : Skip → Skip
skip_headed each here = option_and_then (λ x. option_and_then (skip_many each x.0) (each x.1)) (number_left here)

-- a number, at most the limit, and that number of numbers
unfoldable pub skip_bounds : ℕ → Skip
skip_bounds most here =
    option_and_then (λ x. if nat_lt most x.0 then None else skip_many skip_number x.0 x.1) (number_left here)

abbrev pub skip_bounds_twice : ℕ → Skip
skip_bounds_twice rank here = if rank == 0 then None else option_and_then (skip_bounds rank) (skip_bounds rank here)

unfoldable pub skip_shape : Skip
skip_shape here = option_and_then (λ x. skip_bounds_twice x.0 x.1) (number_left here)

-- ---- types

unfoldable pub skip_typed : List ℕ → Skip → Skip
skip_typed counts nested here = option_and_then nested (skip_modifiers counts here)

unfoldable pub skip_void_or : Skip → Skip
skip_void_or other ([], bad) = None
skip_void_or other (c ∷ b, bad) = if c == VOID then Some (b, bad) else other (c ∷ b, bad)

unfoldable pub skip_target : List ℕ → Skip → Skip
skip_target counts nested here = option_and_then (skip_void_or nested) (skip_modifiers counts here)

unfoldable pub skip_named : Skip
skip_named ([], bad) = None
skip_named (c ∷ b, bad) = if c == VALUETYPE then Some (b, bad) else (if c == CLASS then Some (b, bad) else None)

unfoldable pub skip_instance : List ℕ → Skip → Skip
skip_instance counts nested here =
    option_and_then (λ name. option_and_then (skip_counted (skip_typed counts nested)) (skip_index counts name)) (skip_named here)

unfoldable pub skip_content : List ℕ → Skip → Skip
skip_content counts nested ([], bad) = None
skip_content counts nested (c ∷ b, bad) =
    if c == TYPEDBYREF then Some (b, bad) else (if c == BYREF then skip_typed counts nested (b, bad) else nested (c ∷ b, bad))

unfoldable pub skip_slot : List ℕ → Skip → Skip
skip_slot counts nested here = option_and_then (skip_content counts nested) (skip_modifiers counts here)

unfoldable pub skip_ret : List ℕ → Skip → Skip
skip_ret counts nested here = option_and_then (skip_void_or (skip_content counts nested)) (skip_modifiers counts here)

-- ---- methods

-- SENTINEL is at the start and is allowed there
abbrev pub is_marked : Bool → Left → Bool
is_marked allowed here = allowed && head_is SENTINEL here.0

abbrev pub behind_mark : Bool → Left → Left
behind_mark marked here = (if marked then drop 1 here.0 else here.0, here.1)

-- the given number of parameters, with SENTINEL before one of them if it is allowed
unfoldable pub skip_params : List ℕ → Skip → Bool → ℕ → Skip
skip_params counts nested allowed zero here = Some here
skip_params counts nested allowed (suc n) here =
    option_and_then (skip_params counts nested (allowed && not (is_marked allowed here)) n) (skip_slot counts nested (behind_mark (is_marked allowed here) here))

abbrev pub skip_generic : Bool → Skip
skip_generic true here = skip_number here
skip_generic false here = Some here

-- the part of a method after its first byte and its number of generic parameters
unfoldable pub skip_call : List ℕ → Skip → Bool → Skip
skip_call counts nested allowed here =
    option_and_then (λ x. option_and_then (skip_params counts nested allowed x.0) (skip_ret counts nested x.1)) (number_left here)

unfoldable pub skip_method : List ℕ → Bool → Skip → Skip
skip_method counts own nested ([], bad) = None
skip_method counts own nested (c ∷ b, bad) =
    if is_method_code c then option_and_then (skip_call counts nested (own && takes_sentinel (c % 16))) (skip_generic (c / 16 % 2 == 1) (b, bad)) else None

-- ---- cores

abbrev pub skip_deep : ℕ → Skip → Skip
skip_deep zero inner here = None
skip_deep (suc d) inner here = inner here

-- a core after its first byte; the types in it have at most the given depth
unfoldable pub skip_by : List ℕ → ℕ → Skip → ℕ → Skip
skip_by counts d nested c here =
    if c == PTR then skip_deep d (skip_target counts nested) here
    else (if c == VALUETYPE then skip_index counts here
    else (if c == CLASS then skip_index counts here
    else (if c == VAR then skip_number here
    else (if c == ARRAY then option_and_then skip_shape (skip_typed counts nested here)
    else (if c == GENERICINST then skip_instance counts nested here
    else (if c == FNPTR then skip_deep d (skip_method counts true nested) here
    else (if c == SZARRAY then skip_typed counts nested here
    else (if c == MVAR then skip_number here
    else None))))))))

-- a core of at most the given depth
unfoldable pub skip_core : List ℕ → ℕ → Skip
skip_core counts zero here = None
skip_core counts (suc d) ([], bad) = None
skip_core counts (suc d) (c ∷ b, bad) = if is_some (element_of c) then Some (b, bad) else skip_by counts d (skip_core counts d) c (b, bad)

-- ---- whole signatures

-- the remainder after that byte, if it is the first, else the other result
abbrev pub skip_behind : ℕ → Skip → Skip → Skip
skip_behind n inner other ([], bad) = None
skip_behind n inner other (c ∷ b, bad) = if c == n then inner (b, bad) else other (c ∷ b, bad)

abbrev pub skip_nothing : Skip
skip_nothing here = None

unfoldable pub skip_local : List ℕ → Skip → Skip
skip_local counts nested here = option_and_then (skip_content counts nested) (skip_prefixes counts here)

unfoldable pub skip_body : List ℕ → SigKind → Skip → Skip
skip_body counts column.Field nested here = skip_behind 0x06 (skip_slot counts nested) skip_nothing here
skip_body counts column.MethodDef nested here = skip_method counts false nested here
skip_body counts column.MemberRef nested here = skip_behind 0x06 (skip_slot counts nested) (skip_method counts true nested) here
skip_body counts column.StandAlone nested here =
    skip_behind 0x07 (skip_counted (skip_local counts nested)) (skip_behind 0x06 (skip_slot counts nested) (skip_method counts true nested)) here
skip_body counts column.Property nested here =
    skip_behind 0x28 (skip_headed (skip_slot counts nested)) (skip_behind 0x08 (skip_headed (skip_slot counts nested)) skip_nothing) here
skip_body counts column.TypeSpec nested here = skip_ret counts nested here
skip_body counts column.Instance nested here = skip_behind 0x0A (skip_counted (skip_typed counts nested)) skip_nothing here
