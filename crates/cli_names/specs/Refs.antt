-- The types of other modules that an argument means, and what the assembly refers to of them (ECMA-335 II.22.25 and II.22.38).
use Rattle.std.specs.Prelude.{◌≡◌, ◌↔◌, ◌==◌, ℕ, if◌then◌else◌, List, [], ◌∷◌, map, option_and_then, option_map, Option, None, Some}
use Rattle.std.specs.List.{slice_split}
use Rattle.table_schema.specs.declared.table.TableId.{TableId}
use Rattle.table_schema.specs.declared.table.TableId.TheVariants.{MemberRef, TypeRef, TypeSpec}
use Rattle.table_schema.specs.declared.token.Token.{Token}
use Rattle.sig_grammar.specs.ElementTypes.{GENERICINST}
use Rattle.sig_grammar.specs.Reading.{index_at}
use Rattle.sig_grammar.specs.Syntax.{Body, instance, plain, slot, some_ret, type_spec}
use Rattle.metadata.specs.Cell.{Cell, Sig, reference_in}
use Rattle.metadata.specs.Lookups.{HasRow}
use Rattle.metadata.specs.Metadata.{Metadata, cell_in}
use Rattle.cli_names.specs.declared.refs.Wanted.{Wanted}
use Rattle.cli_names.specs.declared.refs.Wanted.TheVariants as wanted
use Rattle.cli_names.specs.declared.subject.Subject.{Subject}
use Rattle.cli_names.specs.declared.subject.Subject.TheVariants.{Path, Row}
use Rattle.cli_names.specs.Paths.{HasAllParts, is_slash}

-- a TypeRef is meant: it has the path, or it is the row with this token
abbrev pub IsMeantRef : Metadata → Subject → ℕ → Type 0
IsMeantRef model (Path path) row = HasAllParts model TypeRef (slice_split is_slash path.now) row
IsMeantRef model (Row token) row = token ≡ record { table = TypeRef; row = row }

-- the same of a path that was taken apart; for private clauses
abbrev pub IsWantedRef : Metadata → Wanted → ℕ → Type 0
IsWantedRef model (wanted.Path parts) row = HasAllParts model TypeRef (map (λ part. part.now) parts.items) row
IsWantedRef model (wanted.Row token) row = token ≡ record { table = TypeRef; row = row }

abbrev pub Wants : Metadata → Subject → Wanted → Type 0
Wants model subject wanted = (row : ℕ) → IsWantedRef model wanted row ↔ IsMeantRef model subject row

-- the generic type of which a type is an instance (II.23.2.14)
abbrev pub generic_of : Body → Option Token
generic_of (type_spec (some_ret (slot [] (plain (instance is_value of args))))) = Some of
generic_of _ = None

abbrev pub generic_in : Cell → Option Token
generic_in (Sig signature) = generic_of signature
generic_in _ = None

-- the same in the bytes of a signature: GENERICINST, CLASS or VALUETYPE, and a type index (II.23.2.8, II.23.2.12); for private clauses
abbrev pub generic_at : List ℕ → Option Token
generic_at (head ∷ named ∷ tail) = if head == GENERICINST then option_map (λ read. read.0) (index_at tail) else None
generic_at _ = None

-- the type to which the members of a parent belong: the parent itself; of an instance of a generic type that type (II.22.25)
abbrev pub type_of_parent : Metadata → TableId → ℕ → Option Token
type_of_parent model TypeSpec row = generic_in (cell_in model TypeSpec row 0)
type_of_parent model table row = Some (record { table = table; row = row })

-- the type to which a reference belongs: to itself, or of a member to that of its parent
abbrev pub type_of_ref : Metadata → TableId → ℕ → Option Token
type_of_ref model MemberRef row = option_and_then (λ parent. type_of_parent model parent.table parent.row) (reference_in (cell_in model MemberRef row 0))
type_of_ref model table row = Some (record { table = table; row = row })

-- a reference belongs to a TypeRef with a property
abbrev pub BelongsTo : Metadata → (ℕ → Type 0) → Token → Type 0
BelongsTo model P of = (ref : ℕ) × (type_of_ref model of.table of.row ≡ Some (record { table = TypeRef; row = ref })) × HasRow model TypeRef ref × P ref

-- some TypeRef has it
abbrev pub HasSome : Metadata → (ℕ → Type 0) → Type 0
HasSome model P = (ref : ℕ) × HasRow model TypeRef ref × P ref
