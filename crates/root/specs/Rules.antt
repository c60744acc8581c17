-- The rules for a metadata root, in order (ECMA-335 II.24.2.1 and II.24.2.2). A rule applies only if all rules
-- before it hold. Each rule has a code, and the offset that is reported if it is broken.
use Rattle.std.specs.Prelude.{◌≡◌, ℕ, ◌+◌, ◌%◌, ◌≤◌, List, [], ◌∷◌, ◌++◌, length, drop, IsSome}
use Rattle.packed.specs.declared.code.FaultCode.TheVariants.{TooLong, RootSignature, Version, StreamCount, StreamHeader, StreamRange, DuplicateStream, Uncompressed, NoTables}
use Rattle.packed.specs.declared.fault.Fault.{Fault}
use Rattle.packed.specs.Limit.{byte_limit}
use Rattle.packed.specs.Rule.{Rule, rule, rules_from}
use Rattle.packed.specs.Offsets.{part}
use Rattle.root.specs.declared.kind.Kind.TheVariants.{Tables}
use Rattle.root.specs.Fields.{version_length, header_count, header_offset, header_number, headers_before}
use Rattle.root.specs.Root.{signature, IsVersion, IsHeader, EndsWithin, IsNew, IsCompressed}
use Rattle.root.specs.Streams.{Header, named, stream_name}

-- there is room for the fields up to Length, and the signature comes first
abbrev pub HasSignature : List ℕ → Type 0
HasSignature root = (16 ≤ length root) × (part root 0 4 ≡ signature)

-- Length is a multiple of four, and the Length bytes after it are a version, a NUL and any bytes (II.24.2.1)
pub record HasVersion (root : List ℕ) : Type 0 where
  pub version : List ℕ
  pub padding : List ℕ
  pub padded : version_length root % 4 ≡ 0
  pub within : 16 + version_length root ≤ length root
  pub whole : part root 16 (version_length root) ≡ version ++ 0 ∷ padding
  pub is : IsVersion version

-- there is a stream header at an offset (II.24.2.2)
pub record HasHeader (root : List ℕ) (place : ℕ) : Type 0 where
  pub header : Header
  pub bytes : List ℕ
  pub tail : List ℕ
  pub whole : drop place root ≡ bytes ++ tail
  pub is : IsHeader bytes header

-- the rules for the fields before the stream headers (II.24.2.1)
abbrev pub rules_of_root_header : List ℕ → List (Rule Fault)
rules_of_root_header root =
    rule (length root ≤ byte_limit) TooLong 0
    ∷ rule (HasSignature root) RootSignature 0
    ∷ rule (HasVersion root) Version 12
    ∷ rule (20 + version_length root ≤ length root) StreamCount (16 + version_length root)
    ∷ []

-- the rules for stream header i, counted from 0 (II.24.2.2)
abbrev pub rules_of_header : List ℕ → ℕ → List (Rule Fault)
rules_of_header root i =
    rule (HasHeader root (header_offset root i)) StreamHeader (header_offset root i)
    ∷ rule (EndsWithin (length root) (header_number root i)) StreamRange (header_offset root i)
    ∷ rule (IsNew (headers_before root i) (header_number root i)) DuplicateStream (header_offset root i)
    ∷ rule (IsCompressed (header_number root i)) Uncompressed (header_offset root i)
    ∷ []

-- one of the stream headers must name the tables, `#~` (II.24.2.2)
abbrev pub rules_of_tables : List ℕ → List (Rule Fault)
rules_of_tables root =
    rule (IsSome (named (stream_name Tables) (headers_before root (header_count root)))) NoTables (18 + version_length root) ∷ []

-- the rules for the whole root: its first fields, each stream header, and the tables
abbrev pub rules_of_root : List ℕ → List (Rule Fault)
rules_of_root root = rules_of_root_header root ++ (rules_from (rules_of_header root) 0 (header_count root) ++ rules_of_tables root)
