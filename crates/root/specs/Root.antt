-- The metadata root and its stream headers (ECMA-335 II.24.2.1 and II.24.2.2): the relation between
-- the bytes of a root, its version and its list of stream headers.
use Rattle.std.specs.Prelude.{◌≡◌, ◌≢◌, ℕ, ◌+◌, ◌%◌, ◌<◌, ◌≤◌, List, [], ◌∷◌, ◌++◌, length, codes, None, IsSome}
use Rattle.std.specs.List.{All}
use Rattle.std.specs.Str.{IsAscii, IsUtf8}
use Rattle.packed.specs.Number.{IsNumber}
use Rattle.root.specs.declared.kind.Kind.{Kind}
use Rattle.root.specs.declared.kind.Kind.TheVariants.{Tables}
use Rattle.root.specs.Streams.{Header, named, stream_name}

-- the signature `BSJB` (II.24.2.1)
abbrev pub signature : List ℕ
signature = 0x42 ∷ 0x53 ∷ 0x4A ∷ 0x42 ∷ []

-- a version is UTF-8, has at most 254 bytes, and contains no NUL (II.24.2.1)
pub record IsVersion (version : List ℕ) : Type 0 where
  pub short : length version ≤ 254
  pub text : IsUtf8 version
  pub no_nul : All (λ byte. byte ≢ 0) version

-- a stream's name is ASCII, has at most 32 characters, and contains no NUL (II.24.2.2)
pub record IsStreamName (name : List ℕ) : Type 0 where
  pub short : length name ≤ 32
  pub ascii : IsAscii name
  pub no_nul : All (λ byte. byte ≢ 0) name

-- `padding` bytes, at most three, pad `count` bytes to a multiple of four
pub record IsPadded (count padding : ℕ) : Type 0 where
  pub fewer : padding < 4
  pub multiple : (count + padding) % 4 ≡ 0

-- the bytes encode a stream header: offset, size, and the name with its NUL and padding (II.24.2.2)
pub record IsHeader (bytes : List ℕ) (header : Header) : Type 0 where
  pub offset_bytes : List ℕ
  pub size_bytes : List ℕ
  pub padding : List ℕ
  pub whole : bytes ≡ offset_bytes ++ size_bytes ++ header.name ++ 0 ∷ padding
  pub offset : IsNumber 4 offset_bytes header.offset
  pub size : IsNumber 4 size_bytes header.size
  pub name : IsStreamName header.name
  pub padded : IsPadded (length header.name + 1) (length padding)

-- the bytes are these headers, one after another, the first at offset `place` of the root
abbrev pub AreHeaders : ℕ → List ℕ → List Header → Type 0
AreHeaders place bytes [] = bytes ≡ []
AreHeaders place bytes (header ∷ headers) =
    (root_header : List ℕ) × (tail : List ℕ) × (bytes ≡ root_header ++ tail) × (header.place ≡ place) × IsHeader root_header header
    × AreHeaders (place + length root_header) tail headers

-- if the standard names the stream, it ends within the root of `size` bytes (II.24.2.2)
abbrev pub EndsWithin : ℕ → Header → Type 0
EndsWithin size header = (kind : Kind) → header.name ≡ stream_name kind → header.offset + header.size ≤ size

-- no earlier header names the same stream of the standard (II.24.2.2)
abbrev pub IsNew : List Header → Header → Type 0
IsNew earlier header = (kind : Kind) → header.name ≡ stream_name kind → named (stream_name kind) earlier ≡ None

-- the stream is not `#-`, which holds tables in uncompressed form
abbrev pub IsCompressed : Header → Type 0
IsCompressed header = header.name ≢ codes "#-"

-- each header follows the rules, given the root's size and the headers before it
abbrev pub AllMeet : ℕ → List Header → List Header → Type 0
AllMeet size earlier [] = Unit {0}
AllMeet size earlier (header ∷ headers) =
    EndsWithin size header × IsNew earlier header × IsCompressed header × AllMeet size (earlier ++ header ∷ []) headers

-- The bytes are a root with this version and these stream headers (II.24.2.1): the signature; eight bytes of version
-- numbers and a reserved field; Length in four bytes; the version, a NUL and any bytes, together a multiple of four;
-- Flags in two bytes; Streams, the number of headers, in two; the headers; and the remaining bytes of the root.
pub record IsRoot (root version : List ℕ) (headers : List Header) : Type 0 where
  pub ignored : List ℕ
  pub length_bytes : List ℕ
  pub padding : List ℕ
  pub flags : List ℕ
  pub count_bytes : List ℕ
  pub directory : List ℕ
  pub tail : List ℕ
  pub whole : root ≡ signature ++ ignored ++ length_bytes ++ (version ++ 0 ∷ padding) ++ flags ++ count_bytes ++ directory ++ tail
  pub ignored_long : length ignored ≡ 8
  pub version_long : IsNumber 4 length_bytes (length (version ++ 0 ∷ padding))
  pub version_padded : length (version ++ 0 ∷ padding) % 4 ≡ 0
  pub version_is : IsVersion version
  pub flags_long : length flags ≡ 2
  pub count : IsNumber 2 count_bytes (length headers)
  pub headers_are : AreHeaders (20 + length (version ++ 0 ∷ padding)) directory headers
  pub headers_meet : AllMeet (length root) [] headers
  pub tables : IsSome (named (stream_name Tables) headers)
