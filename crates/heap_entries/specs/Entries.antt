-- What an index into a heap refers to (ECMA-335 II.24.2.3 to II.24.2.5), defined by splitting the bytes of the heap.
use Rattle.std.specs.Prelude.{◌≡◌, ◌≢◌, ℕ, ◌-◌, ◌*◌, ◌<◌, List, [], ◌∷◌, ◌++◌, length, flat_map, All, IsUtf8, ◌⊎◌, Option, Some, None}
use Rattle.packed.specs.Packed.{IsPacked}
use Rattle.heap_entries.specs.Units.{unit_bytes}

-- no byte is 0
abbrev pub HasNoNul : List ℕ → Type 0
HasNoNul bytes = All (λ byte. byte ≢ 0) bytes

-- the bytes are at the index, contain no NUL, and a NUL follows them
pub record IsEnded (heap : List ℕ) (index : ℕ) (bytes : List ℕ) : Type 0 where
  pub before : List ℕ
  pub after : List ℕ
  pub whole : heap ≡ before ++ (bytes ++ 0 ∷ after)
  pub at : length before ≡ index
  pub no_nul : HasNoNul bytes

-- II.24.2.3: the text at an index into `#Strings`. At index 0 it is empty, even without a heap. Otherwise it is the
-- bytes up to the next NUL, which must be UTF-8.
abbrev pub IsText : List ℕ → ℕ → List ℕ → Type 0
IsText heap index text = ((index ≡ 0) × (text ≡ [])) ⊎ ((0 < index) × IsEnded heap index text × IsUtf8 text)

-- at the index are the packed length, in any of its forms, and then the bytes
pub record IsCounted (heap : List ℕ) (index : ℕ) (bytes : List ℕ) : Type 0 where
  pub before : List ℕ
  pub count : List ℕ
  pub after : List ℕ
  pub whole : heap ≡ before ++ (count ++ (bytes ++ after))
  pub at : length before ≡ index
  pub counts : IsPacked (length bytes) count

-- II.24.2.4: the blob at an index into `#Blob` or `#US`. At index 0 it is empty, even without a heap. Otherwise it is
-- the bytes after their packed length.
abbrev pub IsBlob : List ℕ → ℕ → List ℕ → Type 0
IsBlob heap index blob = ((index ≡ 0) × (blob ≡ [])) ⊎ ((0 < index) × IsCounted heap index blob)

-- a user string: its UTF-16 units, and its last byte; the empty blob has no last byte
pub record UserText : Type 0 where
  pub units : List ℕ
  pub flag : Option ℕ

-- the blob encodes the user string: no bytes, or two bytes for each unit and then the last byte
abbrev pub EncodesUserText : List ℕ → UserText → Type 0
EncodesUserText blob string =
    ((blob ≡ []) × (string ≡ record { units = []; flag = None }))
    ⊎ ((units : List ℕ) × (last : ℕ) × (blob ≡ flat_map unit_bytes units ++ last ∷ []) × (string ≡ record { units = units; flag = Some last }))

-- II.24.2.4: the user string at an index into `#US`
pub record IsUserString (heap : List ℕ) (index : ℕ) (string : UserText) : Type 0 where
  pub blob : List ℕ
  pub stands : IsBlob heap index blob
  pub encodes : EncodesUserText blob string

-- the sixteen bytes of an entry; entries are numbered from 1
pub record IsGuidEntry (heap : List ℕ) (number : ℕ) (guid : List ℕ) : Type 0 where
  pub before : List ℕ
  pub after : List ℕ
  pub whole : heap ≡ before ++ (guid ++ after)
  pub at : length before ≡ 16 * (number - 1)
  pub long : length guid ≡ 16

-- II.24.2.5: the GUID at an index into `#GUID`: null at index 0, else the entry with this number, whatever its bytes
abbrev pub IsGuid : List ℕ → ℕ → Option (List ℕ) → Type 0
IsGuid heap index None = index ≡ 0
IsGuid heap index (Some guid) = (0 < index) × IsGuidEntry heap index guid
