-- The value of a cell of a row, independent of its encoding (ECMA-335 II.22).
use Rattle.std.specs.Prelude.{ℕ, List, [], Option, None}
use Rattle.table_schema.specs.declared.token.Token.{Token}
use Rattle.sig_grammar.specs.Syntax.{Body}

-- a number; the bytes of a text; bytes; a GUID, or null; a row of a table, or null; the first row of an owner's run in
-- the table of its members; or a signature
pub data Cell : Type 0 where
  Number : ℕ → Cell
  Text : List ℕ → Cell
  Bytes : List ℕ → Cell
  Guid : Option (List ℕ) → Cell
  Ref : Option Token → Cell
  Start : ℕ → Cell
  Sig : Body → Cell

-- ---- the value of a cell of one kind; 0, empty or null for a cell of another kind

-- the number
abbrev pub number_in : Cell → ℕ
number_in (Number number) = number
number_in _ = 0

-- the bytes of the text
abbrev pub text_in : Cell → List ℕ
text_in (Text text) = text
text_in _ = []

-- the bytes
abbrev pub bytes_in : Cell → List ℕ
bytes_in (Bytes bytes) = bytes
bytes_in _ = []

-- the GUID, or null
abbrev pub guid_in : Cell → Option (List ℕ)
guid_in (Guid guid) = guid
guid_in _ = None

-- the reference, or null
abbrev pub reference_in : Cell → Option Token
reference_in (Ref reference) = reference
reference_in _ = None

-- the first row of a run
abbrev pub start_in : Cell → ℕ
start_in (Start row) = row
start_in _ = 0
