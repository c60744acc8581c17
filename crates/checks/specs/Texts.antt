-- What is remembered of the texts of a strings heap.
use Rattle.std.specs.Prelude.{◌≡◌, ◌≢◌, ℕ, ◌+◌, ◌*◌, ◌/◌, ◌≤◌, List, length, slice_index, IsUtf8}
use Rattle.heap_entries.specs.Entries.{IsEnded, IsText}
use Rattle.checks.specs.declared.texts.Texts.TheInside.{Inside}

-- a text is at the start, and no NUL ends it before an end
pub record Reaches (heap : List ℕ) (start end : ℕ) : Type 0 where
  pub text : List ℕ
  pub ended : IsEnded heap start text
  pub utf8 : IsUtf8 text
  pub long : end ≤ start + length text

-- each start that is not 0 is in the part of its slot or after it, and its text reaches the end of that part
pub record AreStarts (heap : List ℕ) (part : ℕ) (starts : List ℕ) : Type 0 where
  pub low : (slot : ℕ) → slice_index starts slot ≢ 0 → slot * part ≤ slice_index starts slot
  pub long : (slot : ℕ) → slice_index starts slot ≢ 0 → Reaches heap (slice_index starts slot) ((slot + 1) * part)

abbrev pub heap_of : Inside → List ℕ
heap_of texts = texts.heap.now

-- each index up to an end has a text
pub record HasTextsTo (heap : List ℕ) (end : ℕ) : Type 0 where
  pub each : (index : ℕ) → index ≤ end → (text : List ℕ) × IsText heap index text

-- there are 1024 parts at most
pub record AreKnown (texts : Inside) : Type 0 where
  pub sure : HasTextsTo texts.heap.now texts.sure_end
  pub part : texts.part ≡ length texts.heap.now / 1024 + 1
  pub starts : AreStarts texts.heap.now texts.part texts.starts
