-- The texts that cells use, in order of use (ECMA-335 II.24.2.3).
use Rattle.std.specs.Prelude.{◌≡◌, ℕ, List, Option}
use Rattle.heap_pools.specs.HeapTexts.{texts_at}
use Rattle.heap_pools.specs.Uses.{bytes_of}
use Rattle.metadata.specs.Metadata.{Metadata}
use Rattle.metadata_source.specs.SharedBlobs.{CellId}
use Rattle.metadata_source.specs.HeapCells.{AreTextsIn}
use Rattle.cell_numbering.specs.declared.text_uses.TextUses.{TextUses}
use Rattle.cell_numbering.specs.declared.text_uses.TextUses.TheVariants.{Indexed, Read}

-- the texts at the indexes of the heap, or the texts themselves
abbrev pub used_texts : TextUses → List (List ℕ)
used_texts (Indexed heap indexes) = texts_at heap.now indexes.items
used_texts (Read texts) = bytes_of texts.items

-- the heap, if there is one, has the text of each cell
abbrev pub HasAllTexts : (CellId → Option ℕ) → Metadata → TextUses → Type 0
HasAllTexts index_of model (Indexed heap indexes) = AreTextsIn index_of heap.now model
HasAllTexts index_of model (Read texts) = Unit {0}

-- these texts of the model's cells
pub record AreTextUses (index_of : CellId → Option ℕ) (model : Metadata) (uses : TextUses) (values : List (List ℕ)) : Type 0 where
  pub heap : HasAllTexts index_of model uses
  pub texts : used_texts uses ≡ values
