-- The content of cells determines them.
use Rattle.tables.proofs.Prelude.{◌≡◌, List, [], ◌∷◌, map, refl, ap, sym, ◌∙◌, Decides, pointwise, pointwise_decides, Decides-like, Decides-and, Decides-eqb, Metadata, said, all_said}
use Rattle.metadata.specs.Cell as says
use Rattle.tables.specs.declared.cell.Cell.{Cell}
use Rattle.tables.specs.declared.cell.Cell.TheVariants.{Number, Text, Bytes, Guid, Ref, Start, Sig}
use Rattle.tables.specs.contracts.cell.CellPartialEq.TheImpl.{eq-value}
use Rattle.tables.specs.Code.{saying, said_saying}
use Rattle.tables.specs.Same.{is_same_cell}
use Rattle.tables.specs.contracts.tables.TablesPartialEq.TheImpl as tables

pub saying_said : (cell : Cell) → saying (said cell) ≡ cell
saying_said (Number number) = refl
saying_said (Text text) = refl
saying_said (Bytes bytes) = refl
saying_said (Guid guid) = refl
saying_said (Ref reference) = refl
saying_said (Start row) = refl
saying_said (Sig signature) = refl

all_saying : (cells : List Cell) → map saying (all_said cells) ≡ cells
all_saying [] = refl
all_saying (cell ∷ cells) = rw (saying_said cell, all_saying cells) refl

-- cells with the same content are equal
pub said_once : (cells others : List Cell) → all_said cells ≡ all_said others → cells ≡ others
said_once cells others same = sym (all_saying cells) ∙ ap (map saying) same ∙ all_saying others

-- rows are equal if their cells are
pub same_rows : (cells others : List Cell) → pointwise is_same_cell (all_said cells) (all_said others) ≡ pointwise eq-value.it cells others
same_rows [] [] = refl
same_rows [] (other ∷ others) = refl
same_rows (cell ∷ cells) [] = refl
same_rows (cell ∷ cells) (other ∷ others) = rw (saying_said cell, saying_said other, same_rows cells others) refl

-- ---- equality of tables

module _ (decides : (a b : Cell) → Decides (eq-value.it a b) (a ≡ b)) where
  cell_decides : (a b : says.Cell) → Decides (is_same_cell a b) (a ≡ b)
  cell_decides a b =
      Decides-like _ (λ same. sym (said_saying a) ∙ ap said same ∙ said_saying b) (λ same. ap saying same) (decides (saying a) (saying b))

  metadata_same : (a b : Metadata) → a.version ≡ b.version → a.user ≡ b.user → a.tables ≡ b.tables → a ≡ b
  metadata_same a b version user tables = λ i. record { version = version i; user = user i; tables = tables i }

  pub metadata_decides : (a b : Metadata) → Decides (tables.eq-value.it a b) (a ≡ b)
  metadata_decides a b =
      Decides-like _ (λ same. metadata_same a b same.0 same.1.0 same.1.1)
      (λ same. (ap (λ (m : Metadata). m.version) same, (ap (λ (m : Metadata). m.user) same, ap (λ (m : Metadata). m.tables) same)))
      (Decides-and _ _ (pointwise_decides Decides-eqb a.version b.version)
      (Decides-and _ _ (pointwise_decides Decides-eqb a.user b.user)
      (pointwise_decides (pointwise_decides (pointwise_decides cell_decides)) a.tables b.tables)))
