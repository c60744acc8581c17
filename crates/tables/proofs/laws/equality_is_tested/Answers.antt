use Rattle.tables.proofs.Prelude.{◌≡◌, ℕ, false, List, Some, None, refl, ap, ◌∙◌, Decides, pointwise_decides, Decides-like, Decides-and, Decides-eqb, TableId, Token}
use denote.Enum.Bare.{same_true, true_same}
use Rattle.table_schema.specs.contracts.table.TableId as table
use Rattle.table_schema.specs.contracts.table.TableIdPartialEq.TheImpl as tables
use Rattle.table_schema.specs.contracts.token.TokenPartialEq.TheImpl as tokens
use Rattle.sig_grammar.specs.Syntax.{Body}
use Rattle.signatures.specs.contracts.signature.SignaturePartialEq.TheImpl as signatures
use Rattle.tables.specs.declared.cell.Cell.{Cell}
use Rattle.tables.specs.declared.cell.Cell.TheVariants.{Number, Text, Bytes, Guid, Ref, Start, Sig}
use Rattle.tables.specs.contracts.cell.CellPartialEq.TheImpl as cells
use Rattle.tables.proofs.SaidLemmas.{metadata_decides}
use Rattle.tables.proofs.laws.equality_is_tested.Goals as goal

denied : {P : Type 0} → (P → ⊥) → Decides false P
denied never = (λ h. absurd cc, λ p. absurd (never p))

table_decides : (a b : TableId) → Decides (tables.eq-value.it a b) (a ≡ b)
table_decides a b = (λ h. same_true table.the_type tt a b h, λ e. true_same table.the_type a b e)

token_same : (a b : Token) → a.table ≡ b.table → a.row ≡ b.row → a ≡ b
token_same a b h k = ap (λ (t : TableId). record { table = t; row = a.row }) h ∙ ap (λ (n : ℕ). record { table = b.table; row = n }) k

token_decides : (a b : Token) → Decides (tokens.eq-value.it a b) (a ≡ b)
token_decides a b =
    Decides-like _ (λ p. token_same a b p.0 p.1) (λ e. (ap (λ (t : Token). t.table) e, ap (λ (t : Token). t.row) e))
    (Decides-and _ _ (table_decides a.table b.table) (Decides-eqb a.row b.row))

-- if the test of signatures is so
cell_decides : ((a b : Body) → Decides (signatures.eq-value.it a b) (a ≡ b)) → (a b : Cell) → Decides (cells.eq-value.it a b) (a ≡ b)
cell_decides same (Number m) (Number n) = Decides-like _ (λ h. ap Number h) (λ k. cc k) (Decides-eqb m n)
cell_decides same (Text s) (Text t) = Decides-like _ (λ h. ap Text h) (λ k. cc k) (pointwise_decides Decides-eqb s t)
cell_decides same (Bytes s) (Bytes t) = Decides-like _ (λ h. ap Bytes h) (λ k. cc k) (pointwise_decides Decides-eqb s t)
cell_decides same (Guid None) (Guid None) = (λ h. refl, λ e. refl)
cell_decides same (Guid (Some s)) (Guid (Some t)) =
    Decides-like _ (λ h. ap (λ (g : List ℕ). Guid (Some g)) h) (λ k. cc k) (pointwise_decides Decides-eqb s t)
cell_decides same (Ref None) (Ref None) = (λ h. refl, λ e. refl)
cell_decides same (Ref (Some t)) (Ref (Some u)) = Decides-like _ (λ h. ap (λ (r : Token). Ref (Some r)) h) (λ k. cc k) (token_decides t u)
cell_decides same (Start m) (Start n) = Decides-like _ (λ h. ap Start h) (λ k. cc k) (Decides-eqb m n)
cell_decides same (Sig s) (Sig t) = Decides-like _ (λ h. ap Sig h) (λ k. cc k) (same s t)
cell_decides same _ _ = denied (λ k. absurd (cc k))

pub returns : goal.returns
returns c = metadata_decides (cell_decides c.equality_is_tested.ensures)
