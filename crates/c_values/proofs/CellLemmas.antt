-- The cells of a row that are given one after another.
use Rattle.c_values.proofs.Prelude.{◌≡◌, ℕ, ◌+◌, List, [], ◌∷◌, ◌++◌, length, get_or, inl, inr, refl, sym, ap, ◌∙◌, subst, arith, TableId, FirstBroken, Cell, Refusal, ClimCell, CellKind, Number, Text, Blob, NullGuid, Guid, NullRow, Row, Start, Signature, AreCells, EncodesAs, IsCell, IsFormed, IsFormedAs, kind_number, rules_of_cell}

-- no two kinds have one number
kinds : List CellKind
kinds = Number ∷ Number ∷ Text ∷ Blob ∷ NullGuid ∷ Guid ∷ NullRow ∷ Row ∷ Start ∷ Signature ∷ []

kind_of : (kind : CellKind) → get_or kinds (kind_number kind) Number ≡ kind
unfolding kinds
kind_of Number = refl
kind_of _ = refl

pub kind_one : (a b : CellKind) → kind_number a ≡ kind_number b → a ≡ b
kind_one a b same = sym (kind_of a) ∙ ap (λ n. get_or kinds n Number) same ∙ kind_of b

-- one more cell
pub one_more_cell : (table : TableId) (column : ℕ) (given : List ClimCell) (cells : List Cell) (next : ClimCell) (cell : Cell)
    → AreCells table column given cells → IsCell table (column + length given) next cell → AreCells table column (given ++ next ∷ []) (cells ++ cell ∷ [])
one_more_cell table column [] [] next cell are is =
    let e : column + length {A = ClimCell} [] ≡ column = omega arith in
    (subst (λ k. IsCell table k next cell) e is, tt)
one_more_cell table column (x ∷ given) (y ∷ cells) next cell are is =
    let e : column + length (x ∷ given) ≡ column + 1 + length given = omega arith in
    (are.0, one_more_cell table (column + 1) given cells next cell are.1 (subst (λ k. IsCell table k next cell) e is))
one_more_cell table column [] (y ∷ cells) next cell are is = absurd are
one_more_cell table column (x ∷ given) [] next cell are is = absurd are

-- a cell amid others
pub cell_amid : (table : TableId) (column : ℕ) (before : List ClimCell) (here : ClimCell) (others : List ClimCell) (cells : List Cell)
    → AreCells table column (before ++ here ∷ others) cells → (cell : Cell) × IsCell table (column + length before) here cell
cell_amid table column [] here others [] are = absurd are
cell_amid table column [] here others (y ∷ cells) are =
    let e : column ≡ column + length {A = ClimCell} [] = omega arith in
    (y, subst (λ k. IsCell table k here y) e are.0)
cell_amid table column (x ∷ before) here others [] are = absurd are
cell_amid table column (x ∷ before) here others (y ∷ cells) are =
    let e : column + 1 + length before ≡ column + length (x ∷ before) = omega arith in
    let found = cell_amid table (column + 1) before here others cells are.1 in
    (found.0, subst (λ k. IsCell table k here found.0) e found.1)

-- the fields of a cell are in order
formed_as : (table : TableId) (column : ℕ) (kind : CellKind) (given : ClimCell) (cell : Cell) → EncodesAs table column kind given cell → IsFormedAs table column kind given
formed_as table column Text given cell is = is.0
formed_as table column Row given cell is = (is.0, is.1)
formed_as table column Signature given cell is = (is.0, is.1)
formed_as table column _ given cell is = tt

pub formed : (table : TableId) (column : ℕ) (given : ClimCell) (cell : Cell) → IsCell table column given cell → IsFormed table column given
formed table column given cell is = (is.0, is.1, formed_as table column is.0 given cell is.2)

-- how a cell of a known kind is encoded
pub needs_encoding : (table : TableId) (column : ℕ) (kind : CellKind) (given : ClimCell) (cell : Cell) → kind_number kind ≡ given.kind → IsCell table column given cell
    → EncodesAs table column kind given cell
needs_encoding table column kind given cell same is = subst (λ k. EncodesAs table column k given cell) (kind_one is.0 kind (is.1 ∙ sym same)) is.2

-- a cell that is read breaks no rule
pub cell_not_broken : (table : TableId) (row column : ℕ) (given : ClimCell) (cell : Cell) (refusal : Refusal) → IsCell table column given cell
    → FirstBroken (rules_of_cell table row column given) refusal → ⊥
cell_not_broken table row column given cell refusal is (inl bad) = bad.0 (formed table column given cell is)
cell_not_broken table row column given cell refusal is (inr (later)) = elim later.1 [
  | inl bad ↦ bad.0 (cell, is)
  | inr none ↦ none.1
]
