use Rattle.cli_declarations.proofs.Prelude.{string_bytes, ℕ, zero, suc, ◌<◌, List, [], ◌∷◌, length, get_or, map, refl, sym, append-nil, arith, take_all, TableId, IsPartText, AreWithin, IsWithin, shown, Piece}
use Rattle.cli_declarations.proofs.TextLemmas.{gains_more}
use Rattle.cli_declarations.proofs.declaration.push_pieces.Goals as goal

at_index : (table : TableId) (pieces : List Piece) (i : ℕ) (d : Piece) → AreWithin table (map shown pieces) → i < length pieces → IsWithin table (shown (get_or pieces i d))
at_index table [] i d all lt = absurd (omega (arith, lt))
at_index table (p ∷ ps) zero d all lt = all.0
at_index table (p ∷ ps) (suc i) d all lt = at_index table ps i d all.1 (omega (arith, lt))

pub loop-piece-init : goal.loop-piece-init
loop-piece-init c = λ model is. ([], refl, sym (append-nil (string_bytes c.args.declared.now.text)))

pub push_piece-requires-clause-within : goal.push_piece-requires-clause-within
push_piece-requires-clause-within c =
    at_index c.args.token.table c.pieces_of-piece-items.result.now c.loop-piece.piece-index _ c.pieces_of-piece-items.ensures.within c.loop-piece-test.true

pub loop-piece-preserved : goal.loop-piece-preserved
loop-piece-preserved c = λ model is.
    gains_more (IsPartText model c.args.token.table c.args.token.row) shown c.pieces_of-piece-items.result.now c.loop-piece.piece-index _ _ _ _ c.loop-piece-test.true
    (c.loop-piece.invariant model is) (c.in_ok-push_piece.ensures model is)

pub returns : goal.returns
returns c = λ model is.
    rw (take_all c.loop-piece.piece-index c.pieces_of-piece-items.result.now c.loop-piece-test.false, c.pieces_of-piece-items.ensures.parts) at (c.loop-piece.invariant model is)
