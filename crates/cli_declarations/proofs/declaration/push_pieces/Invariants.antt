use Rattle.cli_declarations.proofs.Prelude.{map, take, Metadata, IsPartText, shown, AreTexts, Gains}
use Rattle.metadata.specs.Model.{IsModel}
use Rattle.cli_declarations.proofs.declaration.push_pieces.Given as goal

abbrev pub invariant-loop-piece : goal.invariant-loop-piece
invariant-loop-piece l = (model : Metadata) → IsModel l.source.view.now model
    → Gains (AreTexts (IsPartText model l.token.table l.token.row) (map shown (take l.piece-index l.piece-items))) l.initial.declared l.declared
