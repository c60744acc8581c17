use Rattle.cli_outline.proofs.Prelude.{drop, flat_map, MethodSemantics, Metadata, IsModel, KeyedRow, row_of}
use Rattle.cli_outline.proofs.ChosenLemmas.{Completes}
use Rattle.cli_outline.proofs.chosen.print_own.Given as goal

abbrev pub invariant-loop-accessor : goal.invariant-loop-accessor
invariant-loop-accessor g l = (model : Metadata) → IsModel l.source.neighbours.view.now model → Completes l.source.options model l.choice l.initial.out l.out
    (flat_map (λ (found : KeyedRow). row_of MethodSemantics found.row) (drop l.accessor-index l.accessors)) (flat_map (λ (found : KeyedRow). row_of MethodSemantics found.row) l.accessors)
