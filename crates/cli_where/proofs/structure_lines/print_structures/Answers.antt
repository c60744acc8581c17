use Rattle.cli_where.proofs.Prelude.{◌+◌, ◌∷◌, [], List, drop, get_or, map, subst, drop_all, drop_more, Completes, seen, Structure, structure_line}
use Rattle.cli_where.proofs.structure_lines.print_structures.Goals as goal

pub loop-structure-init : goal.loop-structure-init
loop-structure-init g c = c.reports_are_completed.ensures.start _ _

pub loop-structure-preserved : goal.loop-structure-preserved
loop-structure-preserved g c =
    let loop = c.loop-structure in
    let i = loop.structure-index in
    let all = c.args.of.now in
    let lines = λ (left : List Structure). map structure_line (map seen left) in
    c.reports_are_completed.ensures.more _ _ _ (structure_line (seen (get_or all i _)) ∷ []) (lines (drop (i + 1) all)) _
    (subst (λ (left : List Structure). Completes c.args.out.now loop.out (lines left) (lines all)) (drop_more all i _ c.loop-structure-test.true) loop.invariant) c.print_structure.ensures

pub returns : goal.returns
returns g c =
    let loop = c.loop-structure in
    c.reports_are_completed.ensures.all _ _ _ (rw (drop_all loop.structure-index c.args.of.now c.loop-structure-test.false) at loop.invariant)
