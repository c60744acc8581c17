use Rattle.full_names.proofs.Prelude.{arith, refl, HasRow, IsOwnText}
use Rattle.full_names.proofs.NameExists.{own_text}
use Rattle.full_names.proofs.PieceLemmas.{passed_over}
use Rattle.full_names.proofs.names.write_own.Goals as goal

pub returns-then-is_reached : goal.returns-then-is_reached
returns-then-is_reached g c = λ model shown.
    let row = c.args.row in
    let there : HasRow model c.args.table row = (c.requires.first, omega (arith, c.holds_one.ensures.rows model shown c.args.table, c.requires.last)) in
    passed_over g.W.Write.write_str_gives c.args.out.now (IsOwnText model c.args.table row) (c.if-is_reached.ensures refl)
    (own_text model (c.holds_one.ensures.valid model shown) c.args.table row there c.requires.cells c.requires.name c.requires.namespace)
