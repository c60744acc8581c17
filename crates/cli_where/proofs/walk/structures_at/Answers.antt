use Rattle.std.proofs.lemmas.Option.{same_Some}
use Rattle.std.proofs.lemmas.Result.{IfOk-weaker}
use Rattle.cli_where.proofs.Prelude.{[], map, seen}
use Rattle.cli_where.proofs.walk.structures_at.Goals as goal

pub returns : goal.returns
returns c =
    IfOk-weaker c.finish.result _ _
    (λ found is.
    let finds = rw c.new-found.ensures at c.find_all.ensures in
    let at = finds.found (map seen found.items) is in
    rw (at.4, ← same_Some [] at.0 at.1) at.3)
    c.finish.ensures
