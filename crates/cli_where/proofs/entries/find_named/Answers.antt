use Rattle.cli_where.proofs.Prelude.{◌∙◌, ap, entry, heap_named}
use Rattle.cli_where.proofs.EntryLemmas.{finds_none_of, finds_one, finds_same}
use Rattle.cli_where.proofs.entries.find_named.Goals as goal

pub returns-then-most-eq0 : goal.returns-then-most-eq0
returns-then-most-eq0 c = rw c.if-most-eq0.true (finds_same (λ more later are. are))

pub returns-in-Some : goal.returns-in-Some
returns-in-Some c =
    let sound = rw (c.kind_of-kind.ensures, c.number.ensures.value) at c.in-Some.ensures.sound in
    finds_one c.args.most c.args.cell _ _ _ c.if-most-eq0.false
    (sound.0, sound.1, ap (λ heap. entry heap c.args.cell) (c.heap_named.ensures ∙ ap heap_named c.kind_of-kind.ensures)) c.keep.ensures

pub returns-in-None : goal.returns-in-None
returns-in-None c =
    finds_none_of c.args.most c.args.cell c.args.found.now (rw (c.kind_of-kind.ensures, c.number.ensures.value) at c.in-None.ensures.none)
