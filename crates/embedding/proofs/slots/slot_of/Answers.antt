use Rattle.embedding.proofs.Prelude.{sym, ◌∙◌, arith, false≢true, source_of}
use Rattle.embedding.proofs.Misfits.{no_longer_section, no_new_section}
use Rattle.embedding.proofs.slots.slot_of.Goals as goal

pub returns-in-None-clause-misfit : goal.returns-in-None-clause-misfit
returns-in-None-clause-misfit c =
    let file = c.args.file.now in (
      omega arith,
      no_new_section file.headers c.args.len file.header (source_of file.view) (omega arith) (c.has_room.ensures.0 c.if-has_room.true) c.in-None.ensures.none,
    )

pub returns-in-None-extended-clause-misfit : goal.returns-in-None-extended-clause-misfit
returns-in-None-extended-clause-misfit c =
    let file = c.args.file.now in (
      omega arith,
      no_longer_section file.headers c.args.len file.header (source_of file.view) (omega arith)
          (λ room. false≢true (sym c.if-has_room.false ∙ c.has_room.ensures.1 room)) c.in-None-extended.ensures.none,
    )
