use Rattle.embedding.proofs.Prelude.{eq-eqb, sym, ◌∙◌, false≢true, IsFileOffset}
use Rattle.embedding.proofs.slots.reused.Goals as goal
use Rattle.embedding.proofs.slots.reused.Goals.{in-Some, in-None, else-is_found-via-then-is_found+else-is_free, else-is_found-via-else-is_found}

pub returns-else-is_found-clause-misfit : goal.returns-else-is_found-clause-misfit
returns-else-is_found-clause-misfit c = (
  c.requires.short,
  λ fits.
      let file = c.args.file.now in
      let start = file.header.root.start in
      let found : IsFileOffset file.image file.header.metadata.rva c.args.len start = rw c.requires.opened.image fits.found in
      elim c.else-is_found.branch as (λ _. ⊥) [
        | else-is_found-via-then-is_found+else-is_free w ↦
            false≢true (sym w.if-is_free.false ∙ w.is_free.ensures.1 (rw w.source.ensures.source fits.free))
        | else-is_found-via-else-is_found w ↦
            elim c.match-range.branch as (λ _. ⊥) [
              | in-Some v ↦
                  let same = v.in-Some.ensures.complete start found in
                  false≢true (sym w.if-is_found.false ∙ v.is_found-is ∙ eq-eqb v.in-Some.range.start start same.0)
              | in-None v ↦ absurd (v.in-None.ensures.complete start found)
            ]
      ],
)
