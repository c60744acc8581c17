use Rattle.std.proofs.Common.{◌*◌, Some, ◌∙◌, ap, take}
use Rattle.heap_entries.proofs.GuidLemmas.{guid_stands, only_guid}
use Rattle.heap_entries.proofs.guids.guid.Goals as goal

pub returns-in-Some-first_chunk-clause-sound : goal.returns-in-Some-first_chunk-clause-sound
returns-in-Some-first_chunk-clause-sound c =
    let chunk = c.in-Some-first_chunk.ensures.cases in (
      c.in-Some.ensures.0,
      guid_stands c.args.heap.now c.args.index (16 * c.in-Some.earlier) c.split_at.result.1.now c.in-Some-first_chunk.guid.now
          (ap (λ n. 16 * n) c.in-Some.ensures.1) c.if-start-heap.false c.split_at.ensures.back chunk.enough chunk.same,
    )

pub returns-in-Some-first_chunk-clause-complete : goal.returns-in-Some-first_chunk-clause-complete
returns-in-Some-first_chunk-clause-complete c = λ guid is.
    let chunk = c.in-Some-first_chunk.ensures.cases in
    only_guid c.args.heap.now c.args.index (16 * c.in-Some.earlier) c.in-Some-first_chunk.guid.now guid c.in-Some.ensures.0 (ap (λ n. 16 * n) c.in-Some.ensures.1)
    (chunk.same ∙ ap (take 16) c.split_at.ensures.back) is

pub returns-in-Some-first_chunk-clause-reports : goal.returns-in-Some-first_chunk-clause-reports
returns-in-Some-first_chunk-clause-reports c = λ offset.
    let chunk = c.in-Some-first_chunk.ensures.cases in (
      (
        Some c.in-Some-first_chunk.guid.now,
        (
          c.in-Some.ensures.0,
          guid_stands c.args.heap.now c.args.index (16 * c.in-Some.earlier) c.split_at.result.1.now c.in-Some-first_chunk.guid.now
              (ap (λ n. 16 * n) c.in-Some.ensures.1) c.if-start-heap.false c.split_at.ensures.back chunk.enough chunk.same,
        ),
      ),
      tt,
    )
