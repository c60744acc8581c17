use Rattle.comparison.proofs.Prelude.{Decides-eqb, slice_eq-Decides}
use Rattle.comparison.proofs.same_bytes.SameParts.of.Goals as goal

pub returns : goal.returns
returns c = record {
  layout = c.have_same_layout.ensures;
  texts = rw (c.texts.ensures, c.texts-2.ensures) at (slice_eq-Decides Decides-eqb c.texts.result.now c.texts-2.result.now c.eq.result c.eq.ensures);
  blobs = rw (c.blobs.ensures, c.blobs-2.ensures) at (slice_eq-Decides Decides-eqb c.blobs.result.now c.blobs-2.result.now c.eq-2.result c.eq-2.ensures);
  guids = rw (c.guids.ensures, c.guids-2.ensures) at (slice_eq-Decides Decides-eqb c.guids.result.now c.guids-2.result.now c.eq-3.result c.eq-3.ensures);
}
