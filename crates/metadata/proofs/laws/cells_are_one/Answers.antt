use Rattle.metadata.proofs.TableLemmas.{cell_one}
use Rattle.metadata.proofs.laws.cells_are_one.Goals as goal

pub returns : goal.returns
returns c = cell_one (record {
  text = c.entries_are_one.ensures.text;
  blob = c.entries_are_one.ensures.blob;
  guid = c.entries_are_one.ensures.guid;
  signature = c.signatures_are_read.ensures.one;
})
