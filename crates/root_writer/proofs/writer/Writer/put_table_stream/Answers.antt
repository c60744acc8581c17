use Rattle.root_writer.proofs.PutsLemmas.{puts_then}
use Rattle.root_writer.proofs.writer.Writer.put_table_stream.Goals as goal

pub returns : goal.returns
returns c = puts_then (puts_then c.put_table_header.ensures c.put_tables.ensures) c.put_padding.ensures
