use Rattle.root_writer.proofs.Prelude.{subst, number_bytes, Puts}
use Rattle.root_writer.specs.TableHeader.{table_header}
use Rattle.root_writer.proofs.PutsLemmas.{puts_then}
use Rattle.root_writer.proofs.writer.Writer.put_table_header.Goals as goal

pub returns : goal.returns
unfolding table_header
returns c =
    let valid = subst (λ bits. Puts c.put.new.self c.put_long.new.self (number_bytes 8 bits)) c.valid.ensures c.put_long.ensures in
    puts_then (puts_then (puts_then c.put.ensures valid) c.put_long-2.ensures) c.put_counts.ensures
