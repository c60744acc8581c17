use Rattle.root_writer.proofs.Prelude.{◌++◌, length, subst, arith, length-append, prefix, size_of, sized_directory, heading_size, Puts}
use Rattle.root_writer.proofs.PutsLemmas.{puts_then}
use Rattle.root_writer.proofs.writer.Writer.put_heading.Goals as goal

pub put_directory-requires-clause-room : goal.put_directory-requires-clause-room
put_directory-requires-clause-room c =
    let size = size_of c.args.sizes.now in
    let kinds = c.args.kinds.now in
    rw (c.heading_len-first.ensures.offset size) (omega (arith, c.requires.room, c.put_prefix.ensures.room, length-append (prefix c.args.version.now (length kinds)) (sized_directory size (heading_size c.args.version.now size kinds) kinds)))

pub returns : goal.returns
returns c =
    let size = size_of c.args.sizes.now in
    let kinds = c.args.kinds.now in
    subst (λ first. Puts c.args.self.now c.put_directory.new.self (prefix c.args.version.now (length kinds) ++ sized_directory size first kinds)) (c.heading_len-first.ensures.offset size) (puts_then c.put_prefix.ensures c.put_directory.ensures)
