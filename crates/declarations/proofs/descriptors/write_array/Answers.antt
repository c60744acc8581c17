use Rattle.declarations.specs.Descriptors.{element_word, size_text}
use Rattle.declarations.proofs.DescriptorLemmas.{writes_then}
use Rattle.declarations.proofs.descriptors.write_array.Goals as goal

pub returns : goal.returns
returns g c =
    writes_then g.W.Write.write_str_gives (element_word c.args.of) (size_text c.args.size) c.write_size.new.out c.write_size.result c.element_word.ensures c.in_ok-write_text.ensures
    c.write_size.ensures
