use Rattle.sig_grammar.proofs.Readers.{NumbersAreRead}
use Rattle.sig_grammar.proofs.Bodies.{encoded_read, read_encoded, one_signature}
use Rattle.sig_grammar.proofs.laws.signatures_are_read.Goals as goal

known : goal.After-numbers_are_read → NumbersAreRead
known c = record {
  unsigned_found = c.numbers_are_read.ensures.unsigned;
  unsigned_again = c.numbers_are_read.ensures.unsigned_only;
  signed_found = c.numbers_are_read.ensures.signed;
  signed_again = c.numbers_are_read.ensures.signed_only;
}

pub returns : goal.returns
returns c = record {
  read = encoded_read (known c);
  encoded = read_encoded (known c);
  one = one_signature (known c);
}
