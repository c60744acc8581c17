use Rattle.full_names.proofs.QuotedLemmas.{names_end}
use Rattle.full_names.proofs.quoted.names_are_read.Goals as goal

pub returns : goal.returns
returns c = λ kind other first second before after of_first of_second ends end is. names_end kind other first second before after of_first of_second ends end is
