use Rattle.cli_print.proofs.Prelude.{refl, line_from, styled_text}
use Rattle.cli_print.proofs.laws.whole_files_are_ok.Goals as goal

pub returns : goal.returns
unfolding line_from styled_text
returns c = refl
