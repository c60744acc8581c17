use Rattle.pe.proofs.Prelude.{arith, common_steps}
use Rattle.pe.proofs.image.check_image.Goals as goal

pub returns-in_err-lfanew : goal.returns-in_err-lfanew
returns-in_err-lfanew c = record { reports = grind (arith, common_steps); image = grind (arith, common_steps); within = grind (arith, common_steps) }

pub returns-in_err-header : goal.returns-in_err-header
returns-in_err-header c = record { reports = grind (arith, common_steps); image = grind (arith, common_steps); within = grind (arith, common_steps) }

pub returns-in_err-cli_directory_offset : goal.returns-in_err-cli_directory_offset
returns-in_err-cli_directory_offset c = record { reports = grind (arith, common_steps); image = grind (arith, common_steps); within = grind (arith, common_steps) }

pub returns-in_err-check_sections : goal.returns-in_err-check_sections
returns-in_err-check_sections c = record { reports = grind (arith, common_steps); image = grind (arith, common_steps); within = grind (arith, common_steps) }

pub returns : goal.returns
returns c = record { reports = grind (arith, common_steps); image = grind (arith, common_steps); within = grind (arith, common_steps) }
