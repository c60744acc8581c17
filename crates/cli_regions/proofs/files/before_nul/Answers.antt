use Rattle.cli_regions.proofs.Prelude.{◌≡◌, ℕ, List, arith, eqb, length, position, position_or_len, take, take_all}
use Rattle.std.specs.Option.{unwrap_or}
use Rattle.std.proofs.lemmas.Bool.Decides.{nat_tests}
use Rattle.cli_regions.proofs.files.before_nul.Goals as goal

before_end : (bytes : List ℕ) → take (unwrap_or (position (λ byte. eqb byte 0) bytes) (length bytes)) bytes ≡ take (position_or_len (λ byte. eqb byte 0) bytes) bytes
before_end bytes = grind (arith, nat_tests, take_all)

pub returns : goal.returns
returns c = rw (c.split_at.ensures.front, c.unwrap_or.ensures, c.nul_in.ensures) (before_end c.args.bytes.now)
