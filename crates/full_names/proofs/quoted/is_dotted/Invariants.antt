use Rattle.std.proofs.Common.{◌≡◌, drop}
use Rattle.full_names.specs.Quoted.{is_dotted, is_dotted_from}
use Rattle.full_names.proofs.quoted.is_dotted.Given as goal

-- what is left decides
abbrev pub invariant-loop-byte : goal.invariant-loop-byte
invariant-loop-byte l = is_dotted l.text ≡ is_dotted_from l.position (drop l.byte-index l.text)
