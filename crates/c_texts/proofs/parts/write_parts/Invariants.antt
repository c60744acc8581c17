use Rattle.c_texts.proofs.Prelude.{◌-◌, ◌^◌, take, HasText, joined}
use Rattle.c_texts.proofs.parts.write_parts.Given as goal

-- the parts before this one are written
abbrev pub invariant-loop-part : goal.invariant-loop-part
invariant-loop-part l = HasText (2 ^ 64 - 1) l.fn.buffer (joined (take l.part-index l.parts)) l.buffer l.len
