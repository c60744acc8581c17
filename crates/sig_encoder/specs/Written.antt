-- The effect of a part of a signature on the writer: the bytes so far, and the number of bytes that still fit.
use Rattle.std.specs.Prelude.{ℕ, ◌-◌, nat_le, if◌then◌else◌, Result, Ok, Err, List, ◌++◌, length}
use Rattle.sig_grammar.specs.Parts.{short_part}
use Rattle.sig_encoder.specs.Items.{Item, part, broken}
use Rattle.sig_encoder.specs.Lengths.{has_short}

abbrev pub Written : Type 0
Written = List ℕ × ℕ

unfoldable pub put_short : List ℕ → Written → Result Written Written
put_short short w = if nat_le (length short) w.1 then Ok (w.0 ++ short, w.1 - length short) else Err w

unfoldable pub writer_step : Item → Written → Result Written Written
writer_step broken w = Ok w
writer_step (part p) w = if has_short p then put_short (short_part p) w else Err w
