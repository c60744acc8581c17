use Rattle.cli_info.proofs.Prelude.{image_line}
use Rattle.cli_info.proofs.info.print_image.Goals as goal

pub returns : goal.returns
unfolding image_line
returns g c =
    rw (← c.u32_at-start.ensures.value, ← c.u16_at.ensures.value, ← c.u16_at-machine.ensures.value, ← c.format_of-wider.ensures.wider)
    (rw (← c.format_of-wider.ensures.name, ← c.u32_at-debug.ensures.value, ← c.machine_word.ensures) c.line.ensures)
