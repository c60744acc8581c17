use Rattle.cli_info.specs.InfoLines.{sizes_line}
use Rattle.cli_info.proofs.info.print_headers.Goals as goal

pub returns : goal.returns
unfolding sizes_line
returns g c = λ model is.
    let more = c.lines_follow.ensures.more in
    rw (c.in-Some.is, ← c.entry_name.ensures model is)
    (more _ _ _ _ _ c.print_image.ensures (more _ _ _ _ _ c.print_flags.ensures (more _ _ _ _ _ c.print_entry.ensures c.line.ensures)))

pub returns-in_default : goal.returns-in_default
returns-in_default g c = λ model is. rw c.in_default.is (c.lines_follow.ensures.nothing _)
