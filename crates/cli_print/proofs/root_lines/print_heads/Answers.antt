use Rattle.cli_print.proofs.root_lines.print_heads.Goals as goal

pub returns : goal.returns
returns g c =
    let more = c.lines_follow.ensures.more in
    rw (← c.version.ensures, ← c.headers.ensures) (more _ _ _ _ _ c.print_header.ensures (more _ _ _ _ _ c.print_version.ensures c.print_streams.ensures))
