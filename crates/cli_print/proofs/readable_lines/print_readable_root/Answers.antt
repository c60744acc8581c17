use Rattle.cli_print.proofs.Prelude.{◌∙◌, [], ◌∷◌, ap, inl, inr, map, refl, stream_line, version_line}
use Rattle.root.specs.Fields.{version_of}
use Rattle.cli_print.proofs.readable_lines.print_readable_root.Goals as goal

pub returns-in-None : goal.returns-in-None
returns-in-None g c = ([], inl (c.in-None.ensures.none, refl), c.lines_follow.ensures.nothing c.args.out.now)

pub returns-in-Some : goal.returns-in-Some
returns-in-Some g c =
    let read = c.in-Some.ensures.some in
    let headers = c.in-Some.headers in
    let lines = ap (λ version. version_line version ∷ map stream_line headers) read.version_is
    ∙ ap (λ headers. version_line (version_of c.args.root.now) ∷ map stream_line headers) read.headers_are in (
      version_line c.in-Some.version.now ∷ map stream_line headers,
      inr (read.holds, (read.count, read.counted, lines)),
      c.lines_follow.ensures.more _ _ _ _ _ c.print_version.ensures c.print_streams.ensures,
    )
