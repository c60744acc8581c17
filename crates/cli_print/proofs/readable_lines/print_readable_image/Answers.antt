use Rattle.cli_print.proofs.Prelude.{[], ◌∷◌, ap, inl, inr, refl, none_fails, cli_line}
use Rattle.cli_header.specs.Rules.{rules_of_cli_header}
use Rattle.cli_print.proofs.readable_lines.print_readable_image.Goals as goal

pub returns-in-Err : goal.returns-in-Err
returns-in-Err g c = (
  [],
  inl ((λ all. none_fails (rules_of_cli_header c.args.pe.now) c.in-Err.field-0 all c.in-Err.ensures.first_error), refl),
  c.lines_follow.ensures.nothing c.args.out.now,
)

pub returns-in-Ok : goal.returns-in-Ok
returns-in-Ok g c =
    let said = c.in-Ok.ensures.all.1 in
    let more = c.print_readable_root.ensures in (
      cli_line c.in-Ok.header ∷ more.0,
      inr (c.in-Ok.ensures.all.0, (more.0, rw (c.root_of.ensures, c.bytes.ensures, said) at more.1, ap (λ header. cli_line header ∷ more.0) said)),
      c.lines_follow.ensures.more _ _ _ _ _ c.print_cli_header.ensures more.2,
    )
