use Rattle.cli_info.proofs.resources.open_file.Goals as goal

pub returns-clause-opened : goal.returns-clause-opened
returns-clause-opened c =
    let it = c.in_ok-header in (
      ∣ (it.header, it.ensures.sound) ∣₁,
      λ header model is.
          let same = it.ensures.complete header model is in
          (rw same at c.directory_of.ensures, rw (it.ensures.view, same) is.root),
    )
