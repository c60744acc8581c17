use Rattle.cli_info.proofs.Prelude.{◌∙◌, Some, ap, sym, arith}
use Rattle.std.proofs.Math.Logic.{∥∥₁_elim}
use Rattle.std.specs.Coded.{le_prop}
use Rattle.cli_info.proofs.info.open_facts.Goals as goal

pub returns-in_ok-open_root-in-BareRoot-clause-facts : goal.returns-in_ok-open_root-in-BareRoot-clause-facts
returns-in_ok-open_root-in-BareRoot-clause-facts c = λ header model are.
    let bare = rw c.in-BareRoot.is at are in
    (sym bare.0, rw c.in_ok-open_root-in-BareRoot.ensures.sound.0 bare.1)

pub returns-in_ok-header-in-File-clause-facts : goal.returns-in_ok-header-in-File-clause-facts
returns-in_ok-header-in-File-clause-facts c = λ header model are.
    let it = c.in_ok-header-in-File.ensures in
    let file = rw c.in-File.is at are in
    let same = it.complete file.0 model file.2 in
    (ap Some same ∙ sym file.1, rw (it.view, same) file.2.root)

pub returns-in_ok-header-in-File-clause-room : goal.returns-in_ok-header-in-File-clause-room
returns-in_ok-header-in-File-clause-room c = λ header is.
    let hold = c.images_are_read.ensures.rules_hold c.args.bytes.now in
    let has = c.in_ok-header-in-File.ensures.sound in (
      ∥∥₁_elim has le_prop (λ some. (hold some.1.image some.1.is_image).1.0.0),
      ∥∥₁_elim has le_prop (λ some. let rules = hold some.1.image some.1.is_image in omega (arith, rules.1.1.1.0.0, rules.1.1.1.0.1)),
    )
