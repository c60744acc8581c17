use Rattle.cli_cells.proofs.Prelude.{◌≤◌, inl, inr, refl, count_in, IsModel, row_count, row_line, content_of, user_line, user_of, Hidden}
use Rattle.cli_cells.proofs.tokens.print_named.Goals as goal

pub returns-in_default-clause-none : goal.returns-in_default-clause-none
returns-in_default-clause-none g c = (
  (λ named. elim named [
    | inl has ↦ c.in_default.ensures.complete has.1.0 (rw c.requires has.1.1)
    | inr row ↦ row.0 c.if-number-eq-USER_STRINGS.true
  ]),
  refl,
)

pub returns-then-number-eq-USER_STRINGS-clause-named : goal.returns-then-number-eq-USER_STRINGS-clause-named
returns-then-number-eq-USER_STRINGS-clause-named g c =
    inl (c.if-number-eq-USER_STRINGS.true, (c.in-Ok.string, rw c.requires at c.in-Ok.ensures.sound))

pub returns-then-number-eq-USER_STRINGS-clause-line : goal.returns-then-number-eq-USER_STRINGS-clause-line
unfolding user_of
returns-then-number-eq-USER_STRINGS-clause-line g c = λ model is.
    let stands = rw (c.requires, ← c.models_are_read.ensures.user c.args.view.now model is) at c.in-Ok.ensures.sound in
    (user_line c.args.number c.in-Ok.string.units c.in-Ok.string.flag, inl (c.if-number-eq-USER_STRINGS.true, (c.in-Ok.string, stands, refl)), c.print_user_string.ensures)

pub returns-clause-line : goal.returns-clause-line
unfolding row_count
returns-clause-line g c = λ model is.
    let token = c.in_ok-token.token in
    let here : IsModel c.new-cells.result model = rw c.new-cells.ensures is in
    let within : token.row ≤ count_in model token.table = rw (c.models_are_read.ensures.count c.args.view.now model is token.table) c.in_ok-token.ensures.sound.2 in (
      row_line Hidden (content_of model) token.table token.row,
      inr (c.if-number-eq-USER_STRINGS.false, (token, c.in_ok-token.ensures.sound.0, (c.in_ok-token.ensures.sound.1, within), refl)),
      c.print_row.ensures.line (content_of model) (model, here, refl),
    )
