use Rattle.reading.proofs.Prelude.{◌≡◌, ℕ, Some, sym, ◌∙◌, ap, same_Some, TableId, Token}
use Rattle.reading.proofs.coded.named_by.Goals as goal

pub returns-in_err-table-clause-complete : goal.returns-in_err-table-clause-complete
returns-in_err-table-clause-complete c = λ token is.
    let some = c.split.ensures.complete token.table token.row is in
    let none = c.in_err-table.was in
    absurd cc

pub returns-clause-complete : goal.returns-clause-complete
returns-clause-complete c = λ token is.
    let row : TableId × ℕ = (c.in_ok-table.table, c.in_ok-table.row) in
    let same : row ≡ (token.table, token.row) =
    same_Some row (token.table, token.row) (sym c.in_ok-table.was ∙ c.split.ensures.complete token.table token.row is) in
    let token_of : TableId × ℕ → Token = λ named. record { table = named.0; row = named.1 } in
    ap (λ named. Some (token_of named)) same
