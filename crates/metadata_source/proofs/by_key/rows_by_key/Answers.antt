use Rattle.metadata_source.proofs.Prelude.{◌≡◌, ℕ, ◌+◌, ◌-◌, ◌*◌, ◌≤◌, ◌==◌, ◌↔◌, List, length, sym, ◌∙◌, subst, arith, IsStrictlyIncreasing, HasRow, HasKey, key_at, binary_digits, rows_with}
use Rattle.std.proofs.Math.Logic.{∥∥₁_elim}
use Rattle.std.specs.Coded.{le_prop}
use Rattle.std.specs.List.{Contains}
use Rattle.metadata_source.proofs.KeyLemmas.{numbers_count, keys_rise, rows_are, none_has}
use Rattle.metadata_source.proofs.RowLemmas.{that_rise}
use Rattle.metadata_source.proofs.by_key.rows_by_key.Goals as goal

rising : (numbers : List ℕ) (number : ℕ) (rows : List ℕ) → rows ≡ rows_with numbers number 1 (length numbers + 1) → IsStrictlyIncreasing rows
rising numbers number rows found =
    let P : List ℕ → Type 0 = λ l. IsStrictlyIncreasing l in
    subst P (sym found) (that_rise 1 (length numbers + 1 - 1) (λ row. key_at numbers row == number))

pub search-requires : goal.search-requires
search-requires g c = λ i j d low high.
    ∥∥₁_elim c.holds_one.ensures.shown le_prop (λ some.
    let model = some.0 in
    let keys = c.holds_one.ensures.keys model some.1 c.args.table c.key_cell-cell.result in
    let rise = keys_rise model c.args.table c.key_cell-cell.result c.key_cell-cell.ensures c.args.token _ _ (c.holds_one.ensures.rows model some.1 c.args.table)
    (λ row first last. keys row c.key_cell-cell.ensures first last) ((c.in_order.ensures model some.1).0 c.if-in_order.true) in
    rise i j d low high)

pub returns-then-in_order-clause-ascending : goal.returns-then-in_order-clause-ascending
returns-then-in_order-clause-ascending g c = rising _ c.in-Some.number _ c.search.ensures.rows

pub returns-then-in_order-clause-rows : goal.returns-then-in_order-clause-rows
returns-then-in_order-clause-rows g c = λ model shown.
    let keys = c.holds_one.ensures.keys model shown c.args.table c.key_cell-cell.result in
    rows_are model c.args.table c.key_cell-cell.result c.key_cell-cell.ensures c.args.token _ _ (c.holds_one.ensures.rows model shown c.args.table)
    (λ row first last. keys row c.key_cell-cell.ensures first last) c.in-Some.number (c.in-Some.ensures.sound model shown) c.search.result.rows
    c.search.ensures.rows

pub returns-then-in_order-clause-bounded : goal.returns-then-in_order-clause-bounded
returns-then-in_order-clause-bounded g c = λ model shown ordered.
    let long = numbers_count _ _ ∙ sym (c.holds_one.ensures.rows model shown c.args.table) in
    let P : ℕ → Type 0 = λ n. c.search.result.reads ≤ 2 * binary_digits n + 2 in
    subst P long c.search.ensures.reads

pub returns-else-in_order-clause-ascending : goal.returns-else-in_order-clause-ascending
returns-else-in_order-clause-ascending g c = rising _ c.in-Some.number _ c.walk.ensures.rows

pub returns-else-in_order-clause-rows : goal.returns-else-in_order-clause-rows
returns-else-in_order-clause-rows g c = λ model shown.
    let keys = c.holds_one.ensures.keys model shown c.args.table c.key_cell-cell.result in
    rows_are model c.args.table c.key_cell-cell.result c.key_cell-cell.ensures c.args.token _ _ (c.holds_one.ensures.rows model shown c.args.table)
    (λ row first last. keys row c.key_cell-cell.ensures first last) c.in-Some.number (c.in-Some.ensures.sound model shown) c.walk.result.rows
    c.walk.ensures.rows

pub returns-in_default-clause-rows : goal.returns-in_default-clause-rows
returns-in_default-clause-rows g c = λ model shown row.
    let none = none_has model c.args.table c.key_cell-cell.result c.key_cell-cell.ensures c.args.token (c.in_default.ensures.none model shown) row in
    let P : List ℕ → Type 0 = λ rows. Contains rows row ↔ (HasRow model c.args.table row × HasKey model c.args.table c.args.token row) in
    subst P (sym c.none.ensures.rows) ((λ has. absurd (omega (arith, has.1))), (λ both. absurd (none both)))
