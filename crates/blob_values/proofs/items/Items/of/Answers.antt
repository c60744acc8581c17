use Rattle.std.proofs.Common.{◌∙◌, ℕ, ◌<◌, ◌^◌, List, length, get_or, ap, arith, rules}
use Rattle.blob_values.proofs.Prelude.{Item, items_in}
use Rattle.blob_values.proofs.PartLemmas.{NumbersAreRead}
use Rattle.blob_values.proofs.LengthLemmas.{few_items}
use Rattle.blob_values.proofs.StepLemmas.{whole_value, value_items, value_ends}
use Rattle.blob_values.proofs.items.Items.of.Goals as goal

pub returns-clause-sound : goal.returns-clause-sound
returns-clause-sound c =
    let known : NumbersAreRead = record { found = c.numbers_are_read.ensures.unsigned; again = c.numbers_are_read.ensures.unsigned_only } in
    let small : (k : ℕ) → get_or c.args.blob.now k 0 < 2 ^ 8 = λ k. let f = c.type_inv.blob k in search rules in
    let whole = whole_value known c.args.params.now c.args.blob.now small c.in_ok-bytes.ensures.whole in
    (whole.0, whole.1, ap items_in c.in_ok-bytes.ensures.same ∙ whole.2)

pub returns-clause-complete : goal.returns-clause-complete
returns-clause-complete c = λ v is.
    let known : NumbersAreRead = record { found = c.numbers_are_read.ensures.unsigned; again = c.numbers_are_read.ensures.unsigned_only } in
    ap items_in c.in_ok-bytes.ensures.same ∙ value_items known c.args.params.now c.args.blob.now v is

pub returns-in_err-bytes-clause-complete : goal.returns-in_err-bytes-clause-complete
returns-in_err-bytes-clause-complete c = λ v is.
    let known : NumbersAreRead = record { found = c.numbers_are_read.ensures.unsigned; again = c.numbers_are_read.ensures.unsigned_only } in
    absurd (value_ends known c.args.params.now c.args.blob.now v is c.in_err-bytes.ensures.none)

pub returns-clause-few : goal.returns-clause-few
returns-clause-few c =
    let known : NumbersAreRead = record { found = c.numbers_are_read.ensures.unsigned; again = c.numbers_are_read.ensures.unsigned_only } in
    let small : (k : ℕ) → get_or c.args.blob.now k 0 < 2 ^ 8 = λ k. let f = c.type_inv.blob k in search rules in
    let whole = whole_value known c.args.params.now c.args.blob.now small c.in_ok-bytes.ensures.whole in
    let same = ap (λ o. length (items_in o)) c.in_ok-bytes.ensures.same ∙ ap (λ (items : List Item). length items) whole.2 in
    omega (arith, same, few_items c.args.params.now whole.0 c.args.blob.now whole.1)
