use Rattle.file_ranges.proofs.Prelude.{◌≤◌, ◌<◌, ◌+◌, ℕ, length, subst, sym, Where, elsewhere, here}
use Rattle.file_ranges.proofs.look_ups.contains.Goals as goal

-- a location in this file has the byte
abbrev Within : ℕ → Where → Type 0
Within at (here offset content) = (offset ≤ at) × (at < offset + length content)
Within at (elsewhere of) = ⊥

pub returns-in-Ok-Here : goal.returns-in-Ok-Here
returns-in-Ok-Here c = λ file header model of is.
    let it = c.in-Ok-Here.content in
    let location = rw c.in-Ok-Here.field-0-is at (c.in-Ok-Here.ensures.sound file header model of is) in (
      (λ true. let within = c.has_byte.ensures.0 true in
          record { offset = it.offset; content = it.bytes.now; is_location = location; begun = within.0; not_ended = within.1 }),
      (λ has.
          let same = rw c.in-Ok-Here.field-0-is at (c.in-Ok-Here.ensures.complete file header model of is (here has.offset has.content) has.is_location) in
          let P : Where → Type 0 = λ location. Within c.args.offset location in
          c.has_byte.ensures.1 (subst P (sym same) (has.begun, has.not_ended))),
    )

pub returns-in-Ok-Elsewhere : goal.returns-in-Ok-Elsewhere
returns-in-Ok-Elsewhere c = λ file header model of is. (
  (λ true. absurd cc),
  (λ has.
      let same = rw c.in-Ok-Elsewhere.field-0-is at (c.in-Ok-Elsewhere.ensures.complete file header model of is (here has.offset has.content) has.is_location) in
      absurd cc),
)

pub returns-in-Err : goal.returns-in-Err
returns-in-Err c = λ file header model of is.
    ((λ true. absurd cc), (λ has. absurd (c.in-Err.ensures.complete file header model of is (here has.offset has.content) has.is_location)))
