use Rattle.c_texts.proofs.Prelude.{◌≡◌, ℕ, ◌<◌, ◌%◌, IfNone, length, unwrap_or, true≢false, refl, sym, subst, ◌∙◌, ap, arith, IsUserString, UserText, zero_padded, user_text, with_text, encodes_odd}
use Rattle.c_texts.proofs.UserLemmas.{part, part_long, string_at, units_long}
use Rattle.c_texts.proofs.user_strings.write_user_string.Goals as goal

pub returns-in_err-start-clause-none : goal.returns-in_err-start-clause-none
returns-in_err-start-clause-none c =
    let none : (string : UserText) → IsUserString (zero_padded c.args.user.now) c.args.offset string → ⊥ = λ string is. true≢false (sym (c.in_err-start.ensures.complete is.blob is.stands)) in
    subst (λ r. IfNone r ((string : UserText) → IsUserString (zero_padded c.args.user.now) c.args.offset string → ⊥)) (sym c.from_residual.ensures) none

pub returns-then-not-is_string-clause-none : goal.returns-then-not-is_string-clause-none
returns-then-not-is_string-clause-none c = λ string is.
    let heap = zero_padded c.args.user.now in
    let start = c.in_ok-start.start in
    let count = c.in_ok-start.count in
    let sound = c.in_ok-start.ensures.sound in
    let same = c.entries_are_one.ensures.blob heap c.args.offset is.blob (part heap start count) is.stands sound.1 in
    let long : length is.blob ≡ count = ap length same ∙ part_long heap start count sound.0 in
    let odd = encodes_odd is.blob string is.encodes in
    let is_odd : 0 < count → count % 2 ≡ 1 = λ some. subst (λ (n : ℕ). n % 2 ≡ 1) long (odd (omega (arith, long, some))) in
    absurd (true≢false (sym (c.if-not-is_string.ensures.1 is_odd)))

pub returns-clause-sound : goal.returns-clause-sound
returns-clause-sound c = λ string is.
    let heap = zero_padded c.args.user.now in
    let start = c.in_ok-start.start in
    let count = c.in_ok-start.count in
    let sound = c.in_ok-start.ensures.sound in
    let own = string_at c.args.user.now c.args.offset start count (λ i. (c.type_inv.user i).fits) sound.0 sound.1 (c.if-not-is_string.ensures.0 refl) in
    let same = c.entries_are_one.ensures.user heap c.args.offset string (user_text (part heap start count)) is own in
    let units = ap (λ (s : UserText). s.units) same in (
      c.write_units.ensures ∙ ap (with_text c.args.units.now) (sym units),
      omega (arith, ap length units, units_long (part heap start count), part_long heap start count sound.0),
      c.flag_of.ensures ∙ sym (ap (λ (s : UserText). unwrap_or s.flag 256) same),
    )

pub returns-clause-there : goal.returns-clause-there
returns-clause-there c =
    let start = c.in_ok-start.start in
    let count = c.in_ok-start.count in
    let sound = c.in_ok-start.ensures.sound in (
      user_text (part (zero_padded c.args.user.now) start count),
      string_at c.args.user.now c.args.offset start count (λ i. (c.type_inv.user i).fits) sound.0 sound.1 (c.if-not-is_string.ensures.0 refl),
    )
