use Rattle.custom_attributes.proofs.Prelude.{◌∙◌, ◌≡◌, ◌≤◌, ◌-◌, ◌+◌, min, ap, sym, arith, instance_type}
use Rattle.custom_attributes.proofs.TypeLemmas.{no_field, own_field, next_field, last_field}
use Rattle.custom_attributes.proofs.enums.instance_type.Goals as goal

pub loop-done-init : goal.loop-done-init
loop-done-init g c = λ model is.
    let count = c.min-count.result in
    let all : count - 0 ≡ count = omega arith in
    let here : c.args.first + 0 ≡ c.args.first = omega arith in
    ap (λ n. instance_type model n (c.args.first + 0)) all ∙ ap (λ n. instance_type model count n) here

pub returns-then-not-has_row : goal.returns-then-not-has_row
returns-then-not-has_row g c = λ model is.
    let some : 1 ≤ c.min-count.result - c.loop-done.done = omega (arith, c.loop-done-test.true) in
    no_field model (c.min-count.result - c.loop-done.done) (c.args.first + c.loop-done.done) some (sym (c.has_row.ensures.value model is) ∙ c.if-not-has_row.true)
    ∙ c.loop-done.invariant model is ∙ ap (λ n. instance_type model n c.args.first) (c.min-count.ensures ∙ ap (min 16) c.saturating_sub.ensures)

pub returns-then-not-is_static : goal.returns-then-not-is_static
returns-then-not-is_static g c = λ model is.
    let some : 1 ≤ c.min-count.result - c.loop-done.done = omega (arith, c.loop-done-test.true) in
    c.type_of_field.ensures model (c.view.ensures.shown model is)
    ∙ own_field model (c.min-count.result - c.loop-done.done) (c.args.first + c.loop-done.done) some (sym (c.has_row.ensures.value model is) ∙ c.if-not-has_row.false)
    (sym (c.is_static.ensures model is) ∙ c.if-not-is_static.true)
    ∙ c.loop-done.invariant model is ∙ ap (λ n. instance_type model n c.args.first) (c.min-count.ensures ∙ ap (min 16) c.saturating_sub.ensures)

pub loop-done-preserved : goal.loop-done-preserved
loop-done-preserved g c = λ model is.
    let left = c.min-count.result - c.loop-done.done in
    let later = c.min-count.result - (c.loop-done.done + 1) in
    let one : left ≡ later + 1 = omega (arith, c.loop-done-test.true) in
    let next : c.args.first + (c.loop-done.done + 1) ≡ c.args.first + c.loop-done.done + 1 = omega arith in
    ap (λ n. instance_type model later n) next
    ∙ sym (next_field model later left (c.args.first + c.loop-done.done) one (sym (c.has_row.ensures.value model is) ∙ c.if-not-has_row.false) (sym (c.is_static.ensures model is) ∙ c.if-not-is_static.false))
    ∙ c.loop-done.invariant model is

pub returns : goal.returns
returns g c = λ model is.
    let none : c.min-count.result - c.loop-done.done ≡ 0 = omega (arith, c.loop-done-test.false) in
    last_field model (c.min-count.result - c.loop-done.done) (c.args.first + c.loop-done.done) none
    ∙ c.loop-done.invariant model is ∙ ap (λ n. instance_type model n c.args.first) (c.min-count.ensures ∙ ap (min 16) c.saturating_sub.ensures)
