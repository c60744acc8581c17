use Rattle.signatures.proofs.Prelude.{◌≡◌, ◌∙◌, ◌&&◌, Bool, true, map, length-append, Option, List, ℕ, refl, sym, ap, rules, subst, arith, map-append, core_at, typed_at, head_is, type_of, slot_of, Fails, view_simple}
use Rattle.sig_grammar.specs.Syntax.{Typed, Slot}
use Rattle.signatures.proofs.Cores.{core_simple}
use Rattle.signatures.proofs.Items.{failed, many_next, many_bad, many_end}
use Rattle.signatures.proofs.Parameters.{still, after_mark, params_next, params_bad, params_end}
use Rattle.signatures.proofs.+build.Goals as goal
use Rattle.signatures.proofs.+build.Goals.{methods::params-then-allowed, methods::params-else-allowed}

pub types::core-returns-in-Some : goal.types::core-returns-in-Some
types::core-returns-in-Some t c =
    let e = core_simple c.args.depth c.in_ok-code.code c.in-Some.element c.args.bytes.now c.in_ok-code.tail.now (omega arith) c.in_ok-code.ensures c.in-Some.ensures in
    rw (e, view_simple c.in-Some.element) refl

pub types::types-returns-in_err-one : goal.types::types-returns-in_err-one
types::types-returns-in_err-one t c =
    let h = subst (λ (o : Option (List Typed × List ℕ)). Fails c.in_err-one.field-0.0 o) c.loop-done.invariant (many_bad c.in_err-one.field-0.0 (typed_at (core_at c.args.depth)) c.args.count c.loop-done.done c.loop-done.tail.now (map type_of c.loop-done.all.items) c.loop-done-test.true c.in_err-one.ensures) in
    failed _ _ _ _ c.from_residual-in_err-one.ensures h

pub types::types-loop-done-preserved : goal.types::types-loop-done-preserved
types::types-loop-done-preserved t c =
    let e = many_next (typed_at (core_at c.args.depth)) c.args.count c.loop-done.done c.loop-done.tail.now c.in_ok-one.next.now (map type_of c.loop-done.all.items) (type_of c.in_ok-one.one) c.loop-done-test.true c.in_ok-one.ensures in
    rw (c.in_ok-push.ensures.items) (simp map-append (sym e ∙ c.loop-done.invariant))

pub types::types-returns : goal.types::types-returns
types::types-returns t c =
    sym c.loop-done.invariant ∙ many_end (typed_at (core_at c.args.depth)) c.args.count c.loop-done.done c.loop-done.tail.now (map type_of c.loop-done.all.items) c.loop-done-test.false

pub methods::params-returns-in_err-one : goal.methods::params-returns-in_err-one
methods::params-returns-in_err-one t c =
    let may : c.if-allowed.sentinel ≡ still c.args.allowed c.loop-done.before = elim c.if-allowed.branch [ methods::params-then-allowed w ↦ search rules | methods::params-else-allowed w ↦ search rules ] in
    let is : c.sentinel-marked.result.0 ≡ (still c.args.allowed c.loop-done.before && head_is 0x41 c.loop-done.tail.now) = c.sentinel-marked.ensures.marked ∙ ap (λ (p : Bool). p && head_is 0x41 c.loop-done.tail.now) may in
    let bad = params_bad (core_at c.args.depth) c.in_err-one.field-0.0 c.args.count c.loop-done.done (still c.args.allowed c.loop-done.before) c.loop-done.before c.sentinel-marked.result.0 c.loop-done.tail.now c.sentinel-marked.result.1.now (map slot_of c.loop-done.all.items) c.loop-done-test.true is c.sentinel-marked.ensures.behind c.in_err-one.ensures in
    let h = subst (λ (o : Option ((List Slot × Option ℕ) × List ℕ)). Fails c.in_err-one.field-0.0 o) c.loop-done.invariant.so_far bad in
    failed _ _ _ _ c.from_residual-in_err-one.ensures h

pub methods::params-loop-done-preserved : goal.methods::params-loop-done-preserved
methods::params-loop-done-preserved t c =
    let may : c.if-allowed.sentinel ≡ still c.args.allowed c.loop-done.before = elim c.if-allowed.branch [ methods::params-then-allowed w ↦ search rules | methods::params-else-allowed w ↦ search rules ] in
    let is : c.sentinel-marked.result.0 ≡ (still c.args.allowed c.loop-done.before && head_is 0x41 c.loop-done.tail.now) = c.sentinel-marked.ensures.marked ∙ ap (λ (p : Bool). p && head_is 0x41 c.loop-done.tail.now) may in
    let e = params_next (core_at c.args.depth) c.args.count c.loop-done.done c.args.allowed c.loop-done.before c.sentinel-marked.result.0 c.loop-done.tail.now c.sentinel-marked.result.1.now c.in_ok-one.next.now (map slot_of c.loop-done.all.items) (slot_of c.in_ok-one.one) c.loop-done-test.true c.loop-done.invariant.count is c.sentinel-marked.ensures.behind c.in_ok-one.ensures in
    let mark : c.or-before.result ≡ after_mark c.loop-done.before c.sentinel-marked.result.0 c.loop-done.done = search rules in
    record {
      so_far = rw (c.in_ok-push.ensures.items, mark) (simp map-append (sym e ∙ c.loop-done.invariant.so_far));
      count = rw (c.in_ok-push.ensures.items) (simp (map-append, length-append) (let count = c.loop-done.invariant.count in omega arith));
    }

pub methods::params-returns : goal.methods::params-returns
methods::params-returns t c =
    sym c.loop-done.invariant.so_far ∙ params_end (core_at c.args.depth) c.args.count c.loop-done.done (still c.args.allowed c.loop-done.before) c.loop-done.before c.loop-done.tail.now (map slot_of c.loop-done.all.items) c.loop-done-test.false
