use Rattle.heaps.proofs.Prelude.{◌++◌, List, ℕ, length, inl, inr, refl, ap, ◌∙◌, arith, err_from_is_err_and, user_entry}
use Rattle.heaps.proofs.BytesLemmas.{length-begun}
use Rattle.heaps.proofs.UserHeapLemmas.{pushed_lengths}
use Rattle.heaps.proofs.user_heap.UserHeap.push.Goals as goal

pub returns-then-start-unsigned_len-clause-full : goal.returns-then-start-unsigned_len-clause-full
returns-then-start-unsigned_len-clause-full c =
    let lengths = pushed_lengths c.self.inside.bytes.items c.args.self.now c.args.units.now c.len.result c.max-start.result c.unsigned_len.result (c.len.ensures ∙ c.self.inside.bytes.ok.0) c.max-start.ensures c.self.view_is c.unsigned_len.ensures in
    let past = c.if-start-unsigned_len.true in
    (λ _. inr (omega arith), λ _. refl)

pub returns-in_err-append_user_string-clause-full : goal.returns-in_err-append_user_string-clause-full
returns-in_err-append_user_string-clause-full c =
    let lengths = pushed_lengths c.self.inside.bytes.items c.args.self.now c.args.units.now c.len.result c.max-start.result c.unsigned_len.result (c.len.ensures ∙ c.self.inside.bytes.ok.0) c.max-start.ensures c.self.view_is c.unsigned_len.ensures in
    let room = c.if-start-unsigned_len.false in
    let few = c.if-units.false in
    let fits = c.self.invariant.fits in
    let same = ap length c.self.view_is in
    let p = err_from_is_err_and c.from_residual.result c.from_residual.ensures.1 in
    rw (p.1, p.2) (λ full. cc, λ past. absurd (elim past [ inl big ↦ omega arith | inr long ↦ omega arith ]))

pub invariant_of-self-2 : goal.invariant_of-self-2
invariant_of-self-2 c =
    let lengths = pushed_lengths c.self.inside.bytes.items c.args.self.now c.args.units.now c.len.result c.max-start.result c.unsigned_len.result (c.len.ensures ∙ c.self.inside.bytes.ok.0) c.max-start.ensures c.self.view_is c.unsigned_len.ensures in
    let room = c.if-start-unsigned_len.false in
    let fits = c.self.invariant.fits in
    let same = ap (λ (l : List ℕ). length (l ++ user_entry c.args.units.now)) c.self.view_is in
    let whole = ap length c.in_ok-append_user_string.ensures.ok in
    let begins = length-begun c.append_user_string.new.bytes.items in
    record { fits = omega arith }

pub returns-clause-full : goal.returns-clause-full
returns-clause-full c =
    let lengths = pushed_lengths c.self.inside.bytes.items c.args.self.now c.args.units.now c.len.result c.max-start.result c.unsigned_len.result (c.len.ensures ∙ c.self.inside.bytes.ok.0) c.max-start.ensures c.self.view_is c.unsigned_len.ensures in
    let room = c.if-start-unsigned_len.false in
    let few = c.if-units.false in
    let fits = c.self.invariant.fits in
    let same = ap length c.self.view_is in
    (λ full. cc, λ past. absurd (elim past [ inl big ↦ omega arith | inr long ↦ omega arith ]))
