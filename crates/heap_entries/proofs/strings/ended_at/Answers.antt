use Rattle.heap_entries.proofs.Prelude.{length, take, subst, sym, ◌∙◌, ap, arith, length-drop, eq-eqb, eqb-true, NoneBefore, Nowhere, Passes, is_byte, IsEnded}
use Rattle.heap_entries.proofs.TextLemmas.{ended_from, ended_length, nul_behind}
use Rattle.heap_entries.proofs.strings.ended_at.Goals as goal

pub returns-in_err-len-clause-none : goal.returns-in_err-len-clause-none
returns-in_err-len-clause-none c =
    let none = subst (λ l. Nowhere (Passes (is_byte 0) l) 0 (length l)) c.split_at.ensures.back c.in_err-len.ensures in
    rw c.from_residual.ensures (λ bytes stands.
    none (length bytes) (omega arith) (omega (arith, ended_length _ _ bytes stands, length-drop c.args.start c.args.heap.now)) (eq-eqb _ 0 (nul_behind _ _ bytes stands)))

pub returns-clause-sound : goal.returns-clause-sound
returns-clause-sound c =
    let heap = c.args.heap.now in
    let start = c.args.start in
    let len = c.in_ok-len.len in
    let first = subst (λ l. NoneBefore (Passes (is_byte 0) l) 0 (length l) len × Passes (is_byte 0) l len) c.split_at.ensures.back c.in_ok-len.ensures in
    let prefix = c.split_at-2.ensures.front ∙ ap (take len) c.split_at.ensures.back in
    subst (IsEnded heap start) (sym prefix)
    (ended_from heap start len c.if-start-heap.false first.0.high (λ k lt z. first.0.before k (omega arith) lt (eq-eqb _ 0 z)) (eqb-true _ 0 first.1))
