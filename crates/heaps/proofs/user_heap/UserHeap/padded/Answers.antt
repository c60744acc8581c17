use Rattle.heaps.proofs.Prelude.{◌≡◌, ◌-◌, ◌++◌, List, ℕ, length, replicate, ap, ◌∙◌, arith, zero_padded}
use Rattle.heaps.proofs.UserHeapLemmas.{take_zeros, padded_is}
use Rattle.heaps.proofs.user_heap.UserHeap.padded.Goals as goal

pub returns-in-Ok-clause-ok : goal.returns-in-Ok-clause-ok
returns-in-Ok-clause-ok c =
    let low = c.next_multiple_of-len.ensures.lower_bound in
    let high = c.next_multiple_of-len.ensures.upper_bound in
    let multiple = c.next_multiple_of-len.ensures.multiple in
    let len = c.len.ensures in
    let again = c.len-2.ensures in
    let most = c.max.ensures in
    let known = c.self.inside.bytes.ok.0 in
    let n = c.next_multiple_of-len.result in
    let old = c.self.inside.bytes.items in
    let short : n - c.len-2.result ≡ n - length old = omega arith in
    c.in-Ok.ensures.items
    ∙ ap (λ (l : List ℕ). old ++ l) (take_zeros (n - c.len-2.result) (omega arith) ∙ ap (λ k. replicate {A = ℕ} k 0) short)
    ∙ padded_is old n (omega arith) (omega arith) multiple ∙ ap zero_padded c.self.view_is
