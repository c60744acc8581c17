use Rattle.embedding.proofs.Prelude.{◌≡◌, ◌∙◌, ◌-◌, ◌≤◌, ℕ, List, ◌++◌, length, take, replicate, vec_len, ap, arith, take_all, target_in}
use Rattle.embedding.proofs.plan.EmbedPlan.make.Goals as goal

-- the bytes that stay, and zeros up to a length
padded_to : (file : List ℕ) (kept len all count : ℕ) → all ≡ len → kept ≤ len → length (take kept file) ≡ kept → count ≡ kept
    → take all (take kept file) ++ replicate (all - count) 0 ≡ take kept file ++ replicate (len - kept) 0
padded_to file kept len all count same within long counted =
    ap (λ (l : List ℕ). l ++ replicate (all - count) 0) (take_all all (take kept file) (omega (arith, long)))
    ∙ ap (λ (n : ℕ). take kept file ++ replicate n 0) (omega (arith, counted))

pub put_changes-requires-clause-long : goal.put_changes-requires-clause-long
put_changes-requires-clause-long c =
    omega (arith, ap length c.deref_mut.ensures.value, c.in_ok-resize.ensures.len, c.len-2.ensures.value, c.kept.ensures.whole)

pub put_changes-requires-clause-copied : goal.put_changes-requires-clause-copied
put_changes-requires-clause-copied c =
    let plan = c.args.self.now in
    let all = c.len-2.result in
    let extended : c.extend_from_slice.new.self.items ≡ c.kept.result.now =
    c.in_ok-extend_from_slice.ensures.items ∙ ap (λ (l : List ℕ). l ++ c.kept.result.now) c.in_ok-bytes.ensures.items in
    let count = vec_len c.extend_from_slice.new.self in
    let counted : count ≡ (target_in plan).kept = omega (arith, c.in_ok-extend_from_slice.ensures.len, c.in_ok-bytes.ensures.len, c.kept.ensures.length) in
    c.deref_mut.ensures.value
    ∙ c.in_ok-resize.ensures.items
    ∙ ap (λ (l : List ℕ). take all l ++ replicate (all - count) 0) (extended ∙ c.kept.ensures.bytes)
    ∙ padded_to plan.file (target_in plan).kept (target_in plan).len all count (c.len-2.ensures.value ∙ c.kept.ensures.whole) c.kept.ensures.within
    (omega (arith, ap length c.kept.ensures.bytes, c.kept.ensures.length)) counted
