use Rattle.schema.proofs.Prelude.{◌≡◌, ◌∙◌, ap, subst, inl, inr, arith, rules, ℕ, count_by, tables, has_bit, valid_of, NamesTables}
use Rattle.schema.proofs.read.read_valid.Goals as goal

pub returns-then-bytes-counted-clause-reports : goal.returns-then-bytes-counted-clause-reports
returns-then-bytes-counted-clause-reports c =
    let named = subst NamesTables c.u64_at-valid.ensures.value (search rules) in
    let counted : c.counted.result ≡ count_by (has_bit (valid_of c.args.bytes.now)) tables = c.counted.ensures.value ∙ ap (λ (n : ℕ). count_by (has_bit n) tables) c.u64_at-valid.ensures.value in
    inr (omega arith, inr (search rules, inr (search rules, inr (named, inl (λ h. omega arith, c.new-then-bytes-counted.ensures)))))
