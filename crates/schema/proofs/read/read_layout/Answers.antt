use Rattle.schema.proofs.Prelude.{◌≡◌, ℕ, ◌+◌, ◌*◌, ◌≤◌, ◌∙◌, ap, sym, subst, refl, inl, length, arith, err_from_is_err_and, count_by, TablesShort, rules_from, fault, all_append, fails_prefix, fails_back, tables, header_size, tables_end, has_bit, sizes_of, rules_of_header, rules_of_count_at, rules_of_tables, AreFew}
use Rattle.schema.proofs.HeaderLemmas.{same_sizes, few_from}
use Rattle.schema.proofs.read.read_layout.Goals as goal

pub returns-in_err-valid-clause-reports : goal.returns-in_err-valid-clause-reports
returns-in_err-valid-clause-reports c =
    let p = err_from_is_err_and c.from_residual.result c.from_residual.ensures.1 in
    rw (p.1, p.2) (fails_prefix (rules_of_header c.args.bytes.now) _ c.in_err-valid.field-0.0 c.in_err-valid.ensures.reports)

pub returns-in_err-counts-clause-reports : goal.returns-in_err-counts-clause-reports
returns-in_err-counts-clause-reports c =
    let p = err_from_is_err_and c.from_residual-in_err-counts.result c.from_residual-in_err-counts.ensures.1 in
    rw (p.1, p.2) (fails_back (rules_of_header c.args.bytes.now) _ _ c.in_ok-valid.ensures.reports
    (fails_prefix (rules_from (rules_of_count_at c.args.bytes.now) 0 38) (rules_of_tables c.args.bytes.now) _ c.in_err-counts.ensures.reports))

pub new-layout-requires : goal.new-layout-requires
new-layout-requires c =
    let body : 24 + 4 * c.counted.result ≡ (sizes_of c.args.bytes.now).body =
    ap header_size (c.counted.ensures.value ∙ ap (λ (n : ℕ). count_by (has_bit n) tables) c.in_ok-valid.ensures.valid) in
    subst AreFew (sym (same_sizes _ (sizes_of c.args.bytes.now) c.in_ok-counts.ensures.counts refl c.u64_at.ensures.value body)) (few_from c.args.bytes.now c.in_ok-counts.ensures.reports)

pub returns-then-end-bytes-clause-reports : goal.returns-then-end-bytes-clause-reports
returns-then-end-bytes-clause-reports c =
    let bytes = c.args.bytes.now in
    let body : 24 + 4 * c.counted.result ≡ (sizes_of bytes).body =
    ap header_size (c.counted.ensures.value ∙ ap (λ (n : ℕ). count_by (has_bit n) tables) c.in_ok-valid.ensures.valid) in
    let layout = c.new-layout.ensures ∙ same_sizes _ (sizes_of bytes) c.in_ok-counts.ensures.counts refl c.u64_at.ensures.value body in
    let end : c.end.result ≡ tables_end (sizes_of bytes) = c.end.ensures ∙ ap tables_end layout in
    fails_back (rules_of_header bytes) _ _ c.in_ok-valid.ensures.reports
    (fails_back (rules_from (rules_of_count_at bytes) 0 38) (rules_of_tables bytes) _ c.in_ok-counts.ensures.reports
    (inl (λ within. omega arith, c.new.ensures ∙ ap (fault TablesShort) body)))

pub returns-clause-reports : goal.returns-clause-reports
returns-clause-reports c =
    let bytes = c.args.bytes.now in
    let body : 24 + 4 * c.counted.result ≡ (sizes_of bytes).body =
    ap header_size (c.counted.ensures.value ∙ ap (λ (n : ℕ). count_by (has_bit n) tables) c.in_ok-valid.ensures.valid) in
    let layout = c.new-layout.ensures ∙ same_sizes _ (sizes_of bytes) c.in_ok-counts.ensures.counts refl c.u64_at.ensures.value body in
    let end : c.end.result ≡ tables_end (sizes_of bytes) = c.end.ensures ∙ ap tables_end layout in
    let within : tables_end (sizes_of bytes) ≤ length bytes = omega arith in
    all_append (rules_of_header bytes) _ c.in_ok-valid.ensures.reports
    (all_append (rules_from (rules_of_count_at bytes) 0 38) (rules_of_tables bytes) c.in_ok-counts.ensures.reports (within, tt))

pub returns-clause-layout : goal.returns-clause-layout
returns-clause-layout c =
    let bytes = c.args.bytes.now in
    let body : 24 + 4 * c.counted.result ≡ (sizes_of bytes).body =
    ap header_size (c.counted.ensures.value ∙ ap (λ (n : ℕ). count_by (has_bit n) tables) c.in_ok-valid.ensures.valid) in
    c.new-layout.ensures ∙ same_sizes _ (sizes_of bytes) c.in_ok-counts.ensures.counts refl c.u64_at.ensures.value body
