use Rattle.navigation.proofs.Prelude.{◌+◌, ◌<◌, ltb, leb, ltb-true, ltb-false, leb-true, leb-false, List, ap, arith, rules, subst, sym, IsNonDecreasingBy, IsNonDecreasingBy-drop, IsPartitionPoint-from_clause, IsPartitionedBy-leb, IsPartitionedBy-ltb, KeyedRow, key_of}
use Rattle.navigation.proofs.KeyedLemmas.{keyed_found}
use Rattle.navigation.proofs.keyed.with_key.Goals as goal

pub returns : goal.returns
returns c =
    let rows = c.args.rows.now in
    let key = c.args.key in
    let i = c.partition_point.result in
    let j = c.partition_point-2.result in
    let split = c.split_at.ensures in
    let again = c.split_at-2.ensures in
    let from = c.split_at.result.1.now in
    let order = subst (λ (xs : List KeyedRow). IsNonDecreasingBy key_of xs) (sym split.back) (IsNonDecreasingBy-drop key_of i rows c.requires) in
    let low = IsPartitionPoint-from_clause (λ p. ltb p.key key) rows i c.partition_point.ensures.partitioned (IsPartitionedBy-ltb key_of rows key c.requires) (λ a r q k. search rules) in
    let high = IsPartitionPoint-from_clause (λ p. leb p.key key) from j c.partition_point-2.ensures.partitioned (IsPartitionedBy-leb key_of from key order) (λ a r q k. search rules) in
    let front_len = split.front_len in
    let back_len = split.back_len in
    let found_len = again.front_len in
    let left_len = again.back_len in
    keyed_found rows _ from _ _ key split.by_index.0 again.by_index.0
    (λ k d lt.
    let within : k < i = omega (arith, lt, front_len) in
    let at = ap key_of (split.by_index.1 k d within) in
    let small = ltb-true _ key (low.0 k d (omega arith) within) in
    omega (arith, at, small))
    (λ k d lt.
    let within : k < j = omega (arith, lt, found_len) in
    let here = ap key_of (again.by_index.1 k d within) in
    let at = ap key_of (split.by_index.2 k d) in
    let least = ltb-false _ key (low.1 (i + k) d (omega arith) (omega (arith, within, back_len, left_len))) in
    let most = leb-true _ key (high.0 k d (omega arith) within) in
    omega (arith, here, at, least, most))
    (λ k d lt.
    let at = ap key_of (again.by_index.2 k d) in
    let large = leb-false _ key (high.1 (j + k) d (omega arith) (omega (arith, lt, left_len))) in
    omega (arith, at, large))
