use Rattle.cli_info.proofs.Prelude.{◌≡◌, ◌+◌, arith, count_in, identity_line, map-range_with_len_more}
use Rattle.cli_info.proofs.identities.print_identities.Goals as goal

pub loop-earlier-init : goal.loop-earlier-init
loop-earlier-init g c = λ model is. c.lines_follow.ensures.nothing _

pub loop-earlier-preserved : goal.loop-earlier-preserved
loop-earlier-preserved g c = λ model is.
    let earlier = c.loop-earlier.earlier in
    rw (map-range_with_len_more (identity_line c.args.kind model) 1 earlier (earlier + 1) (omega arith))
    (c.lines_follow.ensures.more _ _ _ _ _ (c.loop-earlier.invariant model is) (c.print_identity.ensures model is))

pub returns : goal.returns
returns g c = λ model is.
    let all : count_in model c.shape-table.result.0 ≡ c.loop-earlier.earlier = omega (arith, c.count-earlier-end.ensures.model model is, c.loop-earlier-test.false) in
    rw (← c.shape-table.ensures.table, all) (c.loop-earlier.invariant model is)
