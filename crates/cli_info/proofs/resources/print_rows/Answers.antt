use Rattle.cli_info.proofs.Prelude.{◌≡◌, ◌+◌, arith, count_in, map-range_with_len_more, ManifestResource, resource_line}
use Rattle.cli_info.proofs.resources.print_rows.Goals as goal

pub loop-earlier-init : goal.loop-earlier-init
loop-earlier-init g c = λ file header model of is locations located. c.lines_follow.ensures.nothing _

pub returns-in_default : goal.returns-in_default
returns-in_default g c = λ file header model of is locations located.
    let row = c.loop-earlier.earlier + 1 in
    absurd (c.in_default.ensures.complete file header model of is (locations row) (located row (omega arith, omega (arith, c.count-earlier-end.ensures.model model is))))

pub loop-earlier-preserved : goal.loop-earlier-preserved
loop-earlier-preserved g c = λ file header model of is locations located.
    let earlier = c.loop-earlier.earlier in
    let row = earlier + 1 in
    let same = c.in-Ok.ensures.complete file header model of is (locations row) (located row (omega arith, omega (arith, c.count-earlier-end.ensures.model model is))) in
    rw (map-range_with_len_more (λ at. resource_line model at (locations at)) 1 earlier row (omega arith))
    (c.lines_follow.ensures.more _ _ _ _ _ (c.loop-earlier.invariant file header model of is locations located) (rw same at (c.print_resource.ensures model is)))

pub returns : goal.returns
returns g c = λ file header model of is locations located.
    let all : count_in model ManifestResource ≡ c.loop-earlier.earlier = omega (arith, c.count-earlier-end.ensures.model model is, c.loop-earlier-test.false) in
    rw all (c.loop-earlier.invariant file header model of is locations located)
