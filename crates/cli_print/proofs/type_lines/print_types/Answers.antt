use Rattle.cli_print.proofs.Prelude.{◌≡◌, ◌+◌, ◌∙◌, arith, TypeDef, count_in, type_line}
use Rattle.std.proofs.lemmas.List.FromFn.{map-range_with_len_more}
use Rattle.cli_print.proofs.type_lines.print_types.Goals as goal

pub loop-earlier-init : goal.loop-earlier-init
loop-earlier-init g c = record { same = c.new-cells.ensures; lines = λ model is. c.lines_follow.ensures.nothing _ }

pub loop-earlier-preserved : goal.loop-earlier-preserved
loop-earlier-preserved g c = record {
  same = c.print_type.ensures.same ∙ c.loop-earlier.invariant.same;
  lines = λ model is.
      let earlier = c.loop-earlier.earlier in
      rw (map-range_with_len_more (type_line model) 1 earlier (earlier + 1) (omega arith))
      (c.lines_follow.ensures.more _ _ _ _ _ (c.loop-earlier.invariant.lines model is) (c.print_type.ensures.line model (rw c.loop-earlier.invariant.same is)));
}

pub returns : goal.returns
returns g c = λ model is.
    let all : count_in model TypeDef ≡ c.loop-earlier.earlier = omega (arith, c.count-earlier-end.ensures.model model is, c.loop-earlier-test.false) in
    rw all (c.loop-earlier.invariant.lines model is)
