use Rattle.cli_roots.proofs.Prelude.{◌∷◌, [], ◌∙◌, ◌+◌, drop, get_or, map, sym, drop_all, drop_more, IsThere, Version, difference_line}
use Rattle.std.proofs.lemmas.List.Elements.{All-get_or}
use Rattle.cli_roots.proofs.differences.print_differences.Goals as goal

pub loop-difference-init : goal.loop-difference-init
loop-difference-init g c = record {
  one = c.new-one.ensures;
  other = c.new-other.ensures;
  lines = λ model other is also. c.reports_are_completed.ensures.start _ _;
}

pub print_difference-requires : goal.print_difference-requires
print_difference-requires g c =
    rw (c.loop-difference.invariant.one, c.loop-difference.invariant.other)
    (All-get_or (IsThere c.args.left.now c.args.right.now) c.args.found.now c.loop-difference.difference-index Version c.loop-difference-test.true c.requires)

pub loop-difference-preserved : goal.loop-difference-preserved
loop-difference-preserved g c = record {
  one = c.print_difference.ensures.left ∙ c.loop-difference.invariant.one;
  other = c.print_difference.ensures.right ∙ c.loop-difference.invariant.other;
  lines = λ model other is also.
      let all = c.args.found.now in
      let index = c.loop-difference.difference-index in
      let line = difference_line model other in
      c.reports_are_completed.ensures.more _ _ _ (line (get_or all index Version) ∷ []) (map line (drop (index + 1) all)) (map line all)
      (rw (drop_more all index Version c.loop-difference-test.true) at (c.loop-difference.invariant.lines model other is also))
      (c.print_difference.ensures.line model other (rw (← c.loop-difference.invariant.one) at is) (rw (← c.loop-difference.invariant.other) at also));
}

pub returns : goal.returns
returns g c = λ model other is also.
    rw (sym c.is_empty.ensures ∙ c.if-is_empty.false)
    (c.reports_are_completed.ensures.all _ _ _ (rw (drop_all c.loop-difference.difference-index c.args.found.now c.loop-difference-test.false) at (c.loop-difference.invariant.lines model other is also)))
