use Rattle.sig_text.proofs.Prelude.{rules, arith, ◌≡◌, ◌<◌, ◌+◌, ◌-◌, refl, ℕ, List, ◌∷◌, ◌++◌, codes, slot_shown, by_ref_shown, core_shown, code_shown, around_shown, enclosed_shown, instance_shown, listed_shown, method_shown, after_element_shown, number_or, before, word, arity_text}
use Rattle.sig_text.proofs.Chains.{and_then, pieces_first, pieces_last, in_turn, start_left, end_left, shut_left}
use Rattle.sig_text.proofs.ShapeShown.{listed_next, listed_end}
use Rattle.sig_text.proofs.types.+text.Goals as goal

pub slot-returns : goal.slot-returns
unfolding slot_shown
slot-returns g t c = rw (← c.behind_all-count.ensures.tail, ← c.behind_all-count.ensures.count) (pieces_last c.content-tail.ensures c.marks.ensures)

pub by_ref-returns : goal.by_ref-returns
unfolding by_ref_shown
by_ref-returns g t c = rw (← c.behind_all-marked.ensures.tail, ← c.behind_all-marked.ensures.count, ← c.byte-code.ensures) (pieces_last c.core-tail.ensures (and_then c.marks.ensures c.put_text.ensures))

pub coded-returns-in-22 : goal.coded-returns-in-22
unfolding code_shown
coded-returns-in-22 g t c = rw c.in-22.is c.word-in-22.ensures

pub around-returns : goal.around-returns
unfolding around_shown
around-returns g t c = in_turn (after_element_shown c.args.code) c.slot-tail.ensures c.after_element.ensures

pub listed-loop-done-init : goal.listed-loop-done-init
listed-loop-done-init g t c = let e : c.args.count - 0 ≡ c.args.count = omega arith in start_left (rw e refl)

pub listed-loop-done-preserved : goal.listed-loop-done-preserved
listed-loop-done-preserved g t c =
    let lt : 0 < c.args.count - c.loop-done.done = omega arith in
    let less : c.args.count - (c.loop-done.done + 1) ≡ c.args.count - c.loop-done.done - 1 = omega arith in
    record {
      goes = λ new after end h. c.loop-done.invariant.goes new after end
          (rw (listed_next (core_shown c.args.depth) (before (codes ", ") c.loop-done.done) (c.args.count - c.loop-done.done) c.loop-done.done c.loop-done.tail.now lt, ← c.sentinel-found.ensures.behind, ← c.sentinel-found.ensures.marked, ← less)
          (pieces_first c.put_if.ensures (pieces_first c.put_if-in-loop-done.ensures (in_turn (listed_shown (core_shown c.args.depth) (before (codes ", ") (c.loop-done.done + 1)) (c.args.count - (c.loop-done.done + 1))) c.slot-tail.ensures h))));
    }

pub listed-returns : goal.listed-returns
listed-returns g t c =
    let e : c.args.count - c.loop-done.done ≡ 0 = omega arith in
    end_left (listed_end (core_shown c.args.depth) (before (codes ", ") c.loop-done.done) (c.args.count - c.loop-done.done) c.loop-done.tail.now e) c.loop-done.invariant

pub listed-returns-then-not-taken : goal.listed-returns-then-not-taken
listed-returns-then-not-taken g t c = shut_left c.loop-done.tail.now (search rules) c.loop-done.invariant

pub enclosed-returns : goal.enclosed-returns
unfolding enclosed_shown
enclosed-returns g t c = pieces_first c.put_text.ensures (pieces_last c.listed-tail.ensures c.put_text-2.ensures)

pub instance-returns : goal.instance-returns
unfolding instance_shown
instance-returns g t c =
    let core = core_shown c.args.depth in
    rw (← c.byte-code.ensures)
    (in_turn (λ (b : List ℕ). enclosed_shown core (codes "<") (codes ">") (number_or b).0 (number_or b).1) c.named-tail.ensures (rw (← c.number-count.ensures) c.enclosed.ensures))

pub method-returns : goal.method-returns
unfolding method_shown
method-returns g t c =
    let params = enclosed_shown (core_shown c.args.depth) (codes "(") (codes ")") c.number-count.result.0 in
    rw (← c.byte-code.ensures, ← c.generic-generic.ensures, ← c.number-count.ensures)
    (pieces_first c.put_text.ensures (pieces_first c.convention.ensures
    (in_turn (λ (b : List ℕ). (word (codes " *") ∷ (arity_text c.generic-generic.result.0 ++ (params b).0), (params b).1)) c.slot-tail.ensures
    (pieces_first c.put_text-2.ensures (pieces_first c.arity.ensures c.enclosed.ensures)))))
