use Rattle.file_ranges.proofs.Prelude.{◌+◌, ◌-◌, ◌/◌, length, byte_at, sym, ◌∙◌, arith, refl, cond-true, cond-false, eq-eqb, le-ltb, lt-ltb, ne_eqb}
use Rattle.file_ranges.proofs.BodyLemmas.{next, none_left}
use Rattle.file_ranges.proofs.bodies.data_end.Goals as goal

pub returns : goal.returns
returns c = sym (none_left c.args.bytes.now (64 - c.loop-number.number) c.loop-number.end (omega arith)) ∙ c.loop-number.invariant.1

pub returns-then-bytes-start : goal.returns-then-bytes-start
returns-then-bytes-start c =
    sym (next c.args.bytes.now (64 - c.loop-number.number) (64 - (c.loop-number.number + 1)) c.loop-number.end _ _ (omega arith) c.section_start-start.ensures refl ∙ cond-true _ _ _ (lt-ltb (length c.args.bytes.now) (c.section_start-start.result + 4) (omega arith))) ∙ c.loop-number.invariant.1

pub returns-then-size-lt-DATA_HEADER : goal.returns-then-size-lt-DATA_HEADER
returns-then-size-lt-DATA_HEADER c =
    sym (next c.args.bytes.now (64 - c.loop-number.number) (64 - (c.loop-number.number + 1)) c.loop-number.end _ _ (omega arith) c.section_start-start.ensures c.data_size-size.ensures.size
    ∙ cond-false _ _ _ (le-ltb (length c.args.bytes.now) (c.section_start-start.result + 4) (omega arith)) ∙ cond-true _ _ _ (lt-ltb c.data_size-size.result 4 (omega arith))) ∙ c.loop-number.invariant.1

pub returns-then-kind-eq0 : goal.returns-then-kind-eq0
returns-then-kind-eq0 c =
    sym (next c.args.bytes.now (64 - c.loop-number.number) (64 - (c.loop-number.number + 1)) c.loop-number.end _ _ (omega arith) c.section_start-start.ensures c.data_size-size.ensures.size
    ∙ cond-false _ _ _ (le-ltb (length c.args.bytes.now) (c.section_start-start.result + 4) (omega arith)) ∙ cond-false _ _ _ (le-ltb c.data_size-size.result 4 (omega arith)) ∙ cond-true _ _ _ (eq-eqb (byte_at c.args.bytes.now c.section_start-start.result / 0x80) 0 (omega (arith, c.byte_at-kind.ensures))))
    ∙ c.loop-number.invariant.1

pub loop-number-preserved : goal.loop-number-preserved
loop-number-preserved c = (
  omega arith,
  sym (next c.args.bytes.now (64 - c.loop-number.number) (64 - (c.loop-number.number + 1)) c.loop-number.end _ _ (omega arith) c.section_start-start.ensures c.data_size-size.ensures.size
      ∙ cond-false _ _ _ (le-ltb (length c.args.bytes.now) (c.section_start-start.result + 4) (omega arith)) ∙ cond-false _ _ _ (le-ltb c.data_size-size.result 4 (omega arith)) ∙ cond-false _ _ _ (ne_eqb (byte_at c.args.bytes.now c.section_start-start.result / 0x80) 0 (λ last. omega (arith, c.byte_at-kind.ensures, last))))
      ∙ c.loop-number.invariant.1,
)
