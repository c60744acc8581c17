use Rattle.schema.proofs.Prelude.{◌≡◌, ℕ, ◌+◌, ◌-◌, ◌*◌, ◌/◌, ◌<◌, ◌≤◌, sym, subst, suc, zero, arith, div-lt_iff_lt-mul, lt-div-mul-add, div-mul-le_self}
use Rattle.schema.proofs.located_cells.row_at.Goals as goal

-- the offset is in the row after this number of rows
record IsInRow (base width count offset rows : ℕ) : Type 0 where
  last : rows < count
  from : base + (rows + 1 - 1) * width ≤ offset
  before : offset < base + (rows + 1 - 1) * width + width

some_width : (count width offset : ℕ) → offset < count * width → 0 < width
some_width count zero offset below = absurd (omega (arith, below))
some_width count (suc width) offset below = omega arith

rows_before : (base start end width wide count offset : ℕ) → start ≡ base + (1 - 1) * width → end ≡ base + (count + 1 - 1) * width → wide ≡ width → start ≤ offset → offset < end
    → IsInRow base width count offset ((offset - start) / wide)
rows_before base start end width wide count offset first past same from before =
    let all : count + 1 - 1 ≡ count = omega arith in
    let behind = rw all at past in
    let within : offset - start < count * width = omega (arith, behind, first, from, before) in
    let some : 0 < width = some_width count width (offset - start) within in
    let rows = (offset - start) / width in
    let own : rows + 1 - 1 ≡ rows = omega arith in
    subst (λ (w : ℕ). IsInRow base width count offset ((offset - start) / w)) (sym same) (record {
      last = (div-lt_iff_lt-mul some).1 within;
      from = rw own (omega (arith, first, from, div-mul-le_self (offset - start) width));
      before = rw own (omega (arith, first, from, lt-div-mul-add {a = offset - start} some));
    })

pub overflow_cast-result : goal.overflow_cast-result
overflow_cast-result c = omega (arith, (rows_before _ _ _ _ _ _ _ c.row_start-start.ensures c.row_start-end.ensures c.row_width.ensures c.if-offset-start.false c.if-end-offset.false).last, c.count.ensures.limit)

pub overflow_add-result : goal.overflow_add-result
overflow_add-result c = omega (arith, (rows_before _ _ _ _ _ _ _ c.row_start-start.ensures c.row_start-end.ensures c.row_width.ensures c.if-offset-start.false c.if-end-offset.false).last, c.count.ensures.limit)

pub returns-clause-sound : goal.returns-clause-sound
returns-clause-sound c =
    let is = rows_before _ _ _ _ _ _ _ c.row_start-start.ensures c.row_start-end.ensures c.row_width.ensures c.if-offset-start.false c.if-end-offset.false in
    record { first = omega arith; last = omega (arith, is.last, c.count.ensures.value); from = is.from; before = is.before }
