use Rattle.checks.proofs.Prelude.{◌≡◌, ◌≢◌, ℕ, ◌+◌, ◌*◌, ◌≤◌, ◌<◌, ◌/◌, List, ◌∷◌, ◌++◌, length, slice_index, ap, sym, subst, ◌∙◌, arith, div-add-mod', mod_below, mul-le, AreStarts, Reaches}
use Rattle.std.proofs.lemmas.List.{length-set, length-append, get_or-set_other}
use Rattle.checks.proofs.TextLemmas.{starts_set, part_reached, ending_reaches}
use Rattle.checks.proofs.texts.keep_endings.Goals as goal
use Rattle.checks.proofs.texts.keep_endings.Goals.{in-Some, in_default}

-- a part that a text reaches is in the heap
part_within : (heap : List ℕ) (index part reach later : ℕ) → Reaches heap index reach → later < reach / part → later * part + part ≤ length heap
part_within heap index part reach later reaches below =
    let is = reaches.ended in
    omega (arith, part_reached later part reach below, reaches.long, is.at, ap length is.whole, length-append is.before (reaches.text ++ 0 ∷ is.after), length-append reaches.text (0 ∷ is.after))

pub overflow_mul-begin : goal.overflow_mul-begin
overflow_mul-begin c = omega (arith, part_within c.args.heap.now c.args.index c.args.part c.args.reach c.loop-later.later c.requires.reaches (omega (arith, c.loop-later.auto.later-end)))

pub overflow_add-begin : goal.overflow_add-begin
overflow_add-begin c = omega (arith, part_within c.args.heap.now c.args.index c.args.part c.args.reach c.loop-later.later c.requires.reaches (omega (arith, c.loop-later.auto.later-end)))

pub first_character-requires : goal.first_character-requires
first_character-requires c = part_within c.args.heap.now c.args.index c.args.part c.args.reach c.loop-later.later c.requires.reaches (omega (arith, c.loop-later.auto.later-end))

pub loop-later-preserved : goal.loop-later-preserved
loop-later-preserved c =
    let heap = c.args.heap.now in
    let part = c.args.part in
    let slot = c.args.index / part in
    let later = c.loop-later.later in
    let end : (later + 1) * part ≤ c.args.reach = part_reached later part c.args.reach (omega (arith, c.loop-later.auto.later-end)) in
    let are : AreStarts heap part c.match-first_character.starts = elim c.match-first_character.branch [
      | in-Some w ↦
          let start = w.in-Some.start in
          let order = mul-le (slot + 1) part later part (omega (arith, c.loop-later.auto.later)) (omega arith) in
          let behind : c.args.index ≤ start =
          omega (arith, order, w.in-Some.ensures.0, div-add-mod' c.args.index part, mod_below c.args.index part (omega (arith, c.requires.part))) in
          let within : later < length c.loop-later.starts = omega (arith, c.match-first_character.array_long, ap length w.starts-is, length-set {A = ℕ}, c.loop-later.auto.later-end) in
          subst (AreStarts heap part) (sym w.starts-is) (starts_set heap part c.loop-later.starts later start c.loop-later.invariant.are within w.in-Some.ensures.0
          (ending_reaches heap c.args.index c.args.reach c.requires.reaches start ((later + 1) * part) behind (omega (arith, w.in-Some.ensures.1)) end w.in-Some.ensures.2))
      | in_default w ↦ subst (AreStarts heap part) (sym w.starts-is) c.loop-later.invariant.are
    ] in
    let same : slice_index c.match-first_character.starts slot ≡ slice_index c.args.starts.now slot = elim c.match-first_character.branch [
      | in-Some w ↦
          let other : slot ≢ later = omega (arith, c.loop-later.auto.later) in
          ap (λ (l : List ℕ). slice_index l slot) w.starts-is ∙ get_or-set_other c.loop-later.starts later slot w.in-Some.start 0 other ∙ c.loop-later.invariant.same
      | in_default w ↦ ap (λ (l : List ℕ). slice_index l slot) w.starts-is ∙ c.loop-later.invariant.same
    ] in
    record { are = are; same = same }
