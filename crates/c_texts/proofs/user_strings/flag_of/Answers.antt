use Rattle.c_texts.proofs.Prelude.{ℕ, ◌+◌, ◌-◌, get_or, sym, ap, ◌∙◌, arith, zero_padded}
use Rattle.c_texts.proofs.UserLemmas.{part, part_at, part_long, flag_is}
use Rattle.c_texts.proofs.user_strings.flag_of.Goals as goal

pub returns : goal.returns
returns c =
    let heap = zero_padded c.args.heap.now in
    let start = c.args.start in
    let count = c.args.count in
    let blob = part heap start count in
    let long = part_long heap start count c.requires in
    c.from.ensures ∙ c.byte_at.ensures ∙ part_at heap start count ((start + count) - 1) (count - 1) (omega arith) (omega arith)
    ∙ ap (λ (n : ℕ). get_or blob (n - 1) 0) (sym long) ∙ flag_is blob (omega (arith, long))
