use Rattle.custom_attributes.proofs.TextPrelude.{◌∙◌, ◌++◌, append-nil, append_assoc, List, [], ℕ, ap, refl, subst, sym, WritesInCalls, Item, view, item_text, items_text, writes_append, writes_nothing, writes_once}
use Rattle.custom_attributes.proofs.values.write_items.Goals as goal

pub loop-item-init : goal.loop-item-init
loop-item-init g c = ([], writes_nothing g.W.Write.write_str_gives c.args.out.now, ap (items_text 0) c.into_iter-item-iterator.ensures.into_iter_gives)

-- the other items are passed over
pub returns-then-is_reached : goal.returns-then-is_reached
returns-then-is_reached g c =
    let took = g.W.Write.write_str_gives in
    let before = c.loop-item.invariant in
    let out = c.loop-item.out in
    let tail = items_text c.loop-item.left c.loop-item.item-iterator in
    subst (λ (t : List ℕ). WritesInCalls took c.args.out.now t out) before.2
    (writes_append took c.args.out.now before.0 out tail out before.1 (writes_once took out tail out (c.if-is_reached.ensures refl tail)))

pub loop-item-preserved : goal.loop-item-preserved
unfolding items_text
loop-item-preserved g c =
    let took = g.W.Write.write_str_gives in
    let before = c.loop-item.invariant in
    let left = c.loop-item.left in
    let item = view c.in-Some.item in
    let later = c.next.new.self in
    let text = item_text left item in (
      before.0 ++ text,
      writes_append took c.args.out.now before.0 c.loop-item.out text c.write_item.new.out before.1 c.in_ok-write_item.ensures,
      append_assoc before.0 text (items_text c.left_after-left.result later)
          ∙ ap (λ n. before.0 ++ (text ++ items_text n later)) c.left_after-left.ensures
          ∙ ap (λ (items : List Item). before.0 ++ items_text left items) (sym c.in-Some.ensures.steps)
          ∙ before.2,
    )

pub returns : goal.returns
unfolding items_text
returns g c =
    let took = g.W.Write.write_str_gives in
    let before = c.loop-item.invariant in
    subst (λ (t : List ℕ). WritesInCalls took c.args.out.now t c.loop-item.out)
    (sym (append-nil before.0) ∙ ap (λ (items : List Item). before.0 ++ items_text c.loop-item.left items) (sym c.in-None.ensures.steps.0) ∙ before.2) before.1
