use Rattle.cli_declarations.proofs.Prelude.{string_bytes, ◌++◌, [], append-nil, append_assoc, length, sym, cut_text}
use Rattle.full_names.specs.declared.limit.Scopes.TheVariants.{Written}
use Rattle.type_heads.specs.Heads.{IsInHead}
use Rattle.type_heads.proofs.HeadLemmas.{enclosed_none, enclosed_some, is_none, is_some, listed_none}
use Rattle.cli_declarations.proofs.PieceLemmas.{on_ok, was_ok}
use Rattle.cli_declarations.proofs.TextLemmas.{cut}
use Rattle.cli_declarations.proofs.linked.push_listed.Goals as goal

pub returns-then-is_empty : goal.returns-then-is_empty
returns-then-is_empty c = λ model is.
    let rows = c.linked-rows.result.now in
    let none = is_none (length rows) c.is_empty.result c.is_empty.ensures c.if-is_empty.true in
    rw (← c.linked-rows.ensures.rows model is c.args.token c.number_to.ensures) (
      [],
      ([], listed_none (IsInHead Written model c.args.link) [] rows none, sym (enclosed_none c.args.before.now c.args.after.now (cut_text []) rows none)),
      sym (append-nil (string_bytes c.args.declared.now.text)),
    )

pub returns : goal.returns
returns c = λ model is.
    let rows = c.linked-rows.result.now in
    let word = c.args.before.now in
    let last = c.args.after.now in
    let wrote = was_ok c.write_items-written.result c.in_ok-end_text.ensures.0 (c.write_items-written.ensures model is) in
    let items = cut_text wrote.0 in
    let e = cut c.push_plain.new.declared c.begin_text.new.declared c.write_items-written.new.out c.end_text.new.declared wrote.0 c.begin_text.ensures wrote.2 c.in_ok-end_text.ensures.1 in
    let some = is_some (length rows) c.is_empty.result c.is_empty.ensures c.if-is_empty.false in
    rw (← c.linked-rows.ensures.rows model is c.args.token c.number_to.ensures) (on_ok c.push_plain-2.result c.push_plain-2.ensures (λ end_is. (
      word ++ (items ++ last),
      (wrote.0, wrote.1, sym (enclosed_some word last items rows some)),
      simp append_assoc at (rw (e, c.in_ok-push_plain.ensures) at end_is),
    )))
