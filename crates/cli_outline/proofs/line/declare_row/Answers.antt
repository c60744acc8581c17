use Rattle.cli_outline.proofs.Prelude.{[], append-nil, codes, inl, inr, refl, sym, string_bytes, Decides-at}
use Rattle.cli_names.proofs.ChosenLemmas.{some_decides}
use Rattle.cli_outline.proofs.line.declare_row.Goals as goal

pub returns-in_ok-push_str : goal.returns-in_ok-push_str
returns-in_ok-push_str c = λ model is.
    let same = (Decides-at _ _ c.eq.ensures (some_decides c.args.source.now.options.entry c.args.token)).0 c.if-eq.true in
    (string_bytes c.declare.new.declared.text, codes " .entrypoint", c.in_ok-declare.ensures model is, inl (same, refl), c.in_ok-push_str.ensures.bytes)

pub returns-else-eq : goal.returns-else-eq
returns-else-eq c = λ model is.
    let decides = Decides-at _ _ c.eq.ensures (some_decides c.args.source.now.options.entry c.args.token) in
    let text = string_bytes c.declare.new.declared.text in
    (text, [], c.in_ok-declare.ensures model is, inr ((λ same. let yes = decides.1 same in let no = c.if-eq.false in absurd cc), refl), sym (append-nil text))
