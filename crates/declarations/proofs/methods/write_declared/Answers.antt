use Rattle.declarations.proofs.Prelude.{subst, sym, rules, ◌∙◌, ap, WritesInCalls, member_text, Declared, Wrote, IsRowNameBy, ArePiecesText, AreLinksOf, AreParams, IsDeclaredPiece, generic_rows, ok_then}
use Rattle.declarations.proofs.methods.write_declared.Goals as goal

pub returns : goal.returns
returns g c = λ model shown links signature declares name named.
    let took = g.W.Write.write_str_gives in
    let sink = c.new-sink.result in
    let same_links = ap (λ q. q.links) c.new-sink.ensures.params ∙ c.in_ok-params.ensures.links in
    let held_by = subst (λ x. g.S.ReadMetadata.shows x model) (sym (ap (λ q. q.source.now) c.new-sink.ensures.params ∙ c.in_ok-params.ensures.source)) shown in
    let read = subst (λ (d : Declared). AreParams model d.first d.past sink.params.now.rows.items) (sym c.new-sink.ensures.of)
    (subst (λ q. AreParams model c.args.of.first c.args.of.past q.rows.items) (sym c.new-sink.ensures.params) (c.in_ok-params.ensures.rows model shown)) in
    ok_then c.result_of.result c.result_of.ensures (λ whole.
    let did = c.put_declaration.ensures model held_by (subst (λ l. AreLinksOf model l) (sym same_links) links) signature declares read name (subst (λ (d : Declared). IsRowNameBy g.L.Limit.scopes model d.class name) (sym c.new-sink.ensures.of) named) c.new-sink.ensures.ended whole in
    let rows = subst (λ l. Wrote took sink.writer.now (ArePiecesText (IsDeclaredPiece g.L.Limit.scopes model sink.of.class sink.of.name.now sink.of.first sink.of.past (generic_rows l)) (member_text signature)) c.put_declaration.new.sink.writer.now)
    same_links did.1 in
    let text = subst (λ (d : Declared). Wrote took sink.writer.now (ArePiecesText (IsDeclaredPiece g.L.Limit.scopes model d.class d.name.now d.first d.past (generic_rows c.args.links)) (member_text signature)) c.put_declaration.new.sink.writer.now)
    c.new-sink.ensures.of rows in
    let same = sym did.0 in
    let lent = c.new-sink.ensures.same in
    let calls = subst (λ w. WritesInCalls took w text.0 c.put_declaration.new.sink.writer.now) c.new-sink.ensures.writer text.2 in
    (text.0, text.1, subst (λ v. WritesInCalls took c.args.out.now text.0 v) (search rules) calls))
