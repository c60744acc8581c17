use Rattle.declarations.proofs.Prelude.{writes_same, library_text, quoted_text, ◌≡◌, ◌∙◌, ◌++◌, ◌⊎◌, inl, inr, false, length, refl, sym, codes, ◌==◌}
use Rattle.declarations.proofs.DescriptorLemmas.{library_there, writes_then}
use Rattle.declarations.proofs.descriptors.write_library.Goals as goal
use Rattle.declarations.proofs.descriptors.write_library.Goals.{else-is_empty-via-then-is_empty+else-is_empty-2, else-is_empty-via-else-is_empty}

pub returns : goal.returns
returns g c =
    let took = g.W.Write.write_str_gives in
    let guid = quoted_text c.args.guid.now in
    let unmanaged = quoted_text c.args.unmanaged.now in
    let some : ((length c.args.guid.now == 0) ≡ false) ⊎ ((length c.args.unmanaged.now == 0) ≡ false) =
    elim c.else-is_empty.branch [
      | else-is_empty-via-then-is_empty+else-is_empty-2 w ↦ inr (sym w.is_empty-then-is_empty.ensures ∙ w.if-is_empty-2.false)
      | else-is_empty-via-else-is_empty w ↦ inl (sym c.is_empty.ensures ∙ w.if-is_empty.false)
    ] in
    writes_same took c.args.out.now (guid ++ (codes ", " ++ (unmanaged ++ codes ", "))) (library_text c.args.guid.now c.args.unmanaged.now) c.write-2.new.self c.write-2.result
    (library_there c.args.guid.now c.args.unmanaged.now some)
    (writes_then took guid (codes ", " ++ (unmanaged ++ codes ", ")) c.write-2.new.self c.write-2.result refl c.in_ok-write_in_quotes.ensures
    (writes_then took (codes ", ") (unmanaged ++ codes ", ") c.write-2.new.self c.write-2.result refl c.in_ok-write.ensures.writes
    (writes_then took unmanaged (codes ", ") c.write-2.new.self c.write-2.result refl c.in_ok-write_in_quotes-2.ensures c.write-2.ensures.writes)))
