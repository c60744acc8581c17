use Rattle.declarations.proofs.Prelude.{◌≤◌, arith, subst, TableId, MethodDef, MemberRef, HasRow, IsRowNameBy, on_wrote, IsReference, IsReferenceBy}
use Rattle.declarations.proofs.ReferenceLemmas.{member_row, method_row, other_row}
use Rattle.declarations.proofs.references.write_reference.Goals as goal

pub write_method_reference-requires-clause-last : goal.write_method_reference-requires-clause-last
write_method_reference-requires-clause-last g c =
    subst (λ (t : TableId). c.args.token.row ≤ g.S.ReadMetadata.row_count c.args.source.now t) c.in-MethodDef.is (omega (arith, c.if-token-count.false, c.count.ensures.rows))

pub write_member_reference-requires-clause-last : goal.write_member_reference-requires-clause-last
write_member_reference-requires-clause-last g c =
    subst (λ (t : TableId). c.args.token.row ≤ g.S.ReadMetadata.row_count c.args.source.now t) c.in-MemberRef.is (omega (arith, c.if-token-count.false, c.count.ensures.rows))

pub returns-in-MethodDef : goal.returns-in-MethodDef
returns-in-MethodDef g c = λ model shown.
    let rows = c.holds_one.ensures.rows model shown c.args.token.table in
    let there : HasRow model c.args.token.table c.args.token.row = (omega (arith, c.if-token-eq0.false), omega (arith, c.if-token-count.false, c.count.ensures.rows, rows)) in
    on_wrote g.W.Write.write_str_gives (IsReferenceBy g.L.Limit.scopes model MethodDef c.args.token.row 3 4) (IsReference g.L.Limit.scopes model c.args.token) _ _ c.write_method_reference.result (c.write_method_reference.ensures model shown)
    (λ text is. method_row g.L.Limit.scopes model c.args.token text there c.in-MethodDef.is is)

pub returns-in-MemberRef : goal.returns-in-MemberRef
returns-in-MemberRef g c = λ model shown.
    let rows = c.holds_one.ensures.rows model shown c.args.token.table in
    let there : HasRow model c.args.token.table c.args.token.row = (omega (arith, c.if-token-eq0.false), omega (arith, c.if-token-count.false, c.count.ensures.rows, rows)) in
    on_wrote g.W.Write.write_str_gives (IsReferenceBy g.L.Limit.scopes model MemberRef c.args.token.row 1 2) (IsReference g.L.Limit.scopes model c.args.token) _ _ c.write_member_reference.result (c.write_member_reference.ensures model shown)
    (λ text is. member_row g.L.Limit.scopes model c.args.token text there c.in-MemberRef.is is)

pub returns-in_default : goal.returns-in_default
returns-in_default g c = λ model shown.
    on_wrote g.W.Write.write_str_gives (IsRowNameBy g.L.Limit.scopes model c.args.token) (IsReference g.L.Limit.scopes model c.args.token) _ _ c.write_row_name-in_default.result (c.write_row_name-in_default.ensures model shown)
    (λ text is. other_row g.L.Limit.scopes model c.args.token text c.in_default.not-MethodDef c.in_default.not-MemberRef is)
