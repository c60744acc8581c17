use Rattle.full_names.proofs.Prelude.{refl, subst, sym, codes, TableId, Identifier, Dotted, name_text, type_text, IsPlainName}
use Rattle.full_names.proofs.PieceLemmas.{wrote_plain}
use Rattle.full_names.proofs.RowNameLemmas.{no_name}
use Rattle.full_names.proofs.row_names.write_plain.Goals as goal

pub returns-in-ModuleRef : goal.returns-in-ModuleRef
returns-in-ModuleRef g c = λ model shown.
    let own = c.text-name.result.now in
    let text = name_text Dotted own in
    let is = subst (λ (t : TableId). IsPlainName model t c.args.token.row text) (sym c.in-ModuleRef.is) (own, c.text-name.ensures model shown, refl) in
    wrote_plain g.W.Write.write_str_gives (IsPlainName model c.args.token.table c.args.token.row) _ _ c.write_name.result text is c.write_name.ensures

pub returns-in-AssemblyRef : goal.returns-in-AssemblyRef
returns-in-AssemblyRef g c = λ model shown.
    let own = c.text-name-in-AssemblyRef.result.now in
    let text = name_text Dotted own in
    let is = subst (λ (t : TableId). IsPlainName model t c.args.token.row text) (sym c.in-AssemblyRef.is) (own, c.text-name-in-AssemblyRef.ensures model shown, refl) in
    wrote_plain g.W.Write.write_str_gives (IsPlainName model c.args.token.table c.args.token.row) _ _ c.write_name-in-AssemblyRef.result text is c.write_name-in-AssemblyRef.ensures

pub returns-in-File : goal.returns-in-File
returns-in-File g c = λ model shown.
    let own = c.text-name-in-File.result.now in
    let text = name_text Dotted own in
    let is = subst (λ (t : TableId). IsPlainName model t c.args.token.row text) (sym c.in-File.is) (own, c.text-name-in-File.ensures model shown, refl) in
    wrote_plain g.W.Write.write_str_gives (IsPlainName model c.args.token.table c.args.token.row) _ _ c.write_name-in-File.result text is c.write_name-in-File.ensures

pub returns-in-ExportedType : goal.returns-in-ExportedType
returns-in-ExportedType g c = λ model shown.
    let space = c.text-namespace.result.now in
    let own = c.text-name-in-ExportedType.result.now in
    let text = type_text space own in
    let is = subst (λ (t : TableId). IsPlainName model t c.args.token.row text) (sym c.in-ExportedType.is)
    (space, own, c.text-namespace.ensures model shown, c.text-name-in-ExportedType.ensures model shown, refl) in
    wrote_plain g.W.Write.write_str_gives (IsPlainName model c.args.token.table c.args.token.row) _ _ c.write_type_name.result text is c.write_type_name.ensures

pub returns-in-GenericParam : goal.returns-in-GenericParam
returns-in-GenericParam g c = λ model shown.
    let own = c.text-name-in-GenericParam.result.now in
    let text = name_text Identifier own in
    let is = subst (λ (t : TableId). IsPlainName model t c.args.token.row text) (sym c.in-GenericParam.is) (own, c.text-name-in-GenericParam.ensures model shown, refl) in
    wrote_plain g.W.Write.write_str_gives (IsPlainName model c.args.token.table c.args.token.row) _ _ c.write_name-in-GenericParam.result text is c.write_name-in-GenericParam.ensures

pub returns-in_default : goal.returns-in_default
returns-in_default g c = λ model shown.
    wrote_plain g.W.Write.write_str_gives (IsPlainName model c.args.token.table c.args.token.row) _ _ c.write_left_out.result (codes "..")
    (no_name model c.args.token.table c.args.token.row c.in_default.not-ModuleRef c.in_default.not-AssemblyRef c.in_default.not-File c.in_default.not-ExportedType c.in_default.not-GenericParam) c.write_left_out.ensures
