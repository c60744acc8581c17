use Rattle.std.proofs.Common.{◌∙◌, sym}
use Rattle.cli_names.proofs.RefLemmas.{belongs_by}
use Rattle.cli_names.proofs.refs.belongs.Goals as goal

pub returns-in-TypeRef : goal.returns-in-TypeRef
returns-in-TypeRef c = λ model is.
    belongs_by model c.args.wanted.now c.args.of c.in-Some.found (sym (c.type_of_ref.ensures model is) ∙ c.in-Some.is) c.in-TypeRef.is c.is_wanted.result (c.is_wanted.ensures model is)
