use Rattle.root_writer.proofs.Prelude.{sym, subst, List, ℕ, IsModel, canonical}
use Rattle.root_writer.proofs.canonical_laws.canonical_root_is_one.Goals as goal

pub returns-clause-unique : goal.returns-clause-unique
returns-clause-unique c = λ model other valid small is.
    c.roots_have_models.ensures.one (canonical model) model other (c.canonical_root_has_its_model.ensures model valid small) is

pub returns-clause-apart : goal.returns-clause-apart
returns-clause-apart c = λ model other valid also small short same.
    c.roots_have_models.ensures.one (canonical model) model other (c.canonical_root_has_its_model.ensures model valid small)
    (subst (λ (root : List ℕ). IsModel root other) (sym same) (c.canonical_root_has_its_model.ensures other also short))
