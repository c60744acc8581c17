use Rattle.declarations.proofs.Prelude.{List, ℕ, subst, sym, Wrote, IsDeclarationWith, OnOk}
use Rattle.metadata.specs.Model.{IsModel}
use Rattle.declarations.proofs.methods.write_method_of.Goals as goal

pub returns : goal.returns
returns g c = record {
  text = λ model is method signature.
      subst (λ (rows : List ℕ). OnOk c.write_method_by.result (Wrote g.W.Write.write_str_gives c.args.out.now (IsDeclarationWith rows g.L.Limit.scopes model c.args.row method) c.write_method_by.new.out)) (c.new-links.ensures.generics model is)
      (c.write_method_by.ensures.text model is (subst (λ n. IsModel n.view.now model) (sym c.new-links.ensures.same) is) method signature);
}
