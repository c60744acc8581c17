-- The text of a reference, by the table of its row.
use Rattle.declarations.proofs.Prelude.{◌≡◌, ℕ, List, inl, inr, sym, ◌∙◌, MethodDef, MemberRef, Token, HasRow, Metadata, Scopes, IsRowNameBy, IsReference, IsReferenceBy}

module _ (scopes : Scopes) (model : Metadata) (token : Token) (text : List ℕ) where
  pub other_row : (token.table ≡ MethodDef → ⊥) → (token.table ≡ MemberRef → ⊥) → IsRowNameBy scopes model token text → IsReference scopes model token text
  other_row no_method no_member name = record {
    method = λ is there. absurd (no_method is);
    member = λ is there. absurd (no_member is);
    other = λ _. name;
  }

  module _ (there : HasRow model token.table token.row) where
    pub method_row : token.table ≡ MethodDef → IsReferenceBy scopes model MethodDef token.row 3 4 text → IsReference scopes model token text
    method_row is by = record {
      method = λ _ _. by;
      member = λ same _. let f : MethodDef ≡ MemberRef = sym is ∙ same in absurd cc;
      other = λ not. elim not [ inl tables ↦ absurd (tables.0 is) | inr missing ↦ absurd (missing there) ];
    }

    pub member_row : token.table ≡ MemberRef → IsReferenceBy scopes model MemberRef token.row 1 2 text → IsReference scopes model token text
    member_row is by = record {
      method = λ same _. let f : MemberRef ≡ MethodDef = sym is ∙ same in absurd cc;
      member = λ _ _. by;
      other = λ not. elim not [ inl tables ↦ absurd (tables.1 is) | inr missing ↦ absurd (missing there) ];
    }
