-- What is printed of the row or of the types of other modules that are asked for.
use Rattle.cli_outline.proofs.Prelude.{◌≡◌, ◌≢◌, ◌∙◌, List, [], ◌∷◌, ⊎_elim, inl, inr, sym, TypeDef, Token, Metadata, Wanted, BelongsTo, IsMeantRef, IsWantedRef, Wants, AreChosenBy}
use Rattle.cli_names.specs.declared.subject.Subject.{Subject}
use Rattle.cli_names.specs.declared.subject.Subject.TheVariants.{Path, Row}
use Rattle.cli_names.specs.Subjects.{IsSubject}

-- another row than a type is the only subject
pub one_subject : (model : Metadata) (subject : Subject) (of other : Token) → IsSubject model subject of → of.table ≢ TypeDef → IsSubject model subject other → other ≡ of
one_subject model (Path path) of other is not also = absurd (not is.0)
one_subject model (Row token) of other is not also = also.0 ∙ sym is.0

-- what is wanted is what is meant
module _ (model : Metadata) (subject : Subject) (wanted : Wanted) (wants : Wants model subject wanted) where
  pub chosen_meant : (rows found : List Token) → AreChosenBy (BelongsTo model (IsWantedRef model wanted)) (λ row. ¬ BelongsTo model (IsWantedRef model wanted) row) rows found
      → AreChosenBy (BelongsTo model (IsMeantRef model subject)) (λ row. ¬ BelongsTo model (IsMeantRef model subject) row) rows found
  chosen_meant [] found are = are
  chosen_meant (row ∷ rows) found are = (
    are.0,
    chosen_meant rows are.0 are.1,
    ⊎_elim
        (λ it. inl ((it.0.0, it.0.1, it.0.2, (wants it.0.0).0 it.0.3), it.1))
        (λ it. inr ((λ also. it.0 (also.0, also.1, also.2, (wants also.0).1 also.3)), it.1))
        are.2,
  )
