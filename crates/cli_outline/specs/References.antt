-- What is printed of the types of other modules that are asked for (ECMA-335 II.22.25 and II.22.38).
use Rattle.std.specs.Prelude.{List, [], ◌∷◌, ⊤, flat_map}
use Rattle.cli_outline.specs.Words.{MemberRef, TypeRef, Token, Metadata, Printed as Printer, Subject, BelongsTo, HasSome, IsMeantRef, OutlineOptions, AreChosenBy}
use Rattle.cli_outline.specs.declared.outline.Outcome.{Outcome}
use Rattle.cli_outline.specs.declared.outline.Outcome.TheVariants.{Printed, NoSuchType, OutOfMemory}
use Rattle.cli_outline.specs.Outline.{all_rows, by_row}
use Rattle.cli_outline.specs.Printed.{PrintsRows}

-- what is referred to of the types that the subject means: the types of other modules, and the methods and fields, by table and row
abbrev pub AreRefsOf : Metadata → Subject → List Token → Type 0
AreRefsOf model subject found =
    AreChosenBy (BelongsTo model (IsMeantRef model subject)) (λ row. ¬ BelongsTo model (IsMeantRef model subject) row)
    (flat_map (all_rows by_row model) (TypeRef ∷ MemberRef ∷ [])) found

-- the lines of what is referred to were printed if the subject means some type
abbrev pub PrintsRefs : {W : Type 0} → OutlineOptions → Metadata → Subject → Printer W → Printer W → Outcome → Type 0
PrintsRefs options model subject old new Printed =
    HasSome model (IsMeantRef model subject) × ((found : List Token) × AreRefsOf model subject found × PrintsRows options model old new found)
PrintsRefs options model subject old new NoSuchType = ¬ HasSome model (IsMeantRef model subject)
PrintsRefs options model subject old new OutOfMemory = ⊤
