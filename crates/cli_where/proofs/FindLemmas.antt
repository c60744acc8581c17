-- What a search finds.
use Rattle.std.proofs.Common.{◌≡◌, ◌∙◌, ◌==◌, ℕ, List, [], ◌∷◌, ◌++◌, ap, append_assoc, false, length, refl, subst, inl, inr}
use Rattle.packed.specs.declared.fault.Fault.{Fault}
use Rattle.packed.specs.Rule.{AllHold, FirstBroken, Rule}
use Rattle.packed.proofs.RuleLemmas.{none_fails}
use Rattle.cli_regions.specs.Kept.{Adds, Finds, Joins, Searched}
use Rattle.cli_regions.specs.Regions.{Region}
use Rattle.cli_regions.specs.declared.searches.Structure.{Structure}
use Rattle.cli_regions.proofs.SearchLemmas.{joins_none}
use Rattle.cli_where.specs.Where.{AreOf, OfLayer, Then}

-- structures that are found have a first one
pub first_of : (structures : List Structure) → (length structures == 0) ≡ false → (first : Structure) × (later : List Structure) × (structures ≡ first ∷ later)
first_of [] is = cc
first_of (first ∷ later) is = (first, later, refl)

-- structures that were kept
pub finds_joined : {AreFound : ℕ → List Region → Type 0} {old new : Searched} {later : List Region} → AreFound old.offset later → Joins old new later → Finds AreFound old new
finds_joined {AreFound} {old} {new} {later} are joins = record { offset = joins.offset; found = λ found is. let at = joins.found found is in (at.0, at.1, later, are, at.2) }

-- structures of a list
pub adds_find : {old new : Searched} {regions : List Region} → Adds old new regions → Finds (AreOf regions) old new
adds_find {old} {new} {regions} adds = finds_joined {AreFound = AreOf regions} refl adds.joins

-- structures of one kind, and then those of another
pub finds_then : {AreFirst AreLater : ℕ → List Region → Type 0} {old between new : Searched} → Finds AreFirst old between → Finds AreLater between new
    → Finds (Then AreFirst AreLater) old new
finds_then {AreFirst} {AreLater} first later = record {
  offset = later.offset ∙ first.offset;
  found = λ found is.
      let at = later.found found is in
      let from = first.found at.0 at.1 in (
        from.0,
        from.1,
        from.2 ++ at.2,
        (from.2, from.3, at.2, subst (λ (offset : ℕ). AreLater offset at.2) first.offset at.3, refl),
        at.4 ∙ ap (λ found. found ++ at.2) from.4 ∙ append_assoc from.0 from.2 at.2,
      );
}

-- nothing is found
pub finds_none : (AreFound : ℕ → List Region → Type 0) (search : Searched) → AreFound search.offset [] → Finds AreFound search search
finds_none AreFound search are = finds_joined {AreFound = AreFound} are (joins_none search)

-- a layer whose rules hold, and one with a broken rule
pub whole_layer : (rules : List (Rule Fault)) {AreFound : ℕ → List Region → Type 0} {old new : Searched} → AllHold rules → Finds AreFound old new → Finds (OfLayer rules AreFound) old new
whole_layer rules holds finds = record {
  offset = finds.offset;
  found = λ found is. let at = finds.found found is in (at.0, at.1, at.2, inr (holds, at.3), at.4);
}

pub broken_layer : (rules : List (Rule Fault)) {AreFound : ℕ → List Region → Type 0} (fault : Fault) (search : Searched) → FirstBroken rules fault → Finds (OfLayer rules AreFound) search search
broken_layer rules {AreFound} fault now broken = finds_none (OfLayer rules AreFound) now (inl ((λ all. none_fails rules fault all broken), refl))
