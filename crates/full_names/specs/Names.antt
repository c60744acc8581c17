-- The text of a type's name (ECMA-335 II.5.3, II.7.2, II.22.32, II.22.37 and II.22.38).
use Rattle.std.specs.Prelude.{◌≡◌, ℕ, zero, suc, List, ◌++◌, ◌⊎◌, codes}
use Rattle.std.specs.Fmt.{WritesInCalls}
use Rattle.table_schema.specs.declared.table.TableId.{TableId}
use Rattle.table_schema.specs.declared.table.TableId.TheVariants.{TypeDef, TypeRef, NestedClass}
use Rattle.metadata.specs.Cell.{Text}
use Rattle.metadata.specs.KeyOrder.{IsKeyOrdered}
use Rattle.metadata.specs.Metadata.{Metadata, cell_in}
use Rattle.navigation.specs.Nesting.{IsEnclosed, IsScope}
use Rattle.full_names.specs.Quoted.{type_text}

-- the name of a row of TypeDef or TypeRef, after its namespace and a dot
abbrev pub IsOwnText : Metadata → TableId → ℕ → List ℕ → Type 0
IsOwnText model table row text =
    (namespace : List ℕ) × (name : List ℕ) × (cell_in model table row 2 ≡ Text namespace) × (cell_in model table row 1 ≡ Text name) × (text ≡ type_text namespace name)

-- The text of a row in a chain, of this many rows at most: its own text if nothing is outside it; else the text of what
-- is outside, a slash, and its own text. `..` stands for the rows that are left out.
unfoldable pub IsChainText : (ℕ → ℕ → Type 0) → (ℕ → List ℕ → Type 0) → ℕ → ℕ → List ℕ → Type 0
IsChainText is_outside is_own zero row text = text ≡ codes ".."
IsChainText is_outside is_own (suc depth) row text =
    (((outer : ℕ) → ¬ is_outside row outer) × is_own row text)
    ⊎ ((outer : ℕ) × is_outside row outer × (before : List ℕ) × IsChainText is_outside is_own depth outer before × (own : List ℕ) × is_own row own
    × (text ≡ before ++ (codes "/" ++ own)))

-- a type encloses another, by a NestedClass that is in the order of its key (II.22); one that is not in order encloses none
abbrev pub IsOuter : Metadata → ℕ → ℕ → Type 0
IsOuter model class outer = IsKeyOrdered model NestedClass × IsEnclosed model class outer

-- the text of a type of this module
abbrev pub IsTypeDefText : Metadata → ℕ → ℕ → List ℕ → Type 0
IsTypeDefText model = IsChainText (IsOuter model) (IsOwnText model TypeDef)

-- the text of a type of another module
abbrev pub IsTypeRefText : Metadata → ℕ → ℕ → List ℕ → Type 0
IsTypeRefText model = IsChainText (IsScope model) (IsOwnText model TypeRef)

-- a writer took a text with this property, in some calls
abbrev pub Wrote : {W : Type 0} → (W → List ℕ → W → Type 0) → W → (List ℕ → Type 0) → W → Type 0
Wrote took before is_text after = (text : List ℕ) × is_text text × WritesInCalls took before text after
