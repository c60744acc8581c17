-- The generic parameters of a method that were written, and their number.
use Rattle.declarations.proofs.Prelude.{ℕ, ◌≡◌, ◌<◌, List, [], ◌∷◌, ◌++◌, length, map, refl, arith, codes, WritesInCalls, Metadata, KeyedRow, row_of, Scopes, Wrote, writes_append, IsGenerics, arity_text}
use Rattle.navigation.specs.declared.links.Link.TheVariants as link
use Rattle.type_heads.specs.Heads.{AreListed, IsInHead}

module _ {W : Type 0} (took : W → List ℕ → W → Type 0) (scopes : Scopes) (model : Metadata) where
  pub no_rows : (found : List KeyedRow) (n : ℕ) (w v : W) → length found ≡ 0 → WritesInCalls took w (arity_text n) v → Wrote took w (IsGenerics scopes model (map row_of found) n) v
  no_rows [] n w v none wrote = (arity_text n, refl, wrote)
  no_rows (row ∷ found) n w v none wrote = absurd (omega (arith, none))

  pub some_rows : (found : List KeyedRow) (n : ℕ) (w u v x : W) → 0 < length found → WritesInCalls took w (codes "<") u
      → Wrote took u (AreListed (IsInHead scopes model link.GenericParams) [] (map row_of found)) v → WritesInCalls took v (codes ">") x
      → Wrote took w (IsGenerics scopes model (map row_of found) n) x
  some_rows [] n w u v x some begin params end = absurd (omega (arith, some))
  some_rows (row ∷ found) n w u v x some begin params end = (
    codes "<" ++ (params.0 ++ codes ">"),
    (params.0, params.1, refl),
    writes_append took w (codes "<") u (params.0 ++ codes ">") x begin (writes_append took u params.0 v (codes ">") x params.2 end),
  )
