-- The scope of a chain of types, and its text before a name.
use Rattle.std.proofs.Common.{◌≡◌, ℕ, zero, suc, ◌-◌, List, [], ◌++◌, Option, None, OnOk, Result, inl, inr, refl, subst, arith}
use Rattle.full_names.proofs.Prelude.{TableId, TypeRef, ModuleRef, AssemblyRef, Token, Ref, Metadata, cell_in, IsScope, Error, Scopes, Omitted, Written, IsTypeRefText, Wrote, IsScopeIn, IsScopeWithin, IsTypeRefName, IsTypeScope}
use Rattle.full_names.proofs.PieceLemmas.{ok_then}
use Rattle.full_names.proofs.TextLemmas.{writes_append}

module _ (model : Metadata) (row : ℕ) where
  pub too_deep : (depth : ℕ) → depth ≡ 0 → IsScopeWithin model depth row None
  too_deep zero none = refl
  too_deep (suc depth) none = absurd (omega arith)

  pub outermost : (depth : ℕ) (scope : Option Token) → ¬ (depth ≡ 0) → ((outer : ℕ) → ¬ IsScope model row outer) → cell_in model TypeRef row 0 ≡ Ref scope → IsScopeWithin model depth row scope
  outermost zero scope some none is = absurd (some refl)
  outermost (suc depth) scope some none is = inl (none, is)

  pub enclosed_scope : (depth outer : ℕ) (scope : Option Token) → ¬ (depth ≡ 0) → IsScope model row outer → IsScopeWithin model (depth - 1) outer scope → IsScopeWithin model depth row scope
  enclosed_scope zero outer scope some outside is = absurd (some refl)
  enclosed_scope (suc depth) outer scope some outside is =
      let P : ℕ → Type 0 = λ d. IsScopeWithin model d outer scope in
      let less : suc depth - 1 ≡ depth = omega arith in inr (outer, outside, subst P less is)

-- a row of a table that is neither has no text as a scope
pub no_scope : (model : Metadata) (table : TableId) (row : ℕ) → (table ≡ AssemblyRef → ⊥) → (table ≡ ModuleRef → ⊥) → IsScopeIn model table row []
no_scope model AssemblyRef row a b = absurd (a refl)
no_scope model ModuleRef row a b = absurd (b refl)
no_scope model _ row a b = refl

-- a name without a scope, and one after its scope
module _ {W : Type 0} (took : W → List ℕ → W → Type 0) (model : Metadata) (row : ℕ) (w v u : W) (result : Result (Unit {0}) Error) where
  pub without_scope : (scopes : Scopes) → scopes ≡ Omitted → OnOk result (Wrote took w (IsTypeRefText model 64 row) u) → OnOk result (Wrote took w (IsTypeRefName scopes model row) u)
  without_scope Omitted is wrote = wrote
  without_scope Written is wrote = absurd cc

  pub after_scope : (scopes : Scopes) → scopes ≡ Written → Wrote took w (IsTypeScope model row) v → OnOk result (Wrote took v (IsTypeRefText model 64 row) u)
      → OnOk result (Wrote took w (IsTypeRefName scopes model row) u)
  after_scope Omitted is scope wrote = absurd cc
  after_scope Written is scope wrote = ok_then result wrote (λ own. (scope.0 ++ own.0, (scope.0, scope.1, own.0, own.1, refl), writes_append took w scope.0 v own.0 u scope.2 own.2))
