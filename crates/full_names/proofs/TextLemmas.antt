-- The text of a chain of types, from the texts that were written one after another.
use Rattle.std.proofs.Common.{◌≡◌, ◌<◌, ◌≤◌, ℕ, zero, suc, ◌+◌, ◌-◌, drop, get_or, length, take, List, [], ◌∷◌, ◌++◌, append-nil, inl, inr, OnOk, Ok, Err, Result, refl, sym, ◌∙◌, ap, subst, arith}
use Rattle.std.proofs.lemmas.List.Folds.{concat-append}
use Rattle.full_names.proofs.Prelude.{flat_map-append, take-append-drop, take_all, take_more, FoldsTo, concat, flat_map, codes, WritesInCalls, Error, IsChainText, Wrote}

module _ {W : Type 0} (took : W → List ℕ → W → Type 0) where
  folds_append : (w : W) (xs : List (List ℕ)) (v : W) (ys : List (List ℕ)) (u : W) → FoldsTo took w xs v → FoldsTo took v ys u → FoldsTo took w (xs ++ ys) u
  folds_append w [] v ys u p q = subst (λ (x : W). FoldsTo took x ys u) (sym p) q
  folds_append w (x ∷ xs) v ys u p q = (p.0, p.1, folds_append p.0 xs v ys u p.2 q)

  pub writes_nothing : (w : W) → WritesInCalls took w [] w
  writes_nothing w = record { parts = []; calls = refl; whole = refl }

  pub writes_once : (w : W) (text : List ℕ) (v : W) → took w text v → WritesInCalls took w text v
  writes_once w text v call = record { parts = text ∷ []; calls = (v, call, refl); whole = append-nil text }

  pub writes_append : (w : W) (a : List ℕ) (v : W) (b : List ℕ) (u : W) → WritesInCalls took w a v → WritesInCalls took v b u → WritesInCalls took w (a ++ b) u
  writes_append w a v b u p q = record {
    parts = p.parts ++ q.parts;
    calls = folds_append w p.parts v q.parts u p.calls q.calls;
    whole = concat-append p.parts q.parts ∙ ap (λ (l : List ℕ). l ++ concat q.parts) p.whole ∙ ap (λ (l : List ℕ). a ++ l) q.whole;
  }

  -- what was written before the last call, and by it
  pub writes_last : (w : W) (a : List ℕ) (v : W) (b : List ℕ) (u : W) (result : Result (Unit {0}) Error) → WritesInCalls took w a v → OnOk result (WritesInCalls took v b u)
      → OnOk result (WritesInCalls took w (a ++ b) u)
  writes_last w a v b u (Ok done) p q = writes_append w a v b u p q
  writes_last w a v b u (Err e) p q = tt

  -- the same text by another name
  pub writes_same : (w : W) (a b : List ℕ) (v : W) (result : Result (Unit {0}) Error) → a ≡ b → OnOk result (WritesInCalls took w a v) → OnOk result (WritesInCalls took w b v)
  writes_same w a b v (Ok done) same p = subst (λ (t : List ℕ). WritesInCalls took w t v) same p
  writes_same w a b v (Err e) same p = tt

  -- the texts of bytes, one after another, up to this byte
  module _ (text_of : ℕ → List ℕ) (bytes : List ℕ) (i : ℕ) (w v : W) (before : WritesInCalls took w (flat_map text_of (take i bytes)) v) where
    pub one_byte_more : (u : W) → i < length bytes → WritesInCalls took v (text_of (get_or bytes i 0)) u → WritesInCalls took w (flat_map text_of (take (i + 1) bytes)) u
    one_byte_more u lt one =
        let byte = get_or bytes i 0 in
        let text = sym (ap (flat_map text_of) (take_more bytes i 0 lt) ∙ flat_map-append text_of (take i bytes) (byte ∷ []) ∙ ap (λ t. flat_map text_of (take i bytes) ++ t) (append-nil (text_of byte))) in
        subst (λ (t : List ℕ). WritesInCalls took w t u) text (writes_append w (flat_map text_of (take i bytes)) v (text_of byte) u before one)

    pub other_bytes_passed : ((text : List ℕ) → took v text v) → WritesInCalls took w (flat_map text_of bytes) v
    other_bytes_passed reached =
        let tail = flat_map text_of (drop i bytes) in
        subst (λ (t : List ℕ). WritesInCalls took w t v) (sym (flat_map-append text_of (take i bytes) (drop i bytes)) ∙ ap (flat_map text_of) (take-append-drop i bytes))
        (writes_append w (flat_map text_of (take i bytes)) v tail v before (writes_once v tail v (reached tail)))

    pub all_bytes : length bytes ≤ i → WritesInCalls took w (flat_map text_of bytes) v
    all_bytes le = subst (λ (t : List ℕ). WritesInCalls took w t v) (ap (flat_map text_of) (take_all i bytes le)) before

  module _ (is_outside : ℕ → ℕ → Type 0) (is_own : ℕ → List ℕ → Type 0) (w : W) where
    pub chain_left_out : (result : Result (Unit {0}) Error) (v : W) (row depth : ℕ) → depth ≡ 0 → OnOk result (WritesInCalls took w (codes "..") v)
        → OnOk result (Wrote took w (IsChainText is_outside is_own depth row) v)
    unfolding IsChainText
    chain_left_out (Err e) v row depth none wrote = tt
    chain_left_out (Ok u) v row zero none wrote = (codes "..", refl, wrote)
    chain_left_out (Ok u) v row (suc depth) none wrote = absurd (omega arith)

    pub chain_alone : (result : Result (Unit {0}) Error) (v : W) (row depth : ℕ) → ¬ (depth ≡ 0) → ((outer : ℕ) → ¬ is_outside row outer)
        → OnOk result (Wrote took w (is_own row) v) → OnOk result (Wrote took w (IsChainText is_outside is_own depth row) v)
    unfolding IsChainText
    chain_alone (Err e) v row depth some none wrote = tt
    chain_alone (Ok u) v row zero some none wrote = absurd (some refl)
    chain_alone (Ok u) v row (suc depth) some none wrote = (wrote.0, inl (none, wrote.1), wrote.2)

    pub chain_nested : (result : Result (Unit {0}) Error) (v u x : W) (row outer depth : ℕ) → ¬ (depth ≡ 0) → is_outside row outer
        → Wrote took w (IsChainText is_outside is_own (depth - 1) outer) v → WritesInCalls took v (codes "/") u
        → OnOk result (Wrote took u (is_own row) x) → OnOk result (Wrote took w (IsChainText is_outside is_own depth row) x)
    unfolding IsChainText
    chain_nested (Err e) v u x row outer depth some outside before slash wrote = tt
    chain_nested (Ok t) v u x row outer zero some outside before slash wrote = absurd (some refl)
    chain_nested (Ok t) v u x row outer (suc depth) some outside before slash wrote =
        let P : ℕ → Type 0 = λ d. IsChainText is_outside is_own d outer before.0 in
        let less : suc depth - 1 ≡ depth = omega arith in (
          before.0 ++ (codes "/" ++ wrote.0),
          inr (outer, outside, before.0, subst P less before.1, wrote.0, wrote.1, refl),
          writes_append w before.0 v (codes "/" ++ wrote.0) x before.2 (writes_append v (codes "/") u wrote.0 x slash wrote.2),
        )
