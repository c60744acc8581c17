-- The first thing besides cells that differs.
use Rattle.comparison.proofs.Prelude.{refl, Bool, not, eqb, not-false, Decides-eqb, ◌≡◌, ◌≢◌, ◌∙◌, ◌<◌, ℕ, ◌+◌, true, false, List, [], ◌∷◌, ◌++◌, length, take, drop, get_or, ap, sym, same_from_decides, bytes_eq, flat_map, eq-eqb, ne_eqb, flat_map-append, take-append-drop, bytes_eq-Decides, TableId, tables, Metadata, count_in, Difference, Version, UserStrings, RowCount, count_difference, outline_differences}
use Rattle.comparison.proofs.GrowthLemmas.{item_more}
use Rattle.std.specs.Cmp.Lexicographic.{pointwise, pointwise_decides}

pub parts_differ : (xs ys : List ℕ) (other : Bool) → other ≡ not (pointwise eqb xs ys) → other ≡ true → xs ≡ ys → ⊥
parts_differ xs ys other tested is same = let equal = ap not ((pointwise_decides Decides-eqb xs ys).1 same) in cc

pub parts_same : (xs ys : List ℕ) (other : Bool) → other ≡ not (pointwise eqb xs ys) → other ≡ false → xs ≡ ys
parts_same xs ys other tested is = (pointwise_decides Decides-eqb xs ys).0 (not-false _ (sym tested ∙ is))

same_bytes : (xs ys : List ℕ) → xs ≡ ys → bytes_eq xs ys ≡ true
same_bytes xs ys is = (bytes_eq-Decides xs ys).1 is

other_bytes : (xs ys : List ℕ) → xs ≢ ys → bytes_eq xs ys ≡ false
other_bytes xs ys apart = same_from_decides (bytes_eq xs ys) false (bytes_eq-Decides xs ys) ((λ e. cc), (λ same. absurd (apart same)))

module _ (first second : Metadata) where
  pub outline_version : first.version ≢ second.version → take 1 (outline_differences first second) ≡ Version ∷ []
  unfolding outline_differences
  outline_version apart = rw (other_bytes first.version second.version apart) refl

  pub outline_user : first.version ≡ second.version → first.user ≢ second.user → take 1 (outline_differences first second) ≡ UserStrings ∷ []
  unfolding outline_differences
  outline_user is apart = rw (same_bytes first.version second.version is, other_bytes first.user second.user apart) refl

  pub outline_counts : first.version ≡ second.version → first.user ≡ second.user → outline_differences first second ≡ flat_map (count_difference first second) tables
  unfolding outline_differences
  outline_counts is also = rw (same_bytes first.version second.version is, same_bytes first.user second.user also) refl

  pub count_same : (table : TableId) → count_in first table ≡ count_in second table → count_difference first second table ≡ []
  count_same table is = rw (eq-eqb (count_in first table) (count_in second table) is) refl

  pub count_differs : (table : TableId) (left right : ℕ) → left ≡ count_in first table → right ≡ count_in second table → left ≢ right
      → count_difference first second table ≡ RowCount table left right ∷ []
  count_differs table left right left_is right_is apart =
      rw (left_is, right_is, ne_eqb (count_in first table) (count_in second table) (λ is. apart (left_is ∙ is ∙ sym right_is))) refl

module _ {Y : Type 0} (f : Y → List Difference) (ys : List Y) (i : ℕ) (d : Y) where
  pub none_more : i < length ys → flat_map f (take i ys) ≡ [] → f (get_or ys i d) ≡ [] → flat_map f (take (i + 1) ys) ≡ []
  none_more lt none also = item_more f ys i d lt ∙ ap (λ xs. xs ++ f (get_or ys i d)) none ∙ also

  pub first_found : (one : Difference) → i < length ys → flat_map f (take i ys) ≡ [] → f (get_or ys i d) ≡ one ∷ [] → take 1 (flat_map f ys) ≡ one ∷ []
  first_found one lt none found =
      let prefix : flat_map f (take (i + 1) ys) ≡ one ∷ [] = item_more f ys i d lt ∙ ap (λ xs. xs ++ f (get_or ys i d)) none ∙ found in
      rw (← take-append-drop (i + 1) ys, flat_map-append f (take (i + 1) ys) (drop (i + 1) ys), prefix) refl
