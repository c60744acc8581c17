-- Results for rows, one after another.
use Rattle.visible_rows.proofs.Prelude.{◌≡◌, ◌∙◌, ◌&&◌, ◌||◌, ◌+◌, ◌-◌, ◌≤◌, ℕ, List, [], ◌∷◌, ◌++◌, Bool, false, true, ap, ap₂, arith, get_or, map, refl, sym, list_any, range_with_len, get_or_read, get_or-map-range_with_len, map-range_with_len_more, TableId, TypeDef, Metadata, IsModel, row_count, AreVisibleTypes, HaveVisibleAccessors, has_visible_accessor, is_open_member, is_visible_type}

-- a test of what the elements of a list are
pub any_of_map : {X Y : Type 0} (p : Y → Bool) (f : X → Y) (xs : List X) → list_any p (map f xs) ≡ list_any (λ (x : X). p (f x)) xs
any_of_map p f [] = refl
any_of_map p f (x ∷ xs) = ap (λ (tail : Bool). p (f x) || tail) (any_of_map p f xs)

-- the result of a type
pub type_at : (root : List ℕ) (types : List Bool) → AreVisibleTypes root types → (model : Metadata) → IsModel root model → (class : ℕ) → class ≤ row_count root TypeDef
    → get_or types class false ≡ is_visible_type model class
type_at root types known model is class within =
    ap (λ (results : List Bool). get_or results class false) (known.are model is)
    ∙ get_or-map-range_with_len (is_visible_type model) 0 (row_count root TypeDef + 1) class class false (omega arith) (omega arith)

-- a member of a type, by its own access and the type's
pub member_is : (root : List ℕ) (types : List Bool) → AreVisibleTypes root types → (model : Metadata) → IsModel root model → (class owner access : ℕ) (opens : Bool)
    → class ≤ row_count root TypeDef → owner ≡ class → opens ≡ is_open_member access → opens ≡ true
    → get_or types class false ≡ (is_open_member access && is_visible_type model owner)
member_is root types known model is class owner access opens within same known_as holds =
    type_at root types known model is class within ∙ ap (is_visible_type model) (sym same)
    ∙ ap (λ (opened : Bool). opened && is_visible_type model owner) (sym holds ∙ known_as)

-- one more result
pub results_more : (f : ℕ → Bool) (first count row : ℕ) (old new : List Bool) (result : Bool) → old ≡ map f (range_with_len first count) → new ≡ old ++ result ∷ [] → first + count ≡ row
    → result ≡ f row → new ≡ map f (range_with_len first (count + 1))
results_more f first count row old new result are pushed at is =
    pushed ∙ ap₂ (λ (results : List Bool) (one : Bool). results ++ one ∷ []) are is ∙ sym (map-range_with_len_more f first count row at)

-- the result that was read of a type, and of an event or a property
pub read_type : (root : List ℕ) (types : List Bool) → AreVisibleTypes root types → (model : Metadata) → IsModel root model → (class : ℕ) (read : Bool)
    → class ≤ row_count root TypeDef → read ≡ get_or types class read → read ≡ is_visible_type model class
read_type root types known model is class read within at =
    let long = known.long in
    get_or_read types class read (omega (arith, long, within)) at false ∙ type_at root types known model is class within

pub read_accessed : (root : List ℕ) (table : TableId) (results : List Bool) → HaveVisibleAccessors root table results → (model : Metadata) → IsModel root model → (row : ℕ) (read : Bool)
    → 1 ≤ row → row ≤ row_count root table → read ≡ get_or results (row - 1) read → read ≡ has_visible_accessor table model row
read_accessed root table results known model is row read first last at =
    let long = known.long in
    get_or_read results (row - 1) read (omega (arith, long, first, last)) at false ∙ ap (λ (all : List Bool). get_or all (row - 1) false) (known.are model is)
    ∙ get_or-map-range_with_len (has_visible_accessor table model) 1 (row_count root table) (row - 1) row false (omega (arith, first, last)) (omega (arith, first))
