-- The types of parameters, item by item.
use Rattle.custom_attributes.proofs.Prelude.{◌≡◌, ◌∙◌, ◌≤◌, ◌<◌, ◌+◌, ◌*◌, ◌&&◌, ℕ, Bool, true, false, Option, None, Some, List, [], ◌∷◌, ◌++◌, append_assoc, append-nil, ⊎_elim, cond, length, arith, ap, refl, sym, cases_Bool, le-leb, lt-leb, length-append, option_and_then, option_map, Item, TableId, MemberRef, MethodDef, Metadata, is_method, is_void, argument_type, begins_vector, element_type, if_few, is_vector, params_from, params_in, params_of_constructor, preceded}
use Rattle.blob_values.specs.declared.types.ElementType.{ElementType}
use Rattle.blob_values.specs.declared.types.ArgumentType.{ArgumentType}

abbrev Types : Type 0
Types = List ArgumentType

-- the parameter that ends at an item, and the later ones
abbrev pub with_type : Bool → Option Types → Option ElementType → Option Types
with_type vector later of = option_and_then (λ x. option_map (λ types. argument_type vector x ∷ types) later) of

-- ---- how many

abbrev Follows : Option Types → Types → Type 0
Follows later types = (tail : Types) × (later ≡ Some tail) × (length types ≡ length tail + 1)

one_more : (vector : Bool) (later : Option Types) (of : Option ElementType) (types : Types) → with_type vector later of ≡ Some types → Follows later types
one_more vector later None types is = cc
one_more vector None (Some of) types is = cc
one_more vector (Some tail) (Some of) types is =
    let e : argument_type vector of ∷ tail ≡ types = cc in
    let len = ap length e in
    (tail, refl, omega (arith, len))

-- each parameter has at most two items
items_few : (model : Metadata) (vector : Bool) (items : List Item) (types : Types) → params_from model vector items ≡ Some types → length items + cond vector 1 0 ≤ 2 * length types
unfolding params_from
items_few model true [] types is = cc
items_few model false [] types is = omega arith
items_few model true (i ∷ items) types is =
    let more = one_more true (params_from model false items) (element_type model i) types is in
    let later = items_few model false items more.0 more.1 in
    let len = more.2 in
    omega (arith, later, len)
items_few model false (i ∷ items) types is =
    ⊎_elim
    (λ (e : is_vector i ≡ true). let later = items_few model true items types (rw e at is) in omega (arith, later))
    (λ (e : is_vector i ≡ false).
    let more = one_more false (params_from model false items) (element_type model i) types (rw e at is) in
    let later = items_few model false items more.0 more.1 in
    let len = more.2 in
    omega (arith, later, len))
    (cases_Bool (is_vector i))

too_many : (params : Option Types) → ((types : Types) → params ≡ Some types → 64 < length types) → None ≡ if_few params
too_many None many = refl
too_many (Some types) many = sym (λ i. cond (lt-leb (length types) 64 (many types refl) i) (Some types) None)

either : (b : Bool) (params : Option Types) → None ≡ params → None ≡ cond b params None
either true params none = none
either false params none = refl

pub many_items : (model : Metadata) (items : List Item) → 130 < length items → None ≡ params_in model items
many_items model [] many = refl
many_items model (head ∷ []) many = refl
many_items model (head ∷ result ∷ params) many =
    either (is_method head && is_void result) (if_few (params_from model false params)) (too_many (params_from model false params)
    (λ types is. let few = items_few model false params types is in omega (arith, few, many)))

-- ---- an item more

module _ (model : Metadata) (vector : Bool) (i : Item) (later : List Item) (got : Types) where
  pub vector_begun : begins_vector vector i ≡ true → if_few (preceded got (params_from model vector (i ∷ later))) ≡ if_few (preceded got (params_from model true later))
  unfolding params_from
  vector_begun is = rw is refl

  pub no_type : begins_vector vector i ≡ false → None ≡ element_type model i → if_few (preceded got (params_from model vector (i ∷ later))) ≡ None
  unfolding params_from
  no_type is none = rw (is, ← none) refl

  full_with : (of : ElementType) (tail : Option Types) → length got ≡ 64 → None ≡ if_few (preceded got (option_map (λ types. argument_type vector of ∷ types) tail))
  full_with of None full = refl
  full_with of (Some tail) full = too_many (Some (got ++ argument_type vector of ∷ tail))
      (λ types is. let e : got ++ argument_type vector of ∷ tail ≡ types = cc in let len = ap length e in let sum = length-append got (argument_type vector of ∷ tail) in omega (arith, full, len, sum))

  pub no_room : (of : ElementType) → begins_vector vector i ≡ false → Some of ≡ element_type model i → length got ≡ 64 → if_few (preceded got (params_from model vector (i ∷ later))) ≡ None
  unfolding params_from
  no_room of is some full = rw (is, ← some) (sym (full_with of (params_from model false later) full))

  moved : (of : ElementType) (tail : Option Types) → preceded got (option_map (λ types. argument_type vector of ∷ types) tail) ≡ preceded (got ++ argument_type vector of ∷ []) tail
  moved of None = refl
  moved of (Some tail) = ap Some (sym (append_assoc got (argument_type vector of ∷ []) tail))

  pub type_put : (of : ElementType) → begins_vector vector i ≡ false → Some of ≡ element_type model i
      → if_few (preceded got (params_from model vector (i ∷ later))) ≡ if_few (preceded (got ++ argument_type vector of ∷ []) (params_from model false later))
  unfolding params_from
  type_put of is some = rw (is, ← some) (ap if_few (moved of (params_from model false later)))

-- ---- the first and the last item

pub from_none : (params : Option Types) → if_few (preceded [] params) ≡ if_few params
from_none None = refl
from_none (Some types) = refl

pub all_put : (model : Metadata) (got : Types) → length got ≤ 64 → if_few (preceded got (params_from model false [])) ≡ Some got
unfolding params_from
all_put model got few = ap (λ (types : Types). if_few (Some types)) (append-nil got) ∙ (λ i. cond (le-leb (length got) 64 few i) (Some got) None)

pub vector_left : (model : Metadata) (got : Types) → if_few (preceded got (params_from model true [])) ≡ None
unfolding params_from
vector_left model got = refl

-- ---- constructors

pub no_constructor : (model : Metadata) (table : TableId) (row : ℕ) → (table ≡ MethodDef → ⊥) → (table ≡ MemberRef → ⊥) → None ≡ params_of_constructor model table row
no_constructor model MethodDef row a b = absurd (a refl)
no_constructor model MemberRef row a b = absurd (b refl)
no_constructor model _ row a b = refl
