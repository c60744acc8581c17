-- The content of two values is equal if the content of their parts is.
use Rattle.std.proofs.Common.{◌≡◌, ℕ, Bool, true, false, Option, Some, None, Vec, Global, List, [], ◌∷◌, map, drop, refl, ap, sym, ◌∙◌, subst}
use Rattle.std.specs.Bool.{Decides}
use Rattle.std.specs.declared.boxed.Box.{Box}
use Rattle.std.specs.Cmp.Lexicographic.{pointwise_decides}
use Rattle.std.proofs.lemmas.Bool.Decides.{Decides-and, Decides-like, Decides-eqb, Decides-int_eq}
use Rattle.std.specs.contracts.prelude.BoolPartialEq.TheImpl as bools
use denote.Enum.Bare.{same_true, true_same}
use Rattle.table_schema.specs.declared.table.TableId.{TableId}
use Rattle.table_schema.specs.contracts.table.TableId as table
use Rattle.table_schema.specs.contracts.table.TableIdPartialEq.TheImpl as tables
use Rattle.table_schema.specs.declared.token.Token.{Token}
use Rattle.table_schema.specs.contracts.token.TokenPartialEq.TheImpl as tokens
use Rattle.sig_grammar.specs.declared.element.Element.{Element}
use Rattle.sig_grammar.specs.declared.types.Modifier.{Modifier}
use Rattle.sig_grammar.specs.contracts.types.ModifierPartialEq.TheImpl as modifiers
use Rattle.sig_grammar.specs.declared.body.Prefix.{Prefix}
use Rattle.sig_grammar.specs.contracts.body.PrefixPartialEq.TheImpl as prefixes
use Rattle.sig_grammar.specs.declared.body.Prefix.TheVariants.{Mod, Pinned}
use Rattle.sig_grammar.specs.declared.types.Shape.{Shape}
use Rattle.sig_grammar.specs.contracts.types.ShapePartialEq.TheImpl as shapes
use Rattle.sig_grammar.specs.declared.types.TypeSig.{TypeSig}
use Rattle.sig_grammar.specs.declared.types.MethodSig.{MethodSig}
use Rattle.sig_grammar.specs.declared.types.Slot.{Slot}
use Rattle.sig_grammar.specs.declared.types.Ret.{Ret}
use Rattle.sig_grammar.specs.declared.types.Core as cores
use Rattle.sig_grammar.specs.declared.types.Core.{Core-F, out-Core, roll-Core, roll-out-Core}
use Rattle.sig_grammar.specs.declared.types.Core.TheOpen as layers
use Rattle.sig_grammar.specs.declared.types.Core.TheVariants.{rolls-Simple, rolls-Pointer, rolls-Vector, rolls-Array, rolls-Class, rolls-Value, rolls-Var, rolls-MVar, rolls-Instance, rolls-Function}
use Rattle.sig_grammar.specs.declared.types.SlotKind as kinds
use Rattle.sig_grammar.specs.Views.{core_of, shape_of, types_from, slots_from}
use Rattle.sig_grammar.specs.Syntax as sig
use Rattle.sig_grammar.proofs.ViewLemmas.{view_simple, view_void_pointer, view_pointer, view_vector, view_array, view_class, view_value, view_var, view_mvar, view_instance, view_function}

-- ---- tests

pub denied : {P : Type 0} → (P → ⊥) → Decides false P
denied never = (λ h. absurd cc, λ p. absurd (never p))

-- ---- parts that are compared directly

bool_decides : (a b : Bool) → Decides (bools.eq-value.it a b) (a ≡ b)
bool_decides true true = (λ h. refl, λ e. refl)
bool_decides false false = (λ h. refl, λ e. refl)
bool_decides true false = denied (λ e. absurd cc)
bool_decides false true = denied (λ e. absurd cc)

table_decides : (a b : TableId) → Decides (tables.eq-value.it a b) (a ≡ b)
table_decides a b = (λ h. same_true table.the_type tt a b h, λ e. true_same table.the_type a b e)

pub token_decides : (a b : Token) → Decides (tokens.eq-value.it a b) (a ≡ b)
token_decides a b =
    Decides-like _ (λ p i. record { table = p.0 i; row = p.1 i })
    (λ e. (ap (λ (t : Token). t.table) e, ap (λ (t : Token). t.row) e))
    (Decides-and _ _ (table_decides a.table b.table) (Decides-eqb a.row b.row))

pub modifier_decides : (a b : Modifier) → Decides (modifiers.eq-value.it a b) (a ≡ b)
modifier_decides a b =
    Decides-like _ (λ p i. record { required = p.0 i; of = p.1 i })
    (λ e. (ap (λ (m : Modifier). m.required) e, ap (λ (m : Modifier). m.of) e))
    (Decides-and _ _ (bool_decides a.required b.required) (token_decides a.of b.of))

pub prefix_decides : (a b : Prefix) → Decides (prefixes.eq-value.it a b) (a ≡ b)
prefix_decides (Mod m) (Mod n) = Decides-like _ (λ e. ap Mod e) (λ e. cc e) (modifier_decides m n)
prefix_decides (Mod m) Pinned = denied (λ e. absurd cc)
prefix_decides Pinned (Mod n) = denied (λ e. absurd cc)
prefix_decides Pinned Pinned = (λ h. refl, λ e. refl)

pub shape_decides : (s t : Shape) → Decides (shapes.eq-value.it s t) (shape_of s ≡ shape_of t)
shape_decides s t =
    Decides-like _ (λ p i. record { rank = p.0 i; sizes = p.1.0 i; low = p.1.1 i })
    (λ e. (
      ap (λ (a : sig.ArrayShape). a.rank) e,
      (
        ap (λ (a : sig.ArrayShape). a.sizes) e,
        ap (λ (a : sig.ArrayShape). a.low) e,
      ),
    ))
    (Decides-and _ _ (Decides-eqb s.rank t.rank)
    (Decides-and _ _ (pointwise_decides Decides-eqb s.sizes.items t.sizes.items)
    (pointwise_decides Decides-int_eq s.low.items t.low.items)))

-- ---- a type of another form

-- the type does not have the form with that syntax
abbrev Never : sig.Core → cores.Core → Type 0
Never (sig.simple e) c = (x : Element) → c ≡ cores.Simple x → ⊥
Never (sig.void_pointer ms) c =
    (x : Vec Modifier Global) (y : Option (Box cores.Core Global)) → c ≡ cores.Pointer x y → ⊥
Never (sig.pointer ms t) c =
    (x : Vec Modifier Global) (y : Option (Box cores.Core Global)) → c ≡ cores.Pointer x y → ⊥
Never (sig.vector t) c = (x : Box TypeSig Global) → c ≡ cores.Vector x → ⊥
Never (sig.array t s) c = (x : Box TypeSig Global) (y : Shape) → c ≡ cores.Array x y → ⊥
Never (sig.class t) c = (x : Token) → c ≡ cores.Class x → ⊥
Never (sig.value t) c = (x : Token) → c ≡ cores.Value x → ⊥
Never (sig.var n) c = (x : ℕ) → c ≡ cores.Var x → ⊥
Never (sig.mvar n) c = (x : ℕ) → c ≡ cores.MVar x → ⊥
Never (sig.instance v t ts) c = (x : Bool) (y : Token) (z : Vec TypeSig Global) → c ≡ cores.Instance x y z → ⊥
Never (sig.function m) c = (x : Box MethodSig Global) → c ≡ cores.Function x → ⊥

module _ {c made : cores.Core} {v : sig.Core} (is : c ≡ made) (seen : core_of made ≡ v) where
  -- so a type that is made in that form has it
  has_form : (Never v made → ⊥) → Never (core_of c) c → ⊥
  has_form made_so never = made_so (subst (λ d. Never v d) is (subst (λ w. Never w c) (ap core_of is ∙ seen) never))

form_of : (l : Core-F cores.Core Ret kinds.SlotKind MethodSig Slot TypeSig)
    → Never (core_of (roll-Core l)) (roll-Core l) → ⊥
form_of (layers.Simple e) = has_form (rolls-Simple e) (view_simple e) (λ never. never e refl)
form_of (layers.Pointer mods None) =
    has_form (rolls-Pointer mods None) (view_void_pointer mods) (λ never. never mods None refl)
form_of (layers.Pointer mods (Some to)) =
    has_form (rolls-Pointer mods (Some to)) (view_pointer mods to) (λ never. never mods (Some to) refl)
form_of (layers.Vector of) = has_form (rolls-Vector of) (view_vector of) (λ never. never of refl)
form_of (layers.Array of shape) = has_form (rolls-Array of shape) (view_array of shape) (λ never. never of shape refl)
form_of (layers.Class t) = has_form (rolls-Class t) (view_class t) (λ never. never t refl)
form_of (layers.Value t) = has_form (rolls-Value t) (view_value t) (λ never. never t refl)
form_of (layers.Var n) = has_form (rolls-Var n) (view_var n) (λ never. never n refl)
form_of (layers.MVar n) = has_form (rolls-MVar n) (view_mvar n) (λ never. never n refl)
form_of (layers.Instance v t args) =
    has_form (rolls-Instance v t args) (view_instance v t args) (λ never. never v t args refl)
form_of (layers.Function m) = has_form (rolls-Function m) (view_function m) (λ never. never m refl)

pub of_another_form : (c : cores.Core) (v : sig.Core) → Never v c → Decides false (v ≡ core_of c)
of_another_form c v never =
    let no : Never (core_of c) c → ⊥ =
    subst (λ d. Never (core_of d) d → ⊥) (roll-out-Core c) (form_of (out-Core c)) in
    denied (λ e. no (subst (λ w. Never w c) e never))

pub shown_as : {A : Type 0} {u v w : A} → u ≡ v → Decides false (v ≡ w) → Decides false (u ≡ w)
shown_as same = Decides-like _ (λ e. same ∙ e) (λ e. sym same ∙ e)

-- ---- lists of types and of parameters

pub types_one : (ts us : List sig.Typed) → types_from ts ≡ types_from us → ts ≡ us
types_one [] [] e = refl
types_one [] (u ∷ us) e = absurd (cc e)
types_one (t ∷ ts) [] e = absurd (cc e)
types_one (t ∷ ts) (u ∷ us) e =
    let head : t ≡ u = cc e in
    let tail : types_from ts ≡ types_from us = cc e in
    ap (λ (v : sig.Typed). v ∷ ts) head ∙ ap (λ (vs : List sig.Typed). u ∷ vs) (types_one ts us tail)

pub slots_one : (ss us : List sig.Slot) → slots_from ss ≡ slots_from us → ss ≡ us
slots_one [] [] e = refl
slots_one [] (u ∷ us) e = absurd (cc e)
slots_one (s ∷ ss) [] e = absurd (cc e)
slots_one (s ∷ ss) (u ∷ us) e =
    let head : s ≡ u = cc e in
    let tail : slots_from ss ≡ slots_from us = cc e in
    ap (λ (v : sig.Slot). v ∷ ss) head ∙ ap (λ (vs : List sig.Slot). u ∷ vs) (slots_one ss us tail)

-- ---- lists, from an index on

module _ {A B : Type 0} (view : A → B) (xs ys : List A) where
  -- the remainders of both lists are equal if and only if the whole lists are
  abbrev pub SameFrom : ℕ → Type 0
  SameFrom k =
      (map view (drop k xs) ≡ map view (drop k ys) → map view xs ≡ map view ys) × (map view xs ≡ map view ys → map view (drop k xs) ≡ map view (drop k ys))
