-- What remains of a value, at its end and after its prolog.
use Rattle.blob_values.proofs.Prelude.{◌≡◌, ◌∙◌, ℕ, zero, suc, Bool, true, false, Option, Some, None, IfSome, List, [], ◌∷◌, length, refl, sym, ap, arith, eqb-true, ElementType, ArgumentType, AttributeValue, IsAttributeValue, Item, items_of, entries_at, named_left, arguments_at, are_done, left_at, is_done, items_in, items_if_whole, ends, all_at}
use Rattle.std.specs.Prelude.{◌==◌, ◌&&◌, ◌-◌, is_some}
use Rattle.blob_values.specs.declared.step.Arguments.{Arguments}
use Rattle.blob_values.specs.declared.step.Arguments.TheVariants as arguments
use Rattle.blob_values.specs.declared.step.Left.{Left}
use Rattle.blob_values.proofs.PartLemmas.{AreBytes, NumbersAreRead}
use Rattle.blob_values.proofs.WalkLemmas.{value_found, value_again}

-- ---- the end

and_left : (p q : Bool) → (p && q) ≡ true → p ≡ true
and_left true q e = refl
and_left false q e = e

nothing_left : (of : ElementType) (count : ℕ) (a : Arguments) (b : List ℕ) → ((count == 0) && are_done a) ≡ true → entries_at of count (arguments_at a) b ≡ Some ([], b)
unfolding entries_at named_left
nothing_left of zero (arguments.Fixed params) b e = let bad : false ≡ true = e in cc
nothing_left of zero (arguments.Named zero) b e = refl
nothing_left of zero (arguments.Named (suc n)) b e = let bad : suc n ≡ 0 = eqb-true (suc n) 0 e in absurd (omega arith)
nothing_left of (suc n) a b e = let bad : suc n ≡ 0 = eqb-true (suc n) 0 (and_left (suc n == 0) (are_done a) e) in absurd (omega arith)

pub done_left : (left : Left) (b : List ℕ) → is_done left ≡ true → left_at left b ≡ Some ([], b)
done_left left b e = nothing_left left.of left.count left.arguments b e

pub done_items : (left : Left) (b : List ℕ) → is_done left ≡ true → items_in (left_at left b) ≡ []
done_items left b e = ap items_in (done_left left b e)

ends_nothing : (b : List ℕ) (empty : Bool) → (empty ≡ true → length b ≡ 0) → (length b ≡ 0 → empty ≡ true) → empty ≡ ends (Some ([], b))
ends_nothing [] true f g = refl
ends_nothing [] false f g = g refl
ends_nothing (c ∷ b) true f g = let e = f refl in absurd (omega arith)
ends_nothing (c ∷ b) false f g = refl

pub done_ends : (left : Left) (b : List ℕ) (empty : Bool) → is_done left ≡ true → (empty ≡ true → length b ≡ 0) → (length b ≡ 0 → empty ≡ true) → empty ≡ ends (left_at left b)
done_ends left b empty e f g = ends_nothing b empty f g ∙ ap ends (sym (done_left left b e))

-- ---- a named argument

abbrev number_in : Arguments → ℕ
number_in (arguments.Fixed params) = 0
number_in (arguments.Named n) = n

pub named_next : (of : ElementType) (count : ℕ) (a : Arguments) (n : ℕ) (b : List ℕ) → ((count == 0) && are_done a) ≡ false → count ≡ 0 → a ≡ arguments.Named n → named_left (suc (n - 1)) b ≡ entries_at of count (arguments_at a) b
unfolding entries_at
named_next of zero (arguments.Fixed params) n b e z same = cc
named_next of zero (arguments.Named zero) n b e z same = let bad : true ≡ false = e in cc
named_next of zero (arguments.Named (suc m)) n b e z same =
    let one : suc m ≡ n = ap (λ (x : Arguments). number_in x) same in
    let last : suc (n - 1) ≡ suc m = omega arith in
    ap (λ (k : ℕ). named_left k b) last
named_next of (suc count) a n b e z same = absurd (omega arith)

-- ---- a whole value

pub whole_some : (o : Option (List Item × List ℕ)) → ends o ≡ true → is_some o ≡ true
whole_some None e = let bad : false ≡ true = e in cc
whole_some (Some x) e = refl

whole_of : (o : Option (List Item × List ℕ)) (Is : AttributeValue → Type 0) → ends o ≡ true
    → IfSome o (λ y. (v : AttributeValue) × (y.1 ≡ [] → Is v) × (y.0 ≡ items_of v)) → (v : AttributeValue) × Is v × (items_in o ≡ items_of v)
whole_of None Is e h = let bad : false ≡ true = e in cc
whole_of (Some (items, [])) Is e h = (h.0, h.1 refl, h.2)
whole_of (Some (items, c ∷ b)) Is e h = let bad : false ≡ true = e in cc

pub whole_value : NumbersAreRead → (params : List ArgumentType) (blob : List ℕ) → AreBytes blob → ends (all_at params blob) ≡ true
    → (v : AttributeValue) × IsAttributeValue params v blob × (items_in (all_at params blob) ≡ items_of v)
whole_value known params blob bytes e = whole_of (all_at params blob) (λ v. IsAttributeValue params v blob) e (value_found known params blob bytes)

pub value_items : NumbersAreRead → (params : List ArgumentType) (blob : List ℕ) (v : AttributeValue) → IsAttributeValue params v blob → items_in (all_at params blob) ≡ items_of v
value_items known params blob v is = ap items_in (value_again known params v blob is)

pub value_ends : NumbersAreRead → (params : List ArgumentType) (blob : List ℕ) (v : AttributeValue) → IsAttributeValue params v blob → ends (all_at params blob) ≡ false → ⊥
value_ends known params blob v is e =
    let whole : ends (all_at params blob) ≡ true = ap ends (value_again known params v blob is) in
    cc

pub whole_read : (o : Option (List Item × List ℕ)) → ends o ≡ true → Some (items_in o) ≡ items_if_whole o
whole_read None e = let bad : false ≡ true = e in cc
whole_read (Some (items, [])) e = refl
whole_read (Some (items, c ∷ b)) e = let bad : false ≡ true = e in cc

pub none_read : (o : Option (List Item × List ℕ)) → ends o ≡ false → None ≡ items_if_whole o
none_read None e = refl
none_read (Some (items, [])) e = let bad : true ≡ false = e in cc
none_read (Some (items, c ∷ b)) e = refl
