-- Elements, arguments and what precedes named arguments are read as they are encoded.
use Rattle.blob_values.proofs.Prelude.{nat_tests, ◌≡◌, ◌∙◌, ℕ, ◌<◌, true, false, Option, Some, None, IfSome, List, [], ◌∷◌, ◌++◌, refl, sym, ap, subst, arith, ◌==◌, nat_lt, option_map, option_and_then, IsSomeAnd, eqb-true, IsNumber, Element, Boolean, Char, I1, U1, I2, U2, I4, U4, I8, U8, R4, R8, String, I, U, Object, element_of, pick, ElementType, ArgumentType, One, Vector, Scalar, number, text, type_name, Elem, plain, boxed, scalar_type, element_type, Part, byte, sized, value, string, IsPart, AreParts, size_of, is_value, code_of, type_parts, scalar_part, element_parts, has_values, member_code, sized_at, string_at, bits_at, number_at, checked_value, scalar_at, type_of, first_type, element_at, argument_type_at, member_of, member_at, Intro, named_by, intro_at, IfSome-bind, IfSome-cond, IfSome-map}
use Rattle.sig_grammar.specs.ElementTypes.{element_code, SZARRAY}
use Rattle.blob_values.specs.declared.types.ElementType.TheVariants.{Simple, SystemType}
use Rattle.blob_values.specs.declared.item.Member.{Member}
use Rattle.blob_values.specs.declared.item.Member.TheVariants.{Field, Property}
use Rattle.blob_values.proofs.PartLemmas.{AreBytes, bytes_after, parts_append, parts_split, Takes, Reads, Any, sized_reads, NumbersAreRead, string_parts, string_reads}

-- ---- numbers

abbrev scalar_parts : Scalar → List Part
scalar_parts x = scalar_part x ∷ []

-- the type of the scalar
abbrev Has : ElementType → Scalar → Type 0
Has of x = scalar_type x ≡ of

-- a number of the size of the type
abbrev sized_parts : ℕ → ℕ → List Part
sized_parts count n = sized count n ∷ []

number_found : (of : Element) (b : List ℕ) → AreBytes b → (size : Option ℕ) → size_of of ≡ size → IfSome (option_and_then (checked_value of) (option_and_then (λ count. sized_at count b) size)) (Takes scalar_parts (Has (Simple of)) b)
number_found of b h None e = tt
number_found of b h (Some count) e =
    IfSome-bind (Takes (sized_parts count) (λ n. Any n) b) (Takes scalar_parts (Has (Simple of)) b) (checked_value of) (sized_at count b) ((sized_reads count).found b h)
    (λ x took. IfSome-cond (Takes scalar_parts (Has (Simple of)) b) (is_value of x.0) _ None
    (λ fits. record {
      good = refl;
      are = (took.are.0, took.are.1, took.are.2, (fits, subst (λ (o : Option ℕ). IsSomeAnd o (λ count. IsNumber count took.are.0 x.0)) (sym e) took.are.3), took.are.4);
    })
    (λ _. tt))

number_again : (of : Element) (n : ℕ) (b tail : List ℕ) → AreParts (value of n ∷ []) tail b → (size : Option ℕ) → size_of of ≡ size → option_and_then (checked_value of) (option_and_then (λ count. sized_at count b) size) ≡ Some (number of n, tail)
number_again of n b tail f None e = absurd (subst (λ (o : Option ℕ). IsSomeAnd o (λ count. IsNumber count f.0 n)) e f.3.1)
number_again of n b tail f (Some count) e =
    let is : IsNumber count f.0 n = subst (λ (o : Option ℕ). IsSomeAnd o (λ count. IsNumber count f.0 n)) e f.3.1 in
    let read = (sized_reads count).again b tail n tt (f.0, f.1, f.2, is, f.4) in
    rw (read, f.3.0) refl

-- ---- scalars

scalar_found : NumbersAreRead → (of : ElementType) (b : List ℕ) → AreBytes b → IfSome (scalar_at of b) (Takes scalar_parts (Has of) b)
unfolding scalar_at number_at bits_at
scalar_found known SystemType b h =
    IfSome-map (Takes string_parts (λ t. Any t) b) (Takes scalar_parts (Has SystemType) b) (λ x. (type_name x.0, x.1)) (string_at b) ((string_reads known).found b h) (λ x took. record { good = refl; are = took.are })
scalar_found known (Simple String) b h =
    IfSome-map (Takes string_parts (λ t. Any t) b) (Takes scalar_parts (Has (Simple String)) b) (λ x. (text x.0, x.1)) (string_at b) ((string_reads known).found b h) (λ x took. record { good = refl; are = took.are })
scalar_found known (Simple of) b h = number_found of b h (size_of of) refl

scalar_again : NumbersAreRead → (b tail : List ℕ) (x : Scalar) → AreParts (scalar_parts x) tail b → scalar_at (scalar_type x) b ≡ Some (x, tail)
unfolding scalar_at number_at bits_at
scalar_again known b tail (text t) f = rw ((string_reads known).again b tail t tt f) refl
scalar_again known b tail (type_name t) f = rw ((string_reads known).again b tail t tt f) refl
scalar_again known b tail (number String n) f = absurd f.3.1
scalar_again known b tail (number of n) f = number_again of n b tail f (size_of of) refl

-- ---- types

abbrev HasCode : ℕ → Element → Type 0
HasCode c e = c ≡ element_code e

picked : (c n : ℕ) (e : Element) (other : Option Element) → element_code e ≡ n → IfSome other (HasCode c) → IfSome (pick c n e other) (HasCode c)
picked c n e other is h = IfSome-cond (HasCode c) (c == n) (Some e) other (λ t. eqb-true c n t ∙ sym is) (λ t. h)

code_found : (c : ℕ) → IfSome (element_of c) (HasCode c)
unfolding element_of
code_found c =
    picked c 0x02 Boolean _ refl (picked c 0x03 Char _ refl (picked c 0x04 I1 _ refl (picked c 0x05 U1 _ refl (picked c 0x06 I2 _ refl (picked c 0x07 U2 _ refl (picked c 0x08 I4 _ refl (picked c 0x09 U4 _ refl (picked c 0x0A I8 _ refl (picked c 0x0B U8 _ refl (picked c 0x0C R4 _ refl (picked c 0x0D R8 _ refl (picked c 0x0E String _ refl (picked c 0x18 I _ refl (picked c 0x19 U _ refl (picked c 0x1C Object None refl tt)))))))))))))))

-- the code is that of the type, whose values there are
abbrev IsCode : ℕ → ElementType → Type 0
IsCode c of = (c ≡ code_of of) × (has_values of ≡ true)

low_code : (c : ℕ) (of : Element) → c < 0x0F → HasCode c of → IsCode c (Simple of)
low_code c Object low e = absurd (omega arith)
low_code c I low e = absurd (omega arith)
low_code c U low e = absurd (omega arith)
low_code c _ low e = (e, refl)

type_found : (c : ℕ) → IfSome (type_of c) (IsCode c)
unfolding type_of
type_found c =
    IfSome-cond (IsCode c) (c == 0x50) (Some SystemType) _ (λ t. (eqb-true c 0x50 t, refl))
    (λ _. IfSome-cond (IsCode c) (c == 0x51) (Some (Simple Object)) _ (λ t. (eqb-true c 0x51 t, refl))
    (λ _. IfSome-cond (IsCode c) (nat_lt c 0x0F) _ None
    (λ low. let small : c < 0x0F = grind (arith, nat_tests, low) in
    IfSome-map (HasCode c) (IsCode c) (λ of. Simple of) (element_of c) (code_found c) (λ of e. low_code c of small e))
    (λ _. tt)))

type_again : (of : ElementType) → has_values of ≡ true → type_of (code_of of) ≡ Some of
unfolding type_of element_of
type_again SystemType h = refl
type_again (Simple I) h = cc
type_again (Simple U) h = cc
type_again (Simple _) h = refl

abbrev code_parts : ElementType → List Part
code_parts of = byte (code_of of) ∷ []

abbrev pub HasValues : ElementType → Type 0
HasValues of = has_values of ≡ true

first_found : (b : List ℕ) → IfSome (first_type b) (Takes code_parts HasValues b)
first_found [] = tt
first_found (c ∷ b) =
    IfSome-map (IsCode c) (Takes code_parts HasValues (c ∷ b)) (λ of. (of, b)) (type_of c) (type_found c)
    (λ of is. record { good = is.1; are = (c ∷ [], b, refl, ap (λ (x : ℕ). x ∷ []) is.0, refl) })

first_again : (of : ElementType) (b tail : List ℕ) → HasValues of → AreParts (code_parts of) tail b → first_type b ≡ Some (of, tail)
first_again of b tail h f = rw (f.2, f.3, f.4, type_again of h) refl

-- ---- elements

-- a scalar with an encoding has a type with values
scalar_has_values : (x : Scalar) (s : List ℕ) → IsPart (scalar_part x) s → HasValues (scalar_type x)
scalar_has_values (text t) s h = refl
scalar_has_values (type_name t) s h = refl
scalar_has_values (number I n) s h = absurd h.1
scalar_has_values (number U n) s h = absurd h.1
scalar_has_values (number _ n) s h = refl

-- so does an element
pub element_has_values : (e : Elem) (b tail : List ℕ) → AreParts (element_parts e) tail b → HasValues (element_type e)
element_has_values (plain x) b tail f = scalar_has_values x f.0 f.3
element_has_values (boxed x) b tail f = refl

abbrev pub HasType : ElementType → Elem → Type 0
HasType of e = element_type e ≡ of

box_found : NumbersAreRead → (b : List ℕ) → AreBytes b → IfSome (option_and_then (λ x. option_map (λ y. (boxed y.0, y.1)) (scalar_at x.0 x.1)) (first_type b)) (Takes element_parts (HasType (Simple Object)) b)
box_found known b h =
    IfSome-bind (Takes code_parts HasValues b) (Takes element_parts (HasType (Simple Object)) b) (λ x. option_map (λ y. (boxed y.0, y.1)) (scalar_at x.0 x.1)) (first_type b) (first_found b)
    (λ x code. IfSome-map (Takes scalar_parts (Has x.0) x.1) (Takes element_parts (HasType (Simple Object)) b) (λ y. (boxed y.0, y.1)) (scalar_at x.0 x.1)
    (scalar_found known x.0 x.1 (bytes_after (code_parts x.0) b x.1 code.are h))
    (λ y took. record {
      good = refl;
      are = parts_append (code_parts (scalar_type y.0)) (scalar_parts y.0) b x.1 y.1 (rw took.good code.are) took.are;
    }))

plain_found : NumbersAreRead → (of : ElementType) (b : List ℕ) → AreBytes b → IfSome (option_map (λ y. (plain y.0, y.1)) (scalar_at of b)) (Takes element_parts (HasType of) b)
plain_found known of b h =
    IfSome-map (Takes scalar_parts (Has of) b) (Takes element_parts (HasType of) b) (λ y. (plain y.0, y.1)) (scalar_at of b) (scalar_found known of b h)
    (λ y took. record { good = took.good; are = took.are })

element_found : NumbersAreRead → (of : ElementType) (b : List ℕ) → AreBytes b → IfSome (element_at of b) (Takes element_parts (HasType of) b)
unfolding element_at
element_found known (Simple Object) b h = box_found known b h
element_found known SystemType b h = plain_found known SystemType b h
element_found known (Simple of) b h = plain_found known (Simple of) b h

plain_again : NumbersAreRead → (b tail : List ℕ) (x : Scalar) → AreParts (scalar_parts x) tail b → element_at (scalar_type x) b ≡ Some (plain x, tail)
unfolding element_at
plain_again known b tail (text t) f = rw (scalar_again known b tail (text t) f) refl
plain_again known b tail (type_name t) f = rw (scalar_again known b tail (type_name t) f) refl
plain_again known b tail (number Object n) f = absurd f.3.1
plain_again known b tail (number of n) f = rw (scalar_again known b tail (number of n) f) refl

element_again : NumbersAreRead → (b tail : List ℕ) (e : Elem) → AreParts (element_parts e) tail b → element_at (element_type e) b ≡ Some (e, tail)
unfolding element_at
element_again known b tail (plain x) f = plain_again known b tail x f
element_again known b tail (boxed x) f =
    let code = first_again (scalar_type x) b f.1 (scalar_has_values x f.4.0 f.4.3) (f.0, f.1, f.2, f.3, refl) in
    let read = scalar_again known f.1 tail x f.4 in
    rw (code, read) refl

pub element_reads : NumbersAreRead → (of : ElementType) → Reads (element_at of) element_parts (HasType of)
element_reads known of = record {
  found = element_found known of;
  again = λ b tail e is f. rw (sym is) (element_again known b tail e f);
}

-- ---- what precedes a named argument

-- elements of the type of the argument have values
abbrev pub IsKnown : ArgumentType → Type 0
IsKnown (One of) = HasValues of
IsKnown (Vector of) = HasValues of

argument_type_found : (b : List ℕ) → IfSome (argument_type_at b) (Takes type_parts IsKnown b)
unfolding argument_type_at
argument_type_found [] = tt
argument_type_found (c ∷ b) =
    IfSome-cond (Takes type_parts IsKnown (c ∷ b)) (c == SZARRAY) _ _
    (λ t. IfSome-map (Takes code_parts HasValues b) (Takes type_parts IsKnown (c ∷ b)) (λ x. (Vector x.0, x.1)) (first_type b) (first_found b)
    (λ x took. record { good = took.good; are = (c ∷ [], b, refl, ap (λ (n : ℕ). n ∷ []) (eqb-true c SZARRAY t), took.are) }))
    (λ _. IfSome-map (Takes code_parts HasValues (c ∷ b)) (Takes type_parts IsKnown (c ∷ b)) (λ x. (One x.0, x.1)) (first_type (c ∷ b)) (first_found (c ∷ b))
    (λ x took. record { good = took.good; are = took.are }))

no_array : (of : ElementType) → HasValues of → (code_of of == SZARRAY) ≡ false
no_array SystemType h = refl
no_array (Simple Boolean) h = refl
no_array (Simple _) h = refl

argument_type_again : (of : ArgumentType) (b tail : List ℕ) → IsKnown of → AreParts (type_parts of) tail b → argument_type_at b ≡ Some (of, tail)
unfolding argument_type_at
argument_type_again (One of) b tail h f = rw (f.2, f.3, f.4, no_array of h, type_again of h) refl
argument_type_again (Vector of) b tail h f = rw (f.2, f.3, first_again of f.1 tail h f.4) refl

abbrev pub intro_parts : Intro → List Part
intro_parts x = byte (member_code x.member) ∷ (type_parts x.of ++ string (Some x.name) ∷ [])

abbrev IsMemberCode : ℕ → Member → Type 0
IsMemberCode c m = c ≡ member_code m

member_found : (b : List ℕ) → IfSome (member_at b) (Takes (λ m. byte (member_code m) ∷ []) (λ m. Any m) b)
unfolding member_of
member_found [] = tt
member_found (c ∷ b) =
    IfSome-map (IsMemberCode c) (Takes (λ m. byte (member_code m) ∷ []) (λ m. Any m) (c ∷ b)) (λ m. (m, b)) (member_of c)
    (IfSome-cond (IsMemberCode c) (c == 0x53) (Some Field) _ (λ t. eqb-true c 0x53 t) (λ _. IfSome-cond (IsMemberCode c) (c == 0x54) (Some Property) None (λ t. eqb-true c 0x54 t) (λ _. tt)))
    (λ m e. record { good = tt; are = (c ∷ [], b, refl, ap (λ (n : ℕ). n ∷ []) e, refl) })

member_again : (m : Member) (b tail : List ℕ) → AreParts (byte (member_code m) ∷ []) tail b → member_at b ≡ Some (m, tail)
unfolding member_of
member_again Field b tail f = rw (f.2, f.3, f.4) refl
member_again Property b tail f = rw (f.2, f.3, f.4) refl

name_found : NumbersAreRead → (m : Member) (of : ArgumentType) (b mid : List ℕ) → AreBytes mid → IsKnown of → AreParts (byte (member_code m) ∷ type_parts of) mid b → IfSome (option_and_then (named_by m of) (string_at mid)) (Takes intro_parts (λ x. IsKnown x.of) b)
name_found known m of b mid h good f =
    IfSome-bind (Takes string_parts (λ t. Any t) mid) (Takes intro_parts (λ x. IsKnown x.of) b) (named_by m of) (string_at mid) ((string_reads known).found mid h)
    (λ x took. named_found m of b mid good f x took)
  where
    named_found : (m : Member) (of : ArgumentType) (b mid : List ℕ) → IsKnown of → AreParts (byte (member_code m) ∷ type_parts of) mid b → (x : Option (List ℕ) × List ℕ) → Takes string_parts (λ t. Any t) mid x → IfSome (named_by m of x) (Takes intro_parts (λ x. IsKnown x.of) b)
    named_found m of b mid good f (None, remainder) took = tt
    named_found m of b mid good f (Some name, remainder) took = record { good = good; are = parts_append (byte (member_code m) ∷ type_parts of) (string_parts (Some name)) b mid remainder f took.are }

pub intro_reads : NumbersAreRead → Reads intro_at intro_parts (λ x. IsKnown x.of)
unfolding intro_at
intro_reads known = record {
  found = λ b h. IfSome-bind (Takes (λ m. byte (member_code m) ∷ []) (λ m. Any m) b) (Takes intro_parts (λ x. IsKnown x.of) b) _ (member_at b) (member_found b)
      (λ m took. IfSome-bind (Takes type_parts IsKnown m.1) (Takes intro_parts (λ x. IsKnown x.of) b) _ (argument_type_at m.1) (argument_type_found m.1)
      (λ of typed.
      let f = parts_append (byte (member_code m.0) ∷ []) (type_parts of.0) b m.1 of.1 took.are typed.are in
      name_found known m.0 of.0 b of.1 (bytes_after (byte (member_code m.0) ∷ type_parts of.0) b of.1 f h) typed.good f));
  again = λ b tail x good f.
      let s = parts_split (type_parts x.of) (string_parts (Some x.name)) f.1 tail f.4 in
      let member = member_again x.member b f.1 (f.0, f.1, f.2, f.3, refl) in
      let typed = argument_type_again x.of f.1 s.0 good s.1 in
      let name = (string_reads known).again s.0 tail (Some x.name) tt s.2 in
      rw (member, typed, name) refl;
}
