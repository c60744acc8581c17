-- The tables of coded indexes by their tags.
use Rattle.std.proofs.Common.{◌≡◌, ◌≢◌, ℕ, zero, suc, ◌+◌, ◌-◌, ◌*◌, ◌/◌, ◌%◌, ◌^◌, ◌<◌, ◌≤◌, Bool, true, false, cond, List, [], ◌∷◌, length, Option, Some, None, refl, sym, subst, ap, ◌∙◌, lit≤, arith, eqb, eq-eqb}
use Rattle.std.specs.List.{slice_get}
use Rattle.std.specs.Prelude.{IfSome, IfNone, get_or}
use Rattle.std.specs.Option.{option_eq}
use Rattle.std.proofs.lemmas.Option.{slice_get_within, slice_get_read, slice_get-get_or, get_or_from_slice_get}
use Rattle.std.proofs.Math.Nat.{mod-eq_of_lt}
use Rattle.std.proofs.lemmas.Nat.{same_from_place, shr_split, one_shl}
use denote.Enum.Bare.{same_true, true_same}
use Rattle.table_schema.specs.contracts.table.TableId as kind
use Rattle.table_schema.specs.contracts.table.TableIdPartialEq.TheImpl as equality
use Rattle.table_schema.specs.declared.table.TableId.{TableId}
use Rattle.table_schema.specs.declared.coded.Coded.{Coded}
use Rattle.table_schema.specs.declared.coded.Coded.TheVariants as coded
use Rattle.table_schema.specs.Tables.{table_number}
use Rattle.table_schema.specs.CodedIndexes.{tables_of, tag_bits, IsCoded}

-- a tag fits beside a row
pub tables_few : (c : Coded) → length (tables_of c) ≤ 2 ^ tag_bits c
tables_few coded.TypeDefOrRef = lit≤ tt
tables_few _ = lit≤ tt

pub tag_below : (c : Coded) (tag : ℕ) (table : TableId) → slice_get (tables_of c) tag ≡ Some (Some table) → tag < 2 ^ tag_bits c
tag_below c tag table e = let few = tables_few c in let within = slice_get_within (tables_of c) tag (Some table) e in omega arith

-- the list has no table with this number
abbrev lacks : ℕ → List (Option TableId) → Bool
lacks number [] = true
lacks number (None ∷ listed) = lacks number listed
lacks number (Some table ∷ listed) = cond (eqb (table_number table) number) false (lacks number listed)

-- the list has no table twice
abbrev are_distinct : List (Option TableId) → Bool
are_distinct [] = true
are_distinct (None ∷ listed) = are_distinct listed
are_distinct (Some table ∷ listed) = cond (lacks (table_number table) listed) (are_distinct listed) false

distinct : (c : Coded) → are_distinct (tables_of c) ≡ true
distinct coded.TypeDefOrRef = refl
distinct _ = refl

both : (a b : Bool) → cond a b false ≡ true → (a ≡ true) × (b ≡ true)
both true b e = (refl, e)
both false b e = cc

neither : (a b : Bool) → cond a false b ≡ true → (a ≡ false) × (b ≡ true)
neither true b e = cc
neither false b e = (refl, e)

lacks_all : (number : ℕ) (listed : List (Option TableId)) (k : ℕ) (table : TableId) → lacks number listed ≡ true → slice_get listed k ≡ Some (Some table) → table_number table ≢ number
lacks_all number [] k table h e = cc
lacks_all number (None ∷ listed) zero table h e = cc
lacks_all number (None ∷ listed) (suc k) table h e = lacks_all number listed k table h e
lacks_all number (Some first ∷ listed) zero table h e = λ same.
    let here : first ≡ table = cc in
    let differs = (neither (eqb (table_number first) number) (lacks number listed) h).0 in
    let equal : eqb (table_number first) number ≡ true = eq-eqb (table_number first) number (ap table_number here ∙ same) in
    cc
lacks_all number (Some first ∷ listed) (suc k) table h e = lacks_all number listed k table (neither (eqb (table_number first) number) (lacks number listed) h).1 e

tag_alone : (listed : List (Option TableId)) (a b : ℕ) (table : TableId) → are_distinct listed ≡ true → slice_get listed a ≡ Some (Some table) → slice_get listed b ≡ Some (Some table) → a ≡ b
tag_alone [] a b table h e f = cc
tag_alone (None ∷ listed) zero b table h e f = cc
tag_alone (None ∷ listed) (suc a) zero table h e f = cc
tag_alone (None ∷ listed) (suc a) (suc b) table h e f = ap suc (tag_alone listed a b table h e f)
tag_alone (Some first ∷ listed) zero zero table h e f = refl
tag_alone (Some first ∷ listed) zero (suc b) table h e f =
    let here : first ≡ table = cc in
    absurd (lacks_all (table_number first) listed b table (both (lacks (table_number first) listed) (are_distinct listed) h).0 f (ap table_number (sym here)))
tag_alone (Some first ∷ listed) (suc a) zero table h e f =
    let here : first ≡ table = cc in
    absurd (lacks_all (table_number first) listed a table (both (lacks (table_number first) listed) (are_distinct listed) h).0 e (ap table_number (sym here)))
tag_alone (Some first ∷ listed) (suc a) (suc b) table h e f = ap suc (tag_alone listed a b table (both (lacks (table_number first) listed) (are_distinct listed) h).1 e f)

-- a table has one tag
pub one_tag : (c : Coded) (a b : ℕ) (table : TableId) → slice_get (tables_of c) a ≡ Some (Some table) → slice_get (tables_of c) b ≡ Some (Some table) → a ≡ b
one_tag c a b table e f = tag_alone (tables_of c) a b table (distinct c) e f

-- a number refers to one table and one row
pub one_name : (c : Coded) (number : ℕ) (a b : TableId) (m n : ℕ) → IsCoded c number a m → IsCoded c number b n → (a ≡ b) × (m ≡ n)
one_name c number a b m n x y =
    let below = tag_below c x.tag a x.listed in
    let low = tag_below c y.tag b y.listed in
    let same = same_from_place m x.tag n y.tag (2 ^ tag_bits c) below low (sym x.equal ∙ y.equal) in
    let tables : Some (Some a) ≡ Some (Some b) = sym x.listed ∙ ap (slice_get (tables_of c)) same.1 ∙ y.listed in
    (cc, same.0)

-- the row and the tag in a number
pub is_named : (c : Coded) (number bits : ℕ) (table : TableId) → bits ≡ tag_bits c → number < 2 ^ 32
    → slice_get (tables_of c) (number - number / 2 ^ bits * 2 ^ bits % 2 ^ 32) ≡ Some (Some table) → IsCoded c number table (number / 2 ^ bits)
is_named c number bits table e small listed =
    let split = shr_split number bits in
    let below : number / 2 ^ bits * 2 ^ bits < 2 ^ 32 = omega arith in
    let whole = mod-eq_of_lt below in
    record { tag = number - number / 2 ^ bits * 2 ^ bits % 2 ^ 32; listed = listed; equal = omega (arith, ap (λ k. number / 2 ^ bits * 2 ^ k) e) }

-- the tag that is left when the row is removed from a number
pub tag_is : (c : Coded) (number bits : ℕ) (table : TableId) (row : ℕ) → bits ≡ tag_bits c → number < 2 ^ 32 → IsCoded c number table row
    → slice_get (tables_of c) (number - number / 2 ^ bits * 2 ^ bits % 2 ^ 32) ≡ Some (Some table)
tag_is c number bits table row e small named =
    let below : named.tag < 2 ^ bits = rw e (tag_below c named.tag table named.listed) in
    let whole : number / 2 ^ bits * 2 ^ bits + number % 2 ^ bits ≡ row * 2 ^ bits + named.tag = rw e (shr_split number (tag_bits c) ∙ named.equal) in
    let few : number % 2 ^ bits < 2 ^ bits = omega arith in
    let same = same_from_place (number / 2 ^ bits) (number % 2 ^ bits) row named.tag (2 ^ bits) few below whole in
    let split = shr_split number bits in
    let within : number / 2 ^ bits * 2 ^ bits < 2 ^ 32 = omega arith in
    let kept = mod-eq_of_lt within in
    let left : number - number / 2 ^ bits * 2 ^ bits % 2 ^ 32 ≡ named.tag = omega arith in
    rw left named.listed

-- a table that is at no tag below the length is at no tag
pub lists_no_more : (listed same : List (Option TableId)) (n : ℕ) (table : TableId) → same ≡ listed → length same ≤ n
    → ((k : ℕ) → k < n → slice_get listed k ≢ Some (Some table)) → (tag : ℕ) → slice_get listed tag ≢ Some (Some table)
lists_no_more listed same n table e le none tag found =
    let within = slice_get_within listed tag (Some table) found in
    let equal : length same ≡ length listed = ap length e in
    none tag (omega arith) found

-- an entry of the list of tables at a tag, and the table in it, if there is one
stands_at : (listed same : List (Option TableId)) (tag : ℕ) (o : Option TableId) → same ≡ listed → tag < length same → o ≡ get_or same tag o → slice_get listed tag ≡ Some o
stands_at listed same tag o e within is = subst (λ (l : List (Option TableId)). slice_get l tag ≡ Some o) e (slice_get_read same (length same) tag o refl within is)

pub named_at : (listed same : List (Option TableId)) (tag : ℕ) (o : Option TableId) → same ≡ listed → tag < length same → o ≡ get_or same tag o
    → IfSome o (λ table. slice_get listed tag ≡ Some (Some table))
named_at listed same tag None e within is = tt
named_at listed same tag (Some table) e within is = stands_at listed same tag (Some table) e within is

pub unnamed_at : (listed same : List (Option TableId)) (tag : ℕ) (o : Option TableId) → same ≡ listed → tag < length same → o ≡ get_or same tag o
    → IfNone o ((table : TableId) → slice_get listed tag ≢ Some (Some table))
unnamed_at listed same tag None e within is = λ table other. let here = stands_at listed same tag None e within is in cc
unnamed_at listed same tag (Some table) e within is = tt

-- whether the table is the one at a tag
equal_some : (o : Option TableId) (table : TableId) → option_eq equality.eq-value.it o (Some table) ≡ true → o ≡ Some table
equal_some None table h = absurd cc
equal_some (Some other) table h = ap Some (same_true kind.the_type tt other table h)

pub meets : (listed same : List (Option TableId)) (tag : ℕ) (d : Option TableId) (table : TableId) → same ≡ listed → tag < length same
    → option_eq equality.eq-value.it (get_or same tag d) (Some table) ≡ true → slice_get listed tag ≡ Some (Some table)
meets listed same tag d table e within h =
    subst (λ (l : List (Option TableId)). slice_get l tag ≡ Some (Some table)) e (slice_get-get_or same tag d within ∙ ap Some (equal_some (get_or same tag d) table h))

pub misses : (listed same : List (Option TableId)) (tag : ℕ) (d : Option TableId) (table : TableId) → same ≡ listed
    → option_eq equality.eq-value.it (get_or same tag d) (Some table) ≡ false → slice_get listed tag ≢ Some (Some table)
misses listed same tag d table e h found =
    let here : slice_get same tag ≡ Some (Some table) = subst (λ (l : List (Option TableId)). slice_get l tag ≡ Some (Some table)) (sym e) found in
    let read = get_or_from_slice_get same tag (Some table) d here in
    let equal : equality.eq-value.it table table ≡ true = true_same kind.the_type table table refl in
    let unequal : equality.eq-value.it table table ≡ false = sym (ap (λ o. option_eq equality.eq-value.it o (Some table)) read) ∙ h in
    cc

-- one shifted by the number of tag bits
pub shifted : (c : Coded) (bits row : ℕ) → bits ≡ tag_bits c → bits ≤ 5 → row * (1 * 2 ^ bits % 2 ^ 32) ≡ row * 2 ^ tag_bits c
shifted c bits row e few = ap (λ n. row * n) (one_shl bits 32 (omega arith) ∙ ap (λ k. 2 ^ k) e)

-- the tag bits and the remaining bits together make 16 bits
pub tag_narrow : (c : Coded) → 2 ^ tag_bits c * 2 ^ (16 - tag_bits c) ≡ 2 ^ 16
tag_narrow coded.TypeDefOrRef = refl
tag_narrow _ = refl

-- four bytes hold any row beside the tag
pub tag_wide : (c : Coded) → 2 ^ tag_bits c * 2 ^ 24 ≤ 2 ^ 32
tag_wide coded.TypeDefOrRef = lit≤ tt
tag_wide _ = lit≤ tt
