-- The text of a value is that of its items.
use Rattle.custom_attributes.proofs.TextPrelude.{◌≡◌, ◌∙◌, ℕ, suc, List, [], ◌∷◌, ◌++◌, append_assoc, None, Some, length, map, refl, sym, ap, codes, decimal, flat_map, Elem, Argument, one, vector, Named, AttributeValue, argument_type, Item, entry, named_count, head_of, entries_of, fixed_items, named_items, items_of, argument_text, entries_text, entry_text, fixed_text, intro_text, named_text, type_word, value_text, entries_in, head_text, head_type, items_text}

entries_read : (e : Elem) (es : List Elem) (tail : List Item)
    → items_text (suc (length es)) (map entry (e ∷ es) ++ tail) ≡ entries_text (e ∷ es) ++ (codes ")" ++ items_text 0 tail)
unfolding items_text
entries_read e [] tail = append_assoc (entry_text e) (codes ")") (items_text 0 tail)
entries_read e (f ∷ es) tail = ap (λ (t : List ℕ). (entry_text e ++ codes " ") ++ t) (entries_read f es tail) ∙ simp append_assoc

argument_read : (a : Argument) (tail : List Item)
    → head_text (head_of a) ++ items_text (entries_in (head_of a)) (entries_of a ++ tail) ≡ argument_text a ++ items_text 0 tail
argument_read (one e) tail = refl
argument_read (vector of None) tail = refl
argument_read (vector of (Some [])) tail = refl
argument_read (vector of (Some (e ∷ es))) tail =
    ap (λ (t : List ℕ). (type_word of ++ (codes "[" ++ (decimal (suc (length es)) ++ (codes "](" ++ [])))) ++ t) (entries_read e es tail) ∙ simp append_assoc

fixed_read : (arguments : List Argument) (tail : List Item) → items_text 0 (flat_map fixed_items arguments ++ tail) ≡ flat_map fixed_text arguments ++ items_text 0 tail
unfolding items_text
fixed_read [] tail = refl
fixed_read (a ∷ arguments) tail =
    let later = flat_map fixed_items arguments in
    ap (λ (items : List Item). (codes " " ++ head_text (head_of a)) ++ items_text (entries_in (head_of a)) items) (append_assoc (entries_of a) later tail)
    ∙ ap (λ (t : List ℕ). codes " " ++ t) (argument_read a (later ++ tail) ∙ ap (λ (t : List ℕ). argument_text a ++ t) (fixed_read arguments tail))
    ∙ simp append_assoc

type_is : (a : Argument) → head_type (head_of a) ≡ argument_type a
type_is (one e) = refl
type_is (vector of es) = refl

named_read : (arguments : List Named) → items_text 0 (flat_map named_items arguments) ≡ flat_map named_text arguments
unfolding items_text
named_read [] = refl
named_read (n ∷ arguments) =
    let later = flat_map named_items arguments in
    let intro = intro_text n.member (head_type (head_of n.value)) n.name in
    append_assoc intro (head_text (head_of n.value)) (items_text (entries_in (head_of n.value)) (entries_of n.value ++ later))
    ∙ ap (λ (t : List ℕ). intro ++ t) (argument_read n.value later ∙ ap (λ (t : List ℕ). argument_text n.value ++ t) (named_read arguments))
    ∙ ap (λ of. intro_text n.member of n.name ++ (argument_text n.value ++ flat_map named_text arguments)) (type_is n.value)
    ∙ sym (append_assoc (intro_text n.member (argument_type n.value) n.name) (argument_text n.value) (flat_map named_text arguments))

pub value_read : (v : AttributeValue) → items_text 0 (items_of v) ≡ value_text v
unfolding items_text
value_read v =
    fixed_read v.fixed (named_count (length v.named) ∷ flat_map named_items v.named)
    ∙ ap (λ (t : List ℕ). flat_map fixed_text v.fixed ++ t) (named_read v.named)
