-- The text of a value, item by item. Private functions compute this.
use Rattle.std.specs.Prelude.{ℕ, zero, suc, None, Some, List, [], ◌∷◌, ◌++◌, codes, decimal}
use Rattle.blob_values.specs.declared.types.ArgumentType.{ArgumentType}
use Rattle.blob_values.specs.declared.types.ArgumentType.TheVariants.{One, Vector}
use Rattle.blob_values.specs.Values.{element_type}
use Rattle.blob_values.specs.Items.{Head, element, array, Item, fixed, entry, named_count, named}
use Rattle.custom_attributes.specs.Texts.{element_argument, entry_text, intro_text, type_word}

-- the end of an array without elements
abbrev pub end_if_none : ℕ → List ℕ
end_if_none zero = codes ")"
end_if_none (suc n) = []

-- an argument without the elements of its array
abbrev pub head_text : Head → List ℕ
head_text (element e) = element_argument e
head_text (array of None) = type_word of ++ codes "[](nullref)"
head_text (array of (Some n)) = type_word of ++ (codes "[" ++ (decimal n ++ (codes "](" ++ end_if_none n)))

abbrev pub head_type : Head → ArgumentType
head_type (element e) = One (element_type e)
head_type (array of count) = Vector of

-- the number of elements that follow
abbrev pub entries_in : Head → ℕ
entries_in (array of (Some n)) = n
entries_in _ = zero

-- what follows an element of an array, if this many remain with it
abbrev pub entry_end : ℕ → List ℕ
entry_end (suc zero) = codes ")"
entry_end _ = codes " "

abbrev pub fewer : ℕ → ℕ
fewer zero = zero
fewer (suc n) = n

-- the text of an item, if this many elements of an array remain with it
abbrev pub item_text : ℕ → Item → List ℕ
item_text left (fixed head) = codes " " ++ head_text head
item_text left (entry e) = entry_text e ++ entry_end left
item_text left (named_count n) = []
item_text left (named member name head) = intro_text member (head_type head) name ++ head_text head

-- the number of elements that remain after it
abbrev pub left_after : ℕ → Item → ℕ
left_after left (fixed head) = entries_in head
left_after left (entry e) = fewer left
left_after left (named_count n) = zero
left_after left (named member name head) = entries_in head

unfoldable pub items_text : ℕ → List Item → List ℕ
items_text left [] = []
items_text left (i ∷ items) = item_text left i ++ items_text (left_after left i) items
