-- The items of a value, in the order of its blob.
use Rattle.std.specs.Prelude.{ℕ, Option, Some, None, option_map, List, [], ◌∷◌, ◌++◌, length, map, flat_map}
use Rattle.blob_values.specs.declared.types.ElementType.{ElementType}
use Rattle.blob_values.specs.declared.item.Member.{Member}
use Rattle.blob_values.specs.Values.{Elem, Argument, one, vector, Named, AttributeValue}

-- an argument without the elements of its array, whose number it has
pub data Head : Type 0 where
  element : Elem → Head
  array : ElementType → Option ℕ → Head

pub data Item : Type 0 where
  fixed : Head → Item
  entry : Elem → Item
  named_count : ℕ → Item
  named : Member → List ℕ → Head → Item

abbrev pub head_of : Argument → Head
head_of (one e) = element e
head_of (vector of es) = array of (option_map length es)

-- the elements of an array
abbrev pub entries_of : Argument → List Item
entries_of (one e) = []
entries_of (vector of None) = []
entries_of (vector of (Some es)) = map entry es

abbrev pub fixed_items : Argument → List Item
fixed_items a = fixed (head_of a) ∷ entries_of a

abbrev pub named_items : Named → List Item
named_items n = named n.member n.name (head_of n.value) ∷ entries_of n.value

abbrev pub items_of : AttributeValue → List Item
items_of v = flat_map fixed_items v.fixed ++ named_count (length v.named) ∷ flat_map named_items v.named
