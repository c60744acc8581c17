-- The items of the value of a custom attribute, for a C caller (ECMA-335 II.23.3).
use Rattle.std.specs.Prelude.{◌≡◌, ℕ, Bool, true, false, None, Some, unwrap_or, is_some, not, List, [], length, map, take}
use Rattle.std.specs.List.{SameFrom}
use Rattle.blob_values.specs.declared.item.Member.{Member}
use Rattle.blob_values.specs.declared.item.Member.TheVariants.{Field, Property}
use Rattle.blob_values.specs.Values.{Scalar, number, text, type_name, Elem, plain, boxed, scalar_type}
use Rattle.blob_values.specs.Parts.{code_of}
use Rattle.blob_values.specs.Items.{Head, element, array, Item, fixed, entry, named_count, named}
use Rattle.c_values.specs.declared.item.ClimAttributeItem.{ClimAttributeItem}

-- the fields of an item for C
pub record Fields : Type 0 where
  pub name : List ℕ
  pub text : List ℕ
  pub number : ℕ
  pub kind : ℕ
  pub form : ℕ
  pub of : ℕ
  pub is_null : Bool

abbrev pub fields_of : ClimAttributeItem → Fields
fields_of item = record {
  name = item.name.now;
  text = item.text.now;
  number = item.number;
  kind = item.kind;
  form = item.form;
  of = item.of;
  is_null = item.is_null;
}

-- ---- the fields of a value: its form, its type, and what it is. Those that do not belong to it are 0 or no bytes

abbrev pub number_in : Scalar → ℕ
number_in (number of n) = n
number_in _ = 0

abbrev pub text_in : Scalar → List ℕ
text_in (text (Some t)) = t
text_in (type_name (Some t)) = t
text_in _ = []

abbrev pub is_null : Scalar → Bool
is_null (text None) = true
is_null (type_name None) = true
is_null _ = false

abbrev pub scalar_fields : (kind : ℕ) (name : List ℕ) (form : ℕ) → Scalar → Fields
scalar_fields kind name form x = record {
  name = name;
  text = text_in x;
  number = number_in x;
  kind = kind;
  form = form;
  of = code_of (scalar_type x);
  is_null = is_null x;
}

-- 1 is a value of the type of the argument, 2 one that an object boxes
abbrev pub element_fields : (kind : ℕ) (name : List ℕ) → Elem → Fields
element_fields kind name (plain x) = scalar_fields kind name 1 x
element_fields kind name (boxed x) = scalar_fields kind name 2 x

-- 3 is an array, with the type and the number of its elements
abbrev pub head_fields : (kind : ℕ) (name : List ℕ) → Head → Fields
head_fields kind name (element e) = element_fields kind name e
head_fields kind name (array of count) = record {
  name = name;
  text = [];
  number = unwrap_or count 0;
  kind = kind;
  form = 3;
  of = code_of of;
  is_null = not (is_some count);
}

-- ---- items

abbrev pub member_kind : Member → ℕ
member_kind Field = 4
member_kind Property = 5

-- 1 is a fixed argument, 2 an element of an array, 3 the number of named arguments, 4 a field, and 5 a property
abbrev pub item_fields : Item → Fields
item_fields (fixed head) = head_fields 1 [] head
item_fields (entry e) = element_fields 2 [] e
item_fields (named_count n) = record { name = []; text = []; number = n; kind = 3; form = 0; of = 0; is_null = false }
item_fields (named member name head) = head_fields (member_kind member) name head

-- the first elements are these items, in order, up to the number of elements; the others are unchanged
pub record AreItems (items : List Item) (before after : List ClimAttributeItem) : Type 0 where
  pub written : map fields_of (take (length items) after) ≡ map item_fields (take (length before) items)
  pub same : SameFrom before after (length items)
