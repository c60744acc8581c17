-- What the contracts see of the items of src/.
use Rattle.std.specs.Prelude.{option_map}
use Rattle.blob_values.specs.declared.item.Scalar.{Scalar as ScalarRef}
use Rattle.blob_values.specs.declared.item.Scalar.TheVariants as scalar
use Rattle.blob_values.specs.declared.item.Value.{Value}
use Rattle.blob_values.specs.declared.item.Value.TheVariants as value
use Rattle.blob_values.specs.declared.item.Argument.{Argument as ArgumentRef}
use Rattle.blob_values.specs.declared.item.Argument.TheVariants as argument
use Rattle.blob_values.specs.declared.item.Item.{Item as ItemRef}
use Rattle.blob_values.specs.declared.item.Item.TheVariants as item
use Rattle.blob_values.specs.Values.{Scalar, number, text, type_name, Elem, plain, boxed}
use Rattle.blob_values.specs.Items.{Head, element, array, Item, fixed, entry, named_count, named}

abbrev pub scalar_view : ScalarRef → Scalar
scalar_view (scalar.Number of n) = number of n
scalar_view (scalar.String t) = text (option_map (λ x. x.now) t)
scalar_view (scalar.SystemType t) = type_name (option_map (λ x. x.now) t)

abbrev pub element_view : Value → Elem
element_view (value.Plain x) = plain (scalar_view x)
element_view (value.Boxed x) = boxed (scalar_view x)

abbrev pub head_view : ArgumentRef → Head
head_view (argument.One x) = element (element_view x)
head_view (argument.Vector of count) = array of count

abbrev pub view : ItemRef → Item
view (item.Fixed x) = fixed (head_view x)
view (item.Element x) = entry (element_view x)
view (item.NamedCount n) = named_count n
view (item.Named member name x) = named member name.now (head_view x)
