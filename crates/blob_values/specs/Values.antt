-- The values of custom attributes, independent of their bytes (ECMA-335 II.23.3).
use Rattle.std.specs.Prelude.{ℕ, Option, List}
use Rattle.sig_grammar.specs.declared.element.Element.{Element}
use Rattle.sig_grammar.specs.declared.element.Element.TheVariants.{String, Object}
use Rattle.blob_values.specs.declared.types.ElementType.{ElementType}
use Rattle.blob_values.specs.declared.types.ElementType.TheVariants.{Simple, SystemType}
use Rattle.blob_values.specs.declared.types.ArgumentType.{ArgumentType}
use Rattle.blob_values.specs.declared.types.ArgumentType.TheVariants.{One, Vector}
use Rattle.blob_values.specs.declared.item.Member.{Member}

-- a truth value, a character or a number, by the number that its bytes are; a string; the name of a type. `None` is null
pub data Scalar : Type 0 where
  number : Element → ℕ → Scalar
  text : Option (List ℕ) → Scalar
  type_name : Option (List ℕ) → Scalar

-- an element: a scalar, or an object that boxes it
pub data Elem : Type 0 where
  plain : Scalar → Elem
  boxed : Scalar → Elem

-- an argument: an element, or an array of elements of a type, which may be null
pub data Argument : Type 0 where
  one : Elem → Argument
  vector : ElementType → Option (List Elem) → Argument

-- a field or a property, and its value
pub record Named : Type 0 where
  pub member : Member
  pub name : List ℕ
  pub value : Argument

pub record AttributeValue : Type 0 where
  pub fixed : List Argument
  pub named : List Named

abbrev pub scalar_type : Scalar → ElementType
scalar_type (number of n) = Simple of
scalar_type (text t) = Simple String
scalar_type (type_name t) = SystemType

abbrev pub element_type : Elem → ElementType
element_type (plain x) = scalar_type x
element_type (boxed x) = Simple Object

abbrev pub argument_type : Argument → ArgumentType
argument_type (one e) = One (element_type e)
argument_type (vector of es) = Vector of
