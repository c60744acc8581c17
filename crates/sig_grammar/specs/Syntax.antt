-- Signatures as the contracts see them: their content, independent of memory layout (ECMA-335 II.23.2).
use Rattle.std.specs.Prelude.{ℕ, ℤ, Bool, Option, List}
use Rattle.table_schema.specs.declared.token.Token.{Token}
use Rattle.sig_grammar.specs.declared.element.Element.{Element}
use Rattle.sig_grammar.specs.declared.types.Modifier.{Modifier}
use Rattle.sig_grammar.specs.declared.body.Prefix.{Prefix}

-- the shape of an array (II.23.2.13)
pub record ArrayShape : Type 0 where
  pub rank : ℕ
  pub sizes : List ℕ
  pub low : List ℤ

mutual
  -- a type without the modifiers before it (II.23.2.12)
  pub data Core : Type 0 where
    simple : Element → Core
    void_pointer : List Modifier → Core
    pointer : List Modifier → Core → Core
    vector : Typed → Core
    array : Typed → ArrayShape → Core
    class : Token → Core
    value : Token → Core
    var : ℕ → Core
    mvar : ℕ → Core
    instance : Bool → Token → Types → Core
    function : Method → Core

  -- modifiers, and the type that they qualify
  pub data Typed : Type 0 where
    typed : List Modifier → Core → Typed

  pub data Types : Type 0 where
    no_types : Types
    type_then : Typed → Types → Types

  -- the kind and type of a parameter, a field or a result (II.23.2.10)
  pub data Content : Type 0 where
    typed_ref : Content
    plain : Core → Content
    by_ref : List Modifier → Core → Content

  pub data Slot : Type 0 where
    slot : List Modifier → Content → Slot

  pub data Slots : Type 0 where
    no_slots : Slots
    slot_then : Slot → Slots → Slots

  -- the result of a method (II.23.2.11)
  pub data Ret : Type 0 where
    some_ret : Slot → Ret
    void_ret : List Modifier → Ret

  -- calling convention, HASTHIS, EXPLICITTHIS, number of generic parameters, result, parameters, number before SENTINEL
  pub data Method : Type 0 where
    method : ℕ → Bool → Bool → Option ℕ → Ret → Slots → Option ℕ → Method

-- a local variable (II.23.2.6)
pub data LocalVariable : Type 0 where
  local : List Prefix → Content → LocalVariable

-- a whole signature
pub data Body : Type 0 where
  field : Slot → Body
  method_body : Method → Body
  property : Bool → Slot → List Slot → Body
  locals : List LocalVariable → Body
  instance_body : List Typed → Body
  type_spec : Ret → Body
