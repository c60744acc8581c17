-- Reads a whole signature, by the kind of its column (ECMA-335 II.23.2 and II.22).
use Rattle.std.specs.Prelude.{ℕ, Bool, true, false, option_and_then, List}
use Rattle.sig_grammar.specs.declared.body.Prefix.{Prefix}
use Rattle.table_schema.specs.declared.column.SigKind.{SigKind}
use Rattle.table_schema.specs.declared.column.SigKind.TheVariants as column
use Rattle.sig_grammar.specs.Syntax.{Core, Content, Slot, LocalVariable, local, Body, field, method_body, property, locals, instance_body, type_spec}
use Rattle.sig_grammar.specs.Reading.{Reader, change, both, behind, fail, number_at, many_at, counted_at, prefixes_at, typed_at, content_at, slot_at, ret_at, method_at}

abbrev pub local_from : List Prefix × Content → LocalVariable
local_from x = local x.0 x.1

unfoldable pub local_at : Reader Core → Reader LocalVariable
local_at nested = change local_from (both prefixes_at (content_at nested))

-- a count n, one value, and n further values
unfoldable pub headed_at : {A : Type 0} → Reader A → Reader (A × List A)
headed_at r b = option_and_then (λ n. both r (many_at r n.0) n.1) (number_at b)

abbrev pub property_from : Bool → Slot × List Slot → Body
property_from this x = property this x.0 x.1

abbrev pub method_or : Bool → Reader Core → Reader Body
method_or own nested = change method_body (method_at own nested)

abbrev pub field_or : Reader Core → Reader Body → Reader Body
field_or nested other = behind 0x06 (change field (slot_at nested)) other

abbrev pub locals_or : Reader Core → Reader Body → Reader Body
locals_or nested other = behind 0x07 (change locals (counted_at (local_at nested))) other

abbrev pub property_or : ℕ → Bool → Reader Core → Reader Body → Reader Body
property_or code this nested other = behind code (change (property_from this) (headed_at (slot_at nested))) other

abbrev pub instance_or : Reader Core → Reader Body → Reader Body
instance_or nested other = behind 0x0A (change instance_body (counted_at (typed_at nested))) other

unfoldable pub body_at : SigKind → Reader Core → Reader Body
body_at column.Field nested = field_or nested fail
body_at column.MethodDef nested = method_or false nested
body_at column.MemberRef nested = field_or nested (method_or true nested)
body_at column.StandAlone nested = locals_or nested (field_or nested (method_or true nested))
body_at column.Property nested = property_or 0x28 true nested (property_or 0x08 false nested fail)
body_at column.TypeSpec nested = change type_spec (ret_at nested)
body_at column.Instance nested = instance_or nested fail
