-- Which tables and cells the lists of members are (ECMA-335 II.22.12, II.22.26, II.22.35 and II.22.37).
use Rattle.std.specs.Prelude.{ℕ}
use Rattle.table_schema.specs.declared.table.TableId.{TableId}
use Rattle.table_schema.specs.declared.table.TableId.TheVariants.{TypeDef, MethodDef, Field, Param, EventMap, Event, PropertyMap, Property}
use Rattle.metadata.specs.declared.member_lists.MemberList.{MemberList}
use Rattle.metadata.specs.declared.member_lists.MemberList.TheVariants as list

-- the table of the owners
abbrev pub owner_of : MemberList → TableId
owner_of list.Fields = TypeDef
owner_of list.Methods = TypeDef
owner_of list.Params = MethodDef
owner_of list.Events = EventMap
owner_of list.Properties = PropertyMap

-- the index of the cell that lists the members, in a row of an owner
abbrev pub cell_of : MemberList → ℕ
cell_of list.Fields = 4
cell_of list.Methods = 5
cell_of list.Params = 5
cell_of list.Events = 1
cell_of list.Properties = 1

-- the table of the members
abbrev pub member_of : MemberList → TableId
member_of list.Fields = Field
member_of list.Methods = MethodDef
member_of list.Params = Param
member_of list.Events = Event
member_of list.Properties = Property
