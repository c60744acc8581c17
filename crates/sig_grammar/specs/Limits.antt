-- Conditions of the grammar that the parts do not express (ECMA-335 II.23.2), and the nesting depth of types.
use Rattle.std.specs.Prelude.{◌≡◌, ℕ, suc, ◌<◌, ◌≤◌, ◌⊎◌, max, Bool, true, false, None, length, ⊤, IfSome}
use Rattle.std.specs.List.{AllByRecursion}
use Rattle.sig_grammar.specs.Grammar.{count_slots}
use Rattle.sig_grammar.specs.Syntax.{Core, void_pointer, pointer, vector, array, instance, function, Typed, typed, Types, no_types, type_then, Content, typed_ref, plain, by_ref, Slot, slot, Slots, no_slots, slot_then, Ret, some_ret, void_ret, Method, method, ArrayShape, LocalVariable, local, Body, field, method_body, property, locals, instance_body, type_spec}

-- a type is one deeper than the deepest type directly in it; modifiers, BYREF and the index of GENERICINST add nothing
abbrev mutual
  pub core_depth : Core → ℕ
  core_depth (void_pointer modifiers) = 2
  core_depth (pointer modifiers to) = suc (core_depth to)
  core_depth (vector of) = suc (typed_depth of)
  core_depth (array of shape) = suc (typed_depth of)
  core_depth (instance is_value of args) = suc (types_depth args)
  core_depth (function m) = suc (method_depth m)
  core_depth _ = 1

  pub typed_depth : Typed → ℕ
  typed_depth (typed modifiers core) = core_depth core

  pub types_depth : Types → ℕ
  types_depth no_types = 0
  types_depth (type_then t ts) = max (typed_depth t) (types_depth ts)

  pub content_depth : Content → ℕ
  content_depth typed_ref = 1
  content_depth (plain core) = core_depth core
  content_depth (by_ref modifiers core) = core_depth core

  pub slot_depth : Slot → ℕ
  slot_depth (slot modifiers content) = content_depth content

  pub slots_depth : Slots → ℕ
  slots_depth no_slots = 0
  slots_depth (slot_then s ss) = max (slot_depth s) (slots_depth ss)

  pub ret_depth : Ret → ℕ
  ret_depth (some_ret s) = slot_depth s
  ret_depth (void_ret modifiers) = 1

  pub method_depth : Method → ℕ
  method_depth (method kind this explicit generic ret params sentinel) = max (ret_depth ret) (slots_depth params)

-- calling conventions (II.23.2.1, II.23.2.3): 0 default, 1 C, 2 stdcall, 3 thiscall, 4 fastcall, 5 vararg, 9 unmanaged
abbrev pub IsMethodKind : ℕ → Type 0
IsMethodKind kind = (kind < 6) ⊎ (kind ≡ 9)

-- SENTINEL precedes one of the parameters of a C or vararg method (II.23.2.2, II.23.2.3)
abbrev pub IsSentinel : ℕ → ℕ → ℕ → Type 0
IsSentinel kind count before = (before < count) × ((kind ≡ 1) ⊎ (kind ≡ 5))

-- the method itself has a SENTINEL only if the flag allows it
abbrev pub HasOwnSentinel : Bool → Method → Type 0
HasOwnSentinel true m = ⊤
HasOwnSentinel false (method kind this explicit generic ret params sentinel) = sentinel ≡ None

-- an array has at least one dimension, and no more sizes or lower bounds than dimensions (II.23.2.13)
abbrev pub IsArrayShape : ArrayShape → Type 0
IsArrayShape shape = (1 ≤ shape.rank) × (length shape.sizes ≤ shape.rank) × (length shape.low ≤ shape.rank)

-- the grammar allows each calling convention, array shape and SENTINEL in the value
abbrev mutual
  pub IsCore : Core → Type 0
  IsCore (pointer modifiers to) = IsCore to
  IsCore (vector of) = IsTyped of
  IsCore (array of shape) = IsTyped of × IsArrayShape shape
  IsCore (instance is_value of args) = AreTypes args
  IsCore (function m) = IsMethod m
  IsCore _ = ⊤

  pub IsTyped : Typed → Type 0
  IsTyped (typed modifiers core) = IsCore core

  pub AreTypes : Types → Type 0
  AreTypes no_types = ⊤
  AreTypes (type_then t ts) = IsTyped t × AreTypes ts

  pub IsContent : Content → Type 0
  IsContent typed_ref = ⊤
  IsContent (plain core) = IsCore core
  IsContent (by_ref modifiers core) = IsCore core

  pub IsSlot : Slot → Type 0
  IsSlot (slot modifiers content) = IsContent content

  pub AreSlots : Slots → Type 0
  AreSlots no_slots = ⊤
  AreSlots (slot_then s ss) = IsSlot s × AreSlots ss

  pub IsRet : Ret → Type 0
  IsRet (some_ret s) = IsSlot s
  IsRet (void_ret modifiers) = ⊤

  pub IsMethod : Method → Type 0
  IsMethod (method kind this explicit generic ret params sentinel) =
      IsMethodKind kind × IfSome sentinel (IsSentinel kind (count_slots params)) × IsRet ret × AreSlots params

-- the grammar allows the core, and its depth is at most the limit
abbrev pub IsCoreWithin : ℕ → Core → Type 0
IsCoreWithin depth core = (core_depth core ≤ depth) × IsCore core

abbrev pub IsTypedWithin : ℕ → Typed → Type 0
IsTypedWithin depth t = (typed_depth t ≤ depth) × IsTyped t

abbrev pub IsContentWithin : ℕ → Content → Type 0
IsContentWithin depth content = (content_depth content ≤ depth) × IsContent content

abbrev pub IsSlotWithin : ℕ → Slot → Type 0
IsSlotWithin depth s = (slot_depth s ≤ depth) × IsSlot s

abbrev pub IsRetWithin : ℕ → Ret → Type 0
IsRetWithin depth ret = (ret_depth ret ≤ depth) × IsRet ret

abbrev pub IsMethodWithin : ℕ → Method → Type 0
IsMethodWithin depth m = (method_depth m ≤ depth) × IsMethod m

abbrev pub IsLocalWithin : ℕ → LocalVariable → Type 0
IsLocalWithin depth (local prefixes content) = IsContentWithin depth content

abbrev pub IsBodyWithin : ℕ → Body → Type 0
IsBodyWithin depth (field s) = IsSlotWithin depth s
IsBodyWithin depth (method_body m) = IsMethodWithin depth m
IsBodyWithin depth (property this of params) = IsSlotWithin depth of × AllByRecursion (IsSlotWithin depth) params
IsBodyWithin depth (locals variables) = AllByRecursion (IsLocalWithin depth) variables
IsBodyWithin depth (instance_body args) = AllByRecursion (IsTypedWithin depth) args
IsBodyWithin depth (type_spec ret) = IsRetWithin depth ret
