-- The remainder of a signature after some of its items, and its own items. Private functions compute this.
use Rattle.std.specs.Prelude.{ℕ, ℤ, suc, Bool, Option, Some, None, option_map, option_and_then, List, [], ◌∷◌, ◌++◌, map, flat_map, length, ⊤, true}
use Rattle.sig_grammar.specs.declared.types.Modifier.{Modifier}
use Rattle.sig_grammar.specs.Syntax.{Core, Slot, field, locals, instance_body}
use Rattle.sig_grammar.specs.ElementTypes.{SENTINEL}
use Rattle.sig_grammar.specs.Views.{slots_from}
use Rattle.sig_grammar.specs.Reading.{Reader, change, both, behind, fail, number_at, signed_at, many_at, counted_at, counted_within, typed_at, target_at, content_at, slot_at, ret_at, shape_at, params_at, method_at, instance_from, instance_at, core_by, core_at}
use Rattle.sig_grammar.specs.Columns.{local_at, headed_at, property_from, body_at}
use Rattle.sig_items.specs.ItemsOf.{modifiers_items, core_items, typed_items, content_items, slot_items, slots_items, ret_items, local_items, shape_items, method_items, items_of}
use Rattle.sig_items.specs.declared.item.Item.{Item}
use Rattle.sig_items.specs.declared.item.Item.TheVariants as item
use Rattle.sig_items.specs.declared.position.Position.{Position}
use Rattle.sig_items.specs.declared.position.Position.TheVariants as position
use Rattle.sig_items.specs.declared.position.Frame.{Frame}
use Rattle.sig_items.specs.declared.position.Frame.TheVariants as frame

-- the items of what is read, and the bytes after it
abbrev pub Reported : Type 0
Reported = Option (List Item × List ℕ)

abbrev pub Reporter : Type 0
Reporter = Reader (List Item)

-- the reader that reads nothing
abbrev pub nothing : Reporter
nothing b = Some ([], b)

-- items before those that are read
abbrev pub before_reported : List Item → Reported → Reported
before_reported items reported = option_map (λ x. (items ++ x.0, x.1)) reported

-- the items that were read, and those that the reader reads after them
abbrev pub and_report : Reporter → Reported → Reported
and_report q reported = option_and_then (λ x. before_reported x.0 (q x.1)) reported

-- one reader after the other
unfoldable pub joined : Reporter → Reporter → Reporter
joined r q b = and_report q (r b)

-- VOID, or another target
abbrev pub void_items : {A : Type 0} → (A → List Item) → Option A → List Item
void_items items None = item.Void ∷ []
void_items items (Some x) = items x

abbrev pub target_items : List Modifier × Option Core → List Item
target_items x = modifiers_items x.0 ++ void_items core_items x.1

-- the lower bounds of an array
abbrev pub low_items : List ℤ → List Item
low_items low = item.LowBounds (length low) ∷ map item.LowBound low

abbrev pub bounds_items : List ℕ × List ℤ → List Item
bounds_items x = map item.Size x.0 ++ low_items x.1

unfoldable pub sizes_at : ℕ → ℕ → Reporter
sizes_at count rank = change bounds_items (both (many_at number_at count) (counted_within signed_at rank))

unfoldable pub bounds_at : ℕ → Reporter
bounds_at count = change (map item.LowBound) (many_at signed_at count)

unfoldable pub types_reported : ℕ → ℕ → Reporter
types_reported count depth = change (flat_map typed_items) (many_at (typed_at (core_at depth)) count)

abbrev pub params_items : List Slot × Option ℕ → List Item
params_items x = slots_items (slots_from x.0) x.1

unfoldable pub params_reported : ℕ → Bool → ℕ → Reporter
params_reported count allowed depth = change params_items (params_at (core_at depth) allowed count)

unfoldable pub locals_reported : ℕ → ℕ → Reporter
locals_reported count depth = change (flat_map local_items) (many_at (local_at (core_at depth)) count)

-- a core, and a core after its first byte
unfoldable pub core_reported : ℕ → Reporter
core_reported depth = change core_items (core_at depth)

unfoldable pub code_reported : ℕ → ℕ → Reporter
code_reported depth code = change core_items (core_by depth (core_at depth) code)

unfoldable pub instance_reported : ℕ → Reporter
instance_reported depth = change core_items (change instance_from (instance_at (core_at depth)))

unfoldable pub content_reported : ℕ → Reporter
content_reported depth = change content_items (content_at (core_at depth))

unfoldable pub method_reported : Bool → ℕ → Reporter
method_reported own depth = change method_items (method_at own (core_at depth))

-- whole signatures after their first byte
unfoldable pub field_reported : Reporter
field_reported = change items_of (change field (slot_at (core_at 128)))

unfoldable pub property_reported : Bool → Reporter
property_reported this = change items_of (change (property_from this) (headed_at (slot_at (core_at 128))))

unfoldable pub variables_reported : Reporter
variables_reported = change items_of (change locals (counted_at (local_at (core_at 128))))

unfoldable pub arguments_reported : Reporter
arguments_reported = change items_of (change instance_body (counted_at (typed_at (core_at 128))))

-- the items at a position, read from the bytes
unfoldable pub position_at : Position → Reporter
position_at (position.Body kind) = change items_of (body_at kind (core_at 128))
position_at (position.Method depth) = method_reported true depth
position_at (position.Typed depth) = change typed_items (typed_at (core_at depth))
position_at (position.Target depth) = change target_items (target_at (core_at depth))
position_at (position.Slot depth) = change slot_items (slot_at (core_at depth))
position_at (position.Ret depth) = change ret_items (ret_at (core_at depth))
position_at (position.Local depth) = change local_items (local_at (core_at depth))
position_at (position.Marked depth) = behind SENTINEL (change (λ s. item.Sentinel ∷ slot_items s) (slot_at (core_at depth))) fail
position_at position.Shape = change shape_items shape_at
position_at (position.Sizes further rank) = sizes_at (suc further) rank
position_at (position.LowCount rank) = change low_items (counted_within signed_at rank)
position_at (position.LowBounds further) = bounds_at (suc further)

-- the items of a frame
unfoldable pub frame_at : Frame → Reporter
frame_at (frame.Types further depth) = types_reported (suc further) depth
frame_at (frame.Params further allowed depth) = params_reported (suc further) allowed depth
frame_at (frame.Locals further depth) = locals_reported (suc further) depth
frame_at frame.Shape = change shape_items shape_at

-- the items at a position, if there is one, then those of a frame, if there is one
abbrev pub next_at : Option Frame → Option Position → Reporter
next_at None None b = Some ([], b)
next_at None (Some p) b = position_at p b
next_at (Some f) None b = frame_at f b
next_at (Some f) (Some p) b = joined (position_at p) (frame_at f) b

-- an item, and the items that follow
abbrev pub item_then : Item → Reported → Reported
item_then i reported = option_map (λ x. (i ∷ x.0, x.1)) reported

-- modifiers may precede what is at this position
abbrev pub IsLed : Position → Type 0
IsLed (position.Typed depth) = ⊤
IsLed (position.Target depth) = ⊤
IsLed (position.Slot depth) = ⊤
IsLed (position.Ret depth) = ⊤
IsLed _ = ⊥

-- ---- depth

abbrev pub position_depth : Position → ℕ
position_depth (position.Body kind) = 129
position_depth (position.Method depth) = suc depth
position_depth (position.Typed depth) = depth
position_depth (position.Target depth) = depth
position_depth (position.Slot depth) = depth
position_depth (position.Ret depth) = depth
position_depth (position.Local depth) = depth
position_depth (position.Marked depth) = depth
position_depth _ = 0

abbrev pub frame_depth : Frame → ℕ
frame_depth (frame.Types further depth) = depth
frame_depth (frame.Params further allowed depth) = depth
frame_depth (frame.Locals further depth) = depth
frame_depth frame.Shape = 0

-- the items of the frames, from the last frame to the first
unfoldable pub stack_at : List Frame → Reporter
stack_at [] = nothing
stack_at (f ∷ fs) = joined (stack_at fs) (frame_at f)
