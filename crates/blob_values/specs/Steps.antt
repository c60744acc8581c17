-- What remains of a value, and the items in it. Private functions compute this.
use Rattle.std.specs.Prelude.{ℕ, ◌==◌, ◌&&◌, Bool, true, false, if◌then◌else◌, Option, Some, None, option_and_then, List, [], ◌∷◌}
use Rattle.blob_values.specs.declared.types.ArgumentType.{ArgumentType}
use Rattle.blob_values.specs.declared.arguments.Intro.{Intro as IntroRef}
use Rattle.blob_values.specs.declared.step.Arguments.{Arguments}
use Rattle.blob_values.specs.declared.step.Arguments.TheVariants as arguments
use Rattle.blob_values.specs.declared.step.Left.{Left}
use Rattle.blob_values.specs.declared.step.Step.{Step}
use Rattle.blob_values.specs.Items.{Item}
use Rattle.blob_values.specs.Views.{view}
use Rattle.blob_values.specs.Reading.{Intro, Reporter, sized_at, item_then, entries_at, named_left, fixed_left}

abbrev pub intro_view : IntroRef → Intro
intro_view x = record { member = x.member; of = x.of; name = x.name.now }

abbrev pub arguments_at : Arguments → Reporter
arguments_at (arguments.Fixed params) = fixed_left params.now
arguments_at (arguments.Named n) = named_left n

abbrev pub left_at : Left → Reporter
left_at left = entries_at left.of left.count (arguments_at left.arguments)

abbrev pub are_done : Arguments → Bool
are_done (arguments.Fixed params) = false
are_done (arguments.Named n) = n == 0

-- nothing remains
abbrev pub is_done : Left → Bool
is_done left = left.count == 0 && are_done left.arguments

abbrev pub reported : Option Step → Option (List Item × List ℕ)
reported None = None
reported (Some s) = item_then (view s.item) (left_at s.left s.tail.now)

abbrev pub items_in : Option (List Item × List ℕ) → List Item
items_in None = []
items_in (Some x) = x.0

-- all the bytes were read
abbrev pub ends : Option (List Item × List ℕ) → Bool
ends None = false
ends (Some (items, [])) = true
ends (Some (items, c ∷ b)) = false

abbrev pub after_prolog : List ArgumentType → ℕ × List ℕ → Option (List Item × List ℕ)
after_prolog params x = if x.0 == 1 then fixed_left params x.1 else None

-- the items, if all the bytes were read
abbrev pub items_if_whole : Option (List Item × List ℕ) → Option (List Item)
items_if_whole (Some (items, [])) = Some items
items_if_whole _ = None

-- all items, from the prolog on
unfoldable pub all_at : List ArgumentType → Reporter
all_at params b = option_and_then (after_prolog params) (sized_at 2 b)

-- the items of the value that the bytes are, if they are one
abbrev pub value_items : List ArgumentType → List ℕ → Option (List Item)
value_items params blob = items_if_whole (all_at params blob)
