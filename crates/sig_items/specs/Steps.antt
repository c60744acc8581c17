-- What remains to be read after a step of the iterator.
use Rattle.std.specs.Prelude.{◌≡◌, ℕ, suc, ◌+◌, ◌<◌, ◌≤◌, true, Option, Some, None, is_some, IfSome, List, [], ◌∷◌, ◌++◌, length, ⊤}
use Rattle.sig_items.specs.declared.item.Item.{Item}
use Rattle.sig_items.specs.declared.position.Position.{Position}
use Rattle.sig_items.specs.declared.position.Frame.{Frame}
use Rattle.sig_items.specs.declared.step.Step.{Step}
use Rattle.sig_items.specs.Positions.{Reported, Reporter, joined, item_then, next_at, position_at, stack_at, position_depth, frame_depth}

-- the item of a step, and the items of what remains after it
abbrev pub reported_by : Step → Reported
reported_by s = item_then s.item (next_at s.frame s.position s.tail.now)

abbrev pub reported : Option Step → Reported
reported None = None
reported (Some s) = reported_by s

abbrev pub framed : Option Frame → ℕ
framed None = 0
framed (Some f) = 1

-- what remains after the step nests no deeper
pub record IsWithin (depth : ℕ) (s : Step) : Type 0 where
  pub frame : IfSome s.frame (λ f. frame_depth f < depth)
  pub position : IfSome s.position (λ p. position_depth p + framed s.frame ≤ depth)

-- the frames, with one more if there is one
abbrev pub pushed : Option Frame → List Frame → List Frame
pushed None fs = fs
pushed (Some f) fs = fs ++ f ∷ []

-- there is room for the frame and the position of a step
pub record HasRoom (fs : List Frame) (s : Step) : Type 0 where
  pub frame : IfSome s.frame (λ f. length fs + frame_depth f < 129)
  pub position : IfSome s.position (λ p. length fs + framed s.frame + position_depth p ≤ 129)

-- ---- all that remains

abbrev pub position_or : Option Position → Reporter
position_or None b = Some ([], b)
position_or (Some p) b = position_at p b

-- the items at a position, if there is one, and then those of the frames
unfoldable pub all_at : Option Position → List Frame → Reporter
all_at position frames = joined (position_or position) (stack_at frames)

abbrev pub items_in : Reported → List Item
items_in None = []
items_in (Some x) = x.0

unfoldable pub items_left : Option Position → List Frame → List ℕ → List Item
items_left position frames b = items_in (all_at position frames b)

-- the depth of each frame fits the number of frames before it
abbrev pub IsStacked : ℕ → List Frame → Type 0
IsStacked n [] = ⊤
IsStacked n (f ∷ fs) = (n + frame_depth f < 129) × IsStacked (suc n) fs

-- there is room for each frame, and without a position there are no frames
pub record IsRoomy (position : Option Position) (frames : List Frame) : Type 0 where
  pub stacked : IsStacked 0 frames
  pub located : IfSome position (λ p. length frames + position_depth p ≤ 129)
  pub ended : position ≡ None → frames ≡ []

-- all that remains can be read from the bytes, and there is room for it
pub record IsReady (position : Option Position) (frames : List Frame) (b : List ℕ) : Type 0 where
  pub reported : is_some (all_at position frames b) ≡ true
  pub roomy : IsRoomy position frames
