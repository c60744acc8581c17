-- The frames of an iterator: their items, with a position before them, and the room for them.
use Rattle.sig_items.proofs.Prelude.{◌≡◌, ◌∙◌, ℕ, suc, ◌+◌, ◌<◌, ◌≤◌, true, Option, Some, None, is_some, IfSome, List, [], ◌∷◌, ◌++◌, length, append-nil, length-append, refl, sym, ap, subst, arith, SigKind, Body, core_at, body_at, Item, Position, Frame, items_of, Reported, before_reported, and_report, joined, item_then, position_at, frame_at, next_at, stack_at, position_depth, frame_depth, reported_by, framed, pushed, all_at, items_in, items_left, HasRoom, IsStacked, IsRoomy, IsReady}
use Rattle.sig_items.specs.declared.position.Position.TheVariants as position
use Rattle.sig_items.specs.declared.step.Step.{Step}
use Rattle.sig_items.proofs.Joins.{joined_assoc, item_and}
use Rattle.sig_items.proofs.Counts.{joined_same}

-- ---- the items of frames

head_nothing : (o : Reported) → before_reported [] o ≡ o
head_nothing None = refl
head_nothing (Some x) = refl

behind_nothing : (o : Reported) → o ≡ and_report (λ c. Some ([], c)) o
behind_nothing None = refl
behind_nothing (Some x) = ap (λ (t : List Item). Some (t, x.1)) (sym (append-nil x.0))

stack_push : (fs : List Frame) (f : Frame) (b : List ℕ) → stack_at (fs ++ f ∷ []) b ≡ joined (frame_at f) (stack_at fs) b
unfolding stack_at joined
stack_push [] f b = head_nothing (frame_at f b) ∙ behind_nothing (frame_at f b)
stack_push (g ∷ fs) f b = ap (λ (o : Reported). and_report (frame_at g) o) (stack_push fs f b) ∙ joined_assoc (frame_at f) (stack_at fs) (frame_at g) b

pub all_next : (f : Option Frame) (p : Option Position) (fs : List Frame) (b : List ℕ) → all_at p (pushed f fs) b ≡ and_report (stack_at fs) (next_at f p b)
unfolding all_at joined
all_next None None fs b = refl
all_next None (Some p) fs b = refl
all_next (Some f) None fs b = head_nothing (stack_at (fs ++ f ∷ []) b) ∙ stack_push fs f b
all_next (Some f) (Some p) fs b =
    joined_same (position_at p) (stack_at (fs ++ f ∷ [])) (joined (frame_at f) (stack_at fs)) b (λ c. stack_push fs f c)
    ∙ sym (joined_assoc (position_at p) (frame_at f) (stack_at fs) b)

-- the items at the first position of a frame, and of what follows it
pub resumed_reported : (old fs : List Frame) (f : Frame) (g : Option Frame) (p : Position) (b : List ℕ) → old ≡ fs ++ f ∷ [] → next_at g (Some p) b ≡ frame_at f b → all_at (Some p) (pushed g fs) b ≡ all_at None old b
resumed_reported old fs f g p b e same =
    all_next g (Some p) fs b ∙ ap (λ (o : Reported). and_report (stack_at fs) o) same ∙ sym (all_next (Some f) None fs b)
    ∙ ap (λ (t : List Frame). all_at None t b) (sym e)

-- ---- the room for frames

stacked_push : (n : ℕ) (fs : List Frame) (f : Frame) → IsStacked n fs → n + length fs + frame_depth f < 129 → IsStacked n (fs ++ f ∷ [])
stacked_push n [] f s h = (omega arith, tt)
stacked_push n (g ∷ fs) f s h = (s.0, stacked_push (suc n) fs f s.1 (omega arith))

pub stacked_pushed : (g : Option Frame) (fs : List Frame) → IsStacked 0 fs → IfSome g (λ f. length fs + frame_depth f < 129) → IsStacked 0 (pushed g fs)
stacked_pushed None fs s h = s
stacked_pushed (Some f) fs s h = stacked_push 0 fs f s (omega arith)

stacked_head : (n : ℕ) (fs : List Frame) (f : Frame) → IsStacked n (fs ++ f ∷ []) → IsStacked n fs × (n + length fs + frame_depth f < 129)
stacked_head n [] f s = let h = s.0 in (tt, omega arith)
stacked_head n (g ∷ fs) f s = let more = stacked_head (suc n) fs f s.1 in let h = more.1 in ((s.0, more.0), omega arith)

pub stacked_pop : (old fs : List Frame) (f : Frame) → old ≡ fs ++ f ∷ [] → IsStacked 0 old → IsStacked 0 fs × (length fs + frame_depth f < 129)
stacked_pop old fs f e s = let h = stacked_head 0 fs f (subst (λ (t : List Frame). IsStacked 0 t) e s) in let k = h.1 in (h.0, omega arith)

pub pushed_length : (g : Option Frame) (fs : List Frame) → length (pushed g fs) ≡ length fs + framed g
pushed_length None fs = omega arith
pushed_length (Some f) fs = omega (arith, length-append fs (f ∷ []))

resumed_frame : (n : ℕ) (f : Frame) (g : Option Frame) → n + frame_depth f < 129 → IfSome g (λ h. frame_depth h ≤ frame_depth f) → IfSome g (λ h. n + frame_depth h < 129)
resumed_frame n f None h k = tt
resumed_frame n f (Some g) h k = omega arith

framed_one : (g : Option Frame) → framed g ≤ 1
framed_one None = omega arith
framed_one (Some f) = omega arith

pub resumed_fits : (fs : List Frame) (f : Frame) (g : Option Frame) → length fs + frame_depth f < 129 → IfSome g (λ h. frame_depth h ≤ frame_depth f) → IfSome g (λ h. length fs + frame_depth h < 129)
resumed_fits fs f g h k = resumed_frame (length fs) f g h k

pub resumed_roomy : (old fs new : List Frame) (f : Frame) (g : Option Frame) (p : Position) → old ≡ fs ++ f ∷ [] → IsStacked 0 old → IfSome g (λ h. frame_depth h ≤ frame_depth f) → position_depth p ≤ frame_depth f → new ≡ pushed g fs → IsRoomy (Some p) new
resumed_roomy old fs new f g p e s k low made =
    let popped = stacked_pop old fs f e s in
    let room = popped.1 in
    subst (λ (t : List Frame). IsRoomy (Some p) t) (sym made) (record {
      stacked = stacked_pushed g fs popped.0 (resumed_frame (length fs) f g room k);
      located = omega (arith, pushed_length g fs, framed_one g);
      ended = λ none. absurd cc;
    })

pub advanced_roomy : (fs new : List Frame) (s : Step) (p : Position) → IsStacked 0 fs → HasRoom fs s → s.position ≡ Some p → new ≡ pushed s.frame fs → IsRoomy (Some p) new
advanced_roomy fs new s p stacked room is made =
    let low : IfSome (Some p) (λ q. length fs + framed s.frame + position_depth q ≤ 129) = subst (λ (o : Option Position). IfSome o (λ q. length fs + framed s.frame + position_depth q ≤ 129)) is room.position in
    subst (λ (t : List Frame). IsRoomy (Some p) t) (sym made) (record {
      stacked = stacked_pushed s.frame fs stacked room.frame;
      located = omega (arith, pushed_length s.frame fs);
      ended = λ none. absurd cc;
    })

-- ---- the items that remain

left_then : (i : Item) (o t : Reported) → o ≡ item_then i t → is_some o ≡ true → (items_in o ≡ i ∷ items_in t) × (is_some t ≡ true)
left_then i o None e h = absurd (let f = ap is_some e in cc)
left_then i o (Some x) e h = (ap items_in e, refl)

pub next_items : (o q : Option Position) (p : Position) (fs new : List Frame) (s : Step) (b : List ℕ) → o ≡ Some p → position_at p b ≡ reported_by s → all_at q new s.tail.now ≡ and_report (stack_at fs) (next_at s.frame s.position s.tail.now) → is_some (all_at o fs b) ≡ true → (items_left o fs b ≡ s.item ∷ items_left q new s.tail.now) × (is_some (all_at q new s.tail.now) ≡ true)
unfolding items_left
next_items o q p fs new s b is e tail some = left_then s.item (all_at o fs b) (all_at q new s.tail.now) whole some
  where
    whole : all_at o fs b ≡ item_then s.item (all_at q new s.tail.now)
    whole =
        ap (λ (o : Option Position). all_at o fs b) is ∙ all_next None (Some p) fs b ∙ ap (λ (o : Reported). and_report (stack_at fs) o) e
        ∙ item_and s.item (stack_at fs) (next_at s.frame s.position s.tail.now) ∙ ap (λ (o : Reported). item_then s.item o) (sym tail)

-- if reading at a position fails, there are no items
pub reported_somewhere : (o : Option Position) (p : Position) (fs : List Frame) (b : List ℕ) → o ≡ Some p → is_some (all_at o fs b) ≡ true → position_at p b ≡ None → ⊥
reported_somewhere o p fs b is some none =
    let e : all_at o fs b ≡ None = ap (λ (o : Option Position). all_at o fs b) is ∙ all_next None (Some p) fs b ∙ ap (λ (o : Reported). and_report (stack_at fs) o) none in
    let f = ap is_some e in
    cc

-- without position and frames, nothing remains
nothing_left : (b : List ℕ) → items_left None [] b ≡ []
unfolding items_left all_at joined stack_at
nothing_left b = refl

pub ended_items : (p : Option Position) (fs : List Frame) (b : List ℕ) → p ≡ None → IsRoomy p fs → items_left p fs b ≡ []
ended_items None fs b e roomy = let none = roomy.ended e in rw none (nothing_left b)
ended_items (Some p) fs b e roomy = absurd cc

-- ---- the first position

first_reported : (kind : SigKind) (signature : Body) (b : List ℕ) → body_at kind (core_at 128) b ≡ Some (signature, []) → all_at (Some (position.Body kind)) [] b ≡ Some (items_of signature, [])
unfolding all_at joined stack_at position_at
first_reported kind signature b e = rw e (ap (λ (t : List Item). Some (t, [])) (append-nil (items_of signature)))

pub first_items : (kind : SigKind) (signature : Body) (b : List ℕ) → body_at kind (core_at 128) b ≡ Some (signature, []) → items_left (Some (position.Body kind)) [] b ≡ items_of signature
unfolding items_left
first_items kind signature b e = ap items_in (first_reported kind signature b e)

pub first_ready : (kind : SigKind) (signature : Body) (b : List ℕ) → body_at kind (core_at 128) b ≡ Some (signature, []) → IsReady (Some (position.Body kind)) [] b
first_ready kind signature b e = record {
  reported = ap is_some (first_reported kind signature b e);
  roomy = record { stacked = tt; located = omega arith; ended = λ none. absurd cc };
}
