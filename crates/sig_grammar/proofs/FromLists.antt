-- Types and parameters made from lists: their number, their parts, and when the grammar and the depth allow them.
use Rattle.std.proofs.Common.{◌≡◌, ℕ, suc, ◌≤◌, None, List, [], ◌∷◌, ◌++◌, length, refl, ap, arith}
use Rattle.std.specs.List.{AllByRecursion}
use Rattle.sig_grammar.specs.Parts.{Part}
use Rattle.sig_grammar.specs.Grammar.{list_parts, typed_parts, types_parts, slot_parts, slots_parts, count_types, count_slots}
use Rattle.sig_grammar.specs.Limits.{types_depth, slots_depth, AreTypes, AreSlots, IsTypedWithin, IsSlotWithin}
use Rattle.sig_grammar.specs.Syntax.{Typed, Slot}
use Rattle.sig_grammar.specs.Views.{types_from, slots_from}

pub count-types_from : (xs : List Typed) → count_types (types_from xs) ≡ length xs
count-types_from [] = refl
count-types_from (x ∷ xs) = ap suc (count-types_from xs)

pub parts-types_from : (xs : List Typed) → types_parts (types_from xs) ≡ list_parts typed_parts xs
parts-types_from [] = refl
parts-types_from (x ∷ xs) = ap (λ (ps : List Part). typed_parts x ++ ps) (parts-types_from xs)

pub types_good : (d : ℕ) (xs : List Typed) → AllByRecursion (IsTypedWithin d) xs → (types_depth (types_from xs) ≤ d) × AreTypes (types_from xs)
types_good d [] h = (omega arith, tt)
types_good d (x ∷ xs) h =
    let more = types_good d xs h.1 in
    let one = h.0.0 in
    (omega (arith, more.0), (h.0.1, more.1))

pub each_type : (d : ℕ) (xs : List Typed) → (types_depth (types_from xs) ≤ d) × AreTypes (types_from xs) → AllByRecursion (IsTypedWithin d) xs
each_type d [] g = tt
each_type d (x ∷ xs) g = let most = g.0 in ((omega arith, g.1.0), each_type d xs (omega arith, g.1.1))

pub count-slots_from : (xs : List Slot) → count_slots (slots_from xs) ≡ length xs
count-slots_from [] = refl
count-slots_from (x ∷ xs) = ap suc (count-slots_from xs)

pub parts-slots_from : (xs : List Slot) → slots_parts (slots_from xs) None ≡ list_parts slot_parts xs
parts-slots_from [] = refl
parts-slots_from (x ∷ xs) = ap (λ (ps : List Part). slot_parts x ++ ps) (parts-slots_from xs)

pub slots_good : (d : ℕ) (xs : List Slot) → AllByRecursion (IsSlotWithin d) xs → (slots_depth (slots_from xs) ≤ d) × AreSlots (slots_from xs)
slots_good d [] h = (omega arith, tt)
slots_good d (x ∷ xs) h =
    let more = slots_good d xs h.1 in
    let one = h.0.0 in
    (omega (arith, more.0), (h.0.1, more.1))

pub each_slot : (d : ℕ) (xs : List Slot) → (slots_depth (slots_from xs) ≤ d) × AreSlots (slots_from xs) → AllByRecursion (IsSlotWithin d) xs
each_slot d [] g = tt
each_slot d (x ∷ xs) g = let most = g.0 in ((omega arith, g.1.0), each_slot d xs (omega arith, g.1.1))
