-- One value of a list, and the values after it, as loops read them.
use Rattle.sig_encoder.proofs.Prelude.{◌≡◌, ◌∙◌, ℕ, suc, ◌+◌, ◌-◌, ◌<◌, ◌≤◌, Bool, Option, Some, None, Result, Ok, Err, List, [], ◌∷◌, ◌++◌, length, get_or, drop, map, refl, sym, ap, arith, add-one, drop-cons, ⊎_elim, Part, eq-eqb, ne_eqb, lt-ltb, le-ltb, cases_order, TypeSig, type_of, types_from, slot_of, slots_from, local_of, list_parts, count_types, count_slots, after, then, run, Item, parts_items, typed_items, types_items, slots_items, param_items, stands_at, behind, local_items, locals_items}
use Rattle.std.proofs.lemmas.List.{drop_all}
use Rattle.sig_grammar.specs.declared.types.Slot.{Slot}
use Rattle.sig_grammar.specs.declared.body.Local.{Local}
use Rattle.sig_grammar.specs.Syntax as sig
use Rattle.sig_encoder.proofs.Steps.{run_both, items_both, run_none}

-- the value at the index, and the values after it
pub drop_next : {A : Type 0} (xs : List A) (i : ℕ) (x : A) → i < length xs → x ≡ get_or xs i x → drop i xs ≡ x ∷ drop (i + 1) xs
drop_next {A} xs i x lt e = rw add-one (drop-cons xs i x lt ∙ ap (λ (y : A). y ∷ drop (suc i) xs) (sym e))

pub list_next : {A S : Type 0} (step : Item → S → Result S S) (parts : A → List Part) (xs : List A) (i : ℕ) (x : A) (sink : S) → i < length xs → x ≡ get_or xs i x
    → run step (parts_items (list_parts parts (drop i xs))) sink ≡ then (run step (parts_items (list_parts parts (drop (i + 1) xs)))) (run step (parts_items (parts x)) sink)
list_next step parts xs i x sink lt e =
    rw (drop_next xs i x lt e, items_both) (run_both step (parts_items (parts x)) (parts_items (list_parts parts (drop (i + 1) xs))) sink)

pub list_end : {A S : Type 0} (step : Item → S → Result S S) (parts : A → List Part) (xs : List A) (i : ℕ) (sink : S) → length xs ≤ i
    → run step (parts_items (list_parts parts (drop i xs))) sink ≡ Ok sink
list_end step parts xs i sink le = rw (drop_all i xs le) (run_none step sink)

pub ruleset list_steps = (list_next, list_end)

-- ---- a step of a loop: it continues, or it stops

pub goes_by : {S : Type 0} (more : S → Result S S) (first : Result S S) (new : S) (here all : Result S S)
    → Ok new ≡ first → here ≡ then more first → here ≡ all → more new ≡ all
goes_by more first new here all e split so = ap (then more) e ∙ sym split ∙ so

pub stops_by : {S U : Type 0} (more : S → Result S S) (first : Result S S) (new : S) (here all : Result S S) (r : Option U)
    → r ≡ None → Err new ≡ first → here ≡ then more first → here ≡ all → after r new ≡ all
stops_by more first new here all r none e split so = rw none (ap (then more) e ∙ sym split ∙ so)

-- ---- types and parameters

pub types_next : {S : Type 0} (step : Item → S → Result S S) (xs : List TypeSig) (i : ℕ) (x : TypeSig) (depth : ℕ) (sink : S) → i < length xs → x ≡ get_or xs i x
    → run step (types_items (types_from (map type_of (drop i xs))) depth) sink ≡ then (run step (types_items (types_from (map type_of (drop (i + 1) xs))) depth)) (run step (typed_items (type_of x) depth) sink)
types_next step xs i x depth sink lt e = rw (drop_next xs i x lt e) (run_both step (typed_items (type_of x) depth) (types_items (types_from (map type_of (drop (i + 1) xs))) depth) sink)

pub types_end : {S : Type 0} (step : Item → S → Result S S) (xs : List TypeSig) (i depth : ℕ) (sink : S) → length xs ≤ i
    → run step (types_items (types_from (map type_of (drop i xs))) depth) sink ≡ Ok sink
types_end step xs i depth sink le = rw (drop_all i xs le) (run_none step sink)

split_param : (sentinel : Option ℕ) (i depth : ℕ) (s : sig.Slot) (ss : sig.Slots)
    → slots_items (sig.slot_then s ss) (behind sentinel i) depth ≡ param_items (stands_at sentinel i) s depth ++ slots_items ss (behind sentinel (i + 1)) depth
split_param None i depth s ss = refl
split_param (Some before) i depth s ss = ⊎_elim (at before i depth s ss) (⊎_elim (passed before i depth s ss) (waits before i depth s ss)) (cases_order before i)
  where
    at : (before i depth : ℕ) (s : sig.Slot) (ss : sig.Slots) → before ≡ i
        → slots_items (sig.slot_then s ss) (behind (Some before) i) depth ≡ param_items (stands_at (Some before) i) s depth ++ slots_items ss (behind (Some before) (i + 1)) depth
    at before i depth s ss e =
        let zero_left : before - i ≡ 0 = omega arith in
        rw (le-ltb before i (omega arith), zero_left, lt-ltb before (i + 1) (omega arith), eq-eqb before i e) refl

    passed : (before i depth : ℕ) (s : sig.Slot) (ss : sig.Slots) → before < i
        → slots_items (sig.slot_then s ss) (behind (Some before) i) depth ≡ param_items (stands_at (Some before) i) s depth ++ slots_items ss (behind (Some before) (i + 1)) depth
    passed before i depth s ss lt = rw (lt-ltb before i lt, lt-ltb before (i + 1) (omega arith), ne_eqb before i (λ e. omega arith)) refl

    waits : (before i depth : ℕ) (s : sig.Slot) (ss : sig.Slots) → i < before
        → slots_items (sig.slot_then s ss) (behind (Some before) i) depth ≡ param_items (stands_at (Some before) i) s depth ++ slots_items ss (behind (Some before) (i + 1)) depth
    waits before i depth s ss lt =
        let some_left : before - i ≡ suc (before - (i + 1)) = omega arith in
        rw (le-ltb before i (omega arith), le-ltb before (i + 1) (omega arith), some_left, ne_eqb before i (λ e. omega arith)) refl

pub params_next : {S : Type 0} (step : Item → S → Result S S) (xs : List Slot) (i : ℕ) (x : Slot) (sentinel : Option ℕ) (depth : ℕ) (sink : S) (marked : Bool) → i < length xs → x ≡ get_or xs i x → marked ≡ stands_at sentinel i
    → run step (slots_items (slots_from (map slot_of (drop i xs))) (behind sentinel i) depth) sink
    ≡ then (run step (slots_items (slots_from (map slot_of (drop (i + 1) xs))) (behind sentinel (i + 1)) depth)) (run step (param_items marked (slot_of x) depth) sink)
params_next step xs i x sentinel depth sink marked lt e at =
    let tail = slots_from (map slot_of (drop (i + 1) xs)) in
    rw (drop_next xs i x lt e, at) (ap (λ z. run step z sink) (split_param sentinel i depth (slot_of x) tail)
    ∙ run_both step (param_items (stands_at sentinel i) (slot_of x) depth) (slots_items tail (behind sentinel (i + 1)) depth) sink)

pub params_end : {S : Type 0} (step : Item → S → Result S S) (xs : List Slot) (i : ℕ) (sentinel : Option ℕ) (depth : ℕ) (sink : S) → length xs ≤ i
    → run step (slots_items (slots_from (map slot_of (drop i xs))) sentinel depth) sink ≡ Ok sink
params_end step xs i sentinel depth sink le = rw (drop_all i xs le) (run_none step sink)

pub params_start : (sentinel : Option ℕ) → behind sentinel 0 ≡ sentinel
params_start None = refl
params_start (Some before) = let whole : before - 0 ≡ before = omega arith in rw (le-ltb before 0 (omega arith), whole) refl

pub types_count : (xs : List TypeSig) → count_types (types_from (map type_of xs)) ≡ length xs
types_count [] = refl
types_count (x ∷ xs) = ap suc (types_count xs)

pub slots_count : (xs : List Slot) → count_slots (slots_from (map slot_of xs)) ≡ length xs
slots_count [] = refl
slots_count (x ∷ xs) = ap suc (slots_count xs)

pub locals_count : (xs : List Local) → length (map local_of xs) ≡ length xs
locals_count [] = refl
locals_count (x ∷ xs) = ap suc (locals_count xs)

pub locals_next : {S : Type 0} (step : Item → S → Result S S) (xs : List Local) (i : ℕ) (x : Local) (depth : ℕ) (sink : S) → i < length xs → x ≡ get_or xs i x
    → run step (locals_items (map local_of (drop i xs)) depth) sink ≡ then (run step (locals_items (map local_of (drop (i + 1) xs)) depth)) (run step (local_items (local_of x) depth) sink)
locals_next step xs i x depth sink lt e = rw (drop_next xs i x lt e) (run_both step (local_items (local_of x) depth) (locals_items (map local_of (drop (i + 1) xs)) depth) sink)

pub locals_end : {S : Type 0} (step : Item → S → Result S S) (xs : List Local) (i depth : ℕ) (sink : S) → length xs ≤ i → run step (locals_items (map local_of (drop i xs)) depth) sink ≡ Ok sink
locals_end step xs i depth sink le = rw (drop_all i xs le) (run_none step sink)

pub ruleset each_type = (types_next, types_end)

pub ruleset each_param = (params_next, params_end, params_start)

pub ruleset counts = (types_count, slots_count, locals_count)
