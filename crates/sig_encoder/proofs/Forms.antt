-- The effect of a method on a sink, from the effect of its parts.
use Rattle.sig_encoder.proofs.Prelude.{◌≡◌, ◌∙◌, ℕ, Bool, Result, Ok, Err, List, ◌∷◌, ◌++◌, length, map, ap, sym, refl, byte, number, generic_parts, method_code, count_slots, slot_of, slots_from, ret_of, method_of, then, run, Item, part, parts_items, rule, is_call, slots_items, ret_items, method_items}
use Rattle.sig_grammar.specs.declared.types.MethodSig.{MethodSig, out-MethodSig}
use Rattle.sig_grammar.specs.declared.types.Slot.{Slot}
use Rattle.sig_grammar.specs.Syntax as sig
use Rattle.sig_encoder.proofs.Steps.{run_both}
use Rattle.sig_encoder.proofs.Loops.{slots_count}
use Rattle.sig_grammar.proofs.ViewLemmas.{view_method}

module _ {S : Type 0} (step : Item → S → Result S S) where
  -- both lists, after a step that may have stopped
  pub then_both : (ps qs : List Item) (o : Result S S) → then (run step (ps ++ qs)) o ≡ then (run step qs) (then (run step ps) o)
  then_both ps qs (Ok s) = run_both step ps qs s
  then_both ps qs (Err s) = refl

module _ {S : Type 0} (step : Item → S → Result S S) (d : ℕ) (s : S) (m : MethodSig) where
  -- the items of a method, with its first byte and its number of parameters
  pub method_reported : (first last : List Slot) (holds : Bool) (code count : ℕ)
      → first ≡ (out-MethodSig m).params.items
      → holds ≡ is_call (out-MethodSig m).kind (count_slots (slots_from (map slot_of first))) (out-MethodSig m).sentinel
      → code ≡ method_code (out-MethodSig m).kind (out-MethodSig m).this (out-MethodSig m).explicit (out-MethodSig m).generic
      → count ≡ length first
      → last ≡ (out-MethodSig m).params.items
      → run step (rule holds ++ part (byte code) ∷ (parts_items (generic_parts (out-MethodSig m).generic)
      ++ part (number count) ∷ (ret_items (ret_of (out-MethodSig m).ret) d ++ slots_items (slots_from (map slot_of last)) (out-MethodSig m).sentinel d))) s
      ≡ run step (method_items (method_of m) d) s
  method_reported first last holds code count f h k n l =
      let is : holds ≡ is_call (out-MethodSig m).kind (count_slots (slots_from (map slot_of (out-MethodSig m).params.items))) (out-MethodSig m).sentinel =
      h ∙ ap (λ (ps : List Slot). is_call (out-MethodSig m).kind (count_slots (slots_from (map slot_of ps))) (out-MethodSig m).sentinel) f in
      let number_is : count ≡ count_slots (slots_from (map slot_of (out-MethodSig m).params.items)) = n ∙ ap length f ∙ sym (slots_count (out-MethodSig m).params.items) in
      (λ i. run step (rule (is i) ++ part (byte (k i)) ∷ (parts_items (generic_parts (out-MethodSig m).generic)
      ++ part (number (number_is i)) ∷ (ret_items (ret_of (out-MethodSig m).ret) d ++ slots_items (slots_from (map slot_of (l i))) (out-MethodSig m).sentinel d))) s)
      ∙ sym (ap (λ (v : sig.Method). run step (method_items v d) s) (view_method m))
