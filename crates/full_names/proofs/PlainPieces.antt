-- No piece of a signature's text is the name or the generic parameters of a method, or the flags or the name of a parameter.
use Rattle.std.proofs.Common.{◌==◌, ◌&&◌, ℕ, zero, suc, ℤ, Bool, true, false, List, [], ◌∷◌, ◌++◌, Option, Some, None, length}
use Rattle.std.specs.Prelude.{⊤, if◌then◌else◌, codes, slice_get, drop}
use Rattle.sig_grammar.specs.declared.types.Modifier.{Modifier}
use Rattle.sig_grammar.specs.declared.body.Prefix.{Prefix}
use Rattle.sig_grammar.specs.declared.body.Prefix.TheVariants.{Mod, Pinned}
use Rattle.full_names.proofs.Prelude.{Core, simple, void_pointer, pointer, vector, array, class, value, var, mvar, instance, function, Typed, typed, Types, no_types, type_then, Content, typed_ref, plain, by_ref, Slot, slot, Slots, no_slots, slot_then, Ret, some_ret, void_ret, Method, method, ArrayShape, LocalVariable, local, Body, field, method_body, property, locals, instance_body, type_spec, Piece, word, number, method_name, generic_params, param_flags, param_name, listed, comma, following, modifier_text, modifiers_text, prefix_text, dimension_text, dimensions_text, mark_text, written_dimensions, rank_text, shape_text, flag_text, call_text, arity_text, sentinel_text, sentinel_after, core_text, typed_text, types_text, content_text, slot_text, slots_text, ret_text, method_text, local_text, text_of}

abbrev pub IsPlain : Piece → Type 0
IsPlain method_name = ⊥
IsPlain (generic_params n) = ⊥
IsPlain (param_flags position) = ⊥
IsPlain (param_name position) = ⊥
IsPlain _ = ⊤

abbrev pub ArePlain : List Piece → Type 0
ArePlain [] = ⊤
ArePlain (piece ∷ pieces) = IsPlain piece × ArePlain pieces

both : (xs ys : List Piece) → ArePlain xs → ArePlain ys → ArePlain (xs ++ ys)
both [] ys first second = second
both (x ∷ xs) ys first second = (first.0, both xs ys first.1 second)

if_so : (set : Bool) (xs ys : List Piece) → ArePlain xs → ArePlain ys → ArePlain (if set then xs else ys)
if_so true xs ys first second = first
if_so false xs ys first second = second

all_following : {A : Type 0} (text : A → List Piece) → ((x : A) → ArePlain (text x)) → (xs : List A) → ArePlain (following text xs)
all_following text each [] = tt
all_following text each (x ∷ xs) = both (following text xs) (text x) (all_following text each xs) (each x)

all_listed : {A : Type 0} (text : A → List Piece) → ((x : A) → ArePlain (text x)) → (before : List Piece) → ArePlain before → (xs : List A) → ArePlain (listed text before xs)
all_listed text each before first [] = tt
all_listed text each before first (x ∷ xs) =
    both before (text x ++ listed text comma xs) first (both (text x) (listed text comma xs) (each x) (all_listed text each comma (tt, tt) xs))

modifier : (m : Modifier) → ArePlain (modifier_text m)
modifier m = (tt, (tt, (tt, tt)))

modifiers : (ms : List Modifier) → ArePlain (modifiers_text ms)
modifiers ms = all_following modifier_text modifier ms

prefix : (p : Prefix) → ArePlain (prefix_text p)
prefix (Mod m) = modifier m
prefix Pinned = (tt, tt)

dimension : (low : Option ℤ) (size : Option ℕ) → ArePlain (dimension_text low size)
dimension None None = tt
dimension None (Some size) = (tt, tt)
dimension (Some low) None = (tt, (tt, tt))
dimension (Some low) (Some size) = (tt, (tt, (tt, tt)))

dimensions : (before : List Piece) → ArePlain before → (n : ℕ) (sizes : List ℕ) (low : List ℤ) → ArePlain (dimensions_text before n sizes low)
dimensions before first zero sizes low = tt
dimensions before first (suc n) sizes low =
    let here = dimension_text (slice_get low 0) (slice_get sizes 0) in
    let more = dimensions_text (word (codes ",") ∷ []) n (drop 1 sizes) (drop 1 low) in
    both before (here ++ more) first (both here more (dimension (slice_get low 0) (slice_get sizes 0)) (dimensions (word (codes ",") ∷ []) (tt, tt) n (drop 1 sizes) (drop 1 low)))

mark : (rank sizes low : ℕ) → ArePlain (mark_text rank sizes low)
mark rank sizes low = if_so (rank == 1 && sizes == 0 && low == 0) (word (codes "...") ∷ []) [] (tt, tt) tt

rank_plain : (rank written : ℕ) → ArePlain (rank_text rank written)
rank_plain rank written = if_so (written == rank) [] (word (codes ",... rank ") ∷ number rank ∷ []) tt (tt, (tt, tt))

shape : (s : ArrayShape) → ArePlain (shape_text s)
shape s =
    let written = written_dimensions s.rank (length s.sizes) (length s.low) in
    let marks = mark_text s.rank (length s.sizes) (length s.low) in
    let each = dimensions_text [] written s.sizes s.low in
    let rank = rank_text s.rank written in
    let end : List Piece = word (codes "]") ∷ [] in (
      tt,
      both marks (each ++ (rank ++ end)) (mark s.rank (length s.sizes) (length s.low))
          (both each (rank ++ end) (dimensions [] tt written s.sizes s.low) (both rank end (rank_plain s.rank written) (tt, tt))),
    )

flag : (set : Bool) (text : List ℕ) → ArePlain (flag_text set text)
flag set text = if_so set (word text ∷ []) [] (tt, tt) tt

call : (kind : ℕ) (this explicit : Bool) → ArePlain (call_text kind this explicit)
call kind this explicit = both (flag_text this _) _ (flag this _) (both (flag_text explicit _) _ (flag explicit _) (tt, tt))

arity : (generic : Option ℕ) → ArePlain (arity_text generic)
arity None = tt
arity (Some n) = (tt, (tt, (tt, tt)))

sentinel : (at : Option ℕ) → ArePlain (sentinel_text at)
sentinel None = tt
sentinel (Some zero) = (tt, tt)
sentinel (Some (suc n)) = tt

mutual
  core : (c : Core) → ArePlain (core_text c)
  core (simple element) = (tt, tt)
  core (void_pointer ms) = (tt, both (modifiers_text ms) _ (modifiers ms) (tt, tt))
  core (pointer ms to) = both (core_text to) _ (core to) (both (modifiers_text ms) _ (modifiers ms) (tt, tt))
  core (vector of) = both (typed_text of) _ (typed_plain of) (tt, tt)
  core (array of s) = both (typed_text of) (shape_text s) (typed_plain of) (shape s)
  core (class of) = (tt, (tt, tt))
  core (value of) = (tt, (tt, tt))
  core (var n) = (tt, (tt, tt))
  core (mvar n) = (tt, (tt, tt))
  core (instance is_value of args) = (tt, (tt, (tt, both (types_text [] args) _ (types [] tt args) (tt, tt))))
  core (function m) = method_plain m

  typed_plain : (t : Typed) → ArePlain (typed_text t)
  typed_plain (typed ms c) = both (core_text c) (modifiers_text ms) (core c) (modifiers ms)

  types : (before : List Piece) → ArePlain before → (ts : Types) → ArePlain (types_text before ts)
  types before first no_types = tt
  types before first (type_then t ts) = both before (typed_text t ++ types_text comma ts) first (both (typed_text t) (types_text comma ts) (typed_plain t) (types comma (tt, tt) ts))

  content : (c : Content) → ArePlain (content_text c)
  content typed_ref = (tt, tt)
  content (plain c) = core c
  content (by_ref ms c) = both (core_text c) _ (core c) (both (modifiers_text ms) _ (modifiers ms) (tt, tt))

  slot_plain : (s : Slot) → ArePlain (slot_text s)
  slot_plain (slot ms c) = both (content_text c) (modifiers_text ms) (content c) (modifiers ms)

  slots : (before : List Piece) → ArePlain before → (ss : Slots) (at : Option ℕ) → ArePlain (slots_text before ss at)
  slots before first no_slots at = tt
  slots before first (slot_then s ss) at =
      let more = slots_text comma ss (sentinel_after at) in
      both before (sentinel_text at ++ (slot_text s ++ more)) first
      (both (sentinel_text at) (slot_text s ++ more) (sentinel at) (both (slot_text s) more (slot_plain s) (slots comma (tt, tt) ss (sentinel_after at))))

  ret : (r : Ret) → ArePlain (ret_text r)
  ret (some_ret s) = slot_plain s
  ret (void_ret ms) = (tt, modifiers ms)

  method_plain : (m : Method) → ArePlain (method_text m)
  method_plain (method kind this explicit generic r params at) = (
    tt,
    both (call_text kind this explicit) _ (call kind this explicit) (both (ret_text r) _ (ret r)
        (tt, both (arity_text generic) _ (arity generic) (tt, both (slots_text [] params at) _ (slots [] tt params at) (tt, tt)))),
  )

local_plain : (v : LocalVariable) → ArePlain (local_text v)
local_plain (local prefixes c) = both (content_text c) (following prefix_text prefixes) (content c) (all_following prefix_text prefix prefixes)

pub text_is_plain : (signature : Body) → ArePlain (text_of signature)
text_is_plain (field s) = slot_plain s
text_is_plain (method_body m) = method_plain m
text_is_plain (property this of params) =
    both (flag_text this _) _ (flag this _) (both (slot_text of) _ (slot_plain of) (tt, (tt, both (listed slot_text [] params) _ (all_listed slot_text slot_plain [] tt params) (tt, tt))))
text_is_plain (locals variables) = (tt, both (listed local_text [] variables) _ (all_listed local_text local_plain [] tt variables) (tt, tt))
text_is_plain (instance_body args) = (tt, both (listed typed_text [] args) _ (all_listed typed_text typed_plain [] tt args) (tt, tt))
text_is_plain (type_spec r) = ret r
