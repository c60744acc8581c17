-- The values of fields at an offset are those of the bytes there.
use Rattle.packed.proofs.Prelude.{◌≡◌, ℕ, ◌+◌, ◌≤◌, List, [], ◌∷◌, ◌++◌, length, take, drop, refl, sym, ap, ◌∙◌, subst, arith, append_assoc, length-append, length-drop, append-nil, take_all, take_at, drop_at, drop-drop, take-append-drop, length-take-le, little_endian, part}
use Rattle.std.proofs.Math.Seq.{take-add}
use Rattle.packed.specs.Fields.{Field, literal, number, ignored, IsField, AreFields, StandAt, width, widths, Says, AllSay}

field_long : (field : Field) (bytes : List ℕ) → IsField field bytes → length bytes ≡ width field
field_long (literal expected) bytes is = ap length is
field_long (number count value) bytes is = is.long
field_long (ignored count) bytes is = is

field_says : (field : Field) (whole bytes : List ℕ) (offset : ℕ) → part whole offset (width field) ≡ bytes → IsField field bytes → Says whole offset field
field_says (literal expected) whole bytes offset e is = e ∙ is
field_says (number count value) whole bytes offset e is = is.equal ∙ ap little_endian (sym e)
field_says (ignored count) whole bytes offset e is = tt

field_stands : (field : Field) (whole : List ℕ) (offset : ℕ) → length (part whole offset (width field)) ≡ width field → Says whole offset field → IsField field (part whole offset (width field))
field_stands (literal expected) whole offset long says = says
field_stands (number count value) whole offset long says = record { long = long; equal = says }
field_stands (ignored count) whole offset long says = long

-- the fields have the values of the bytes, and the bytes have the widths of the fields
fields_say : (fields : List Field) (whole : List ℕ) (offset : ℕ) (bytes tail : List ℕ) → drop offset whole ≡ bytes ++ tail → AreFields fields bytes
    → AllSay whole offset fields × (length bytes ≡ widths fields)
fields_say [] whole offset bytes tail e are = (tt, ap length are)
fields_say (field ∷ fields) whole offset bytes tail e (prefix, back, split, is, are) =
    let long = field_long field prefix is in
    let here : drop offset whole ≡ prefix ++ (back ++ tail) = e ∙ ap (λ (b : List ℕ). b ++ tail) split ∙ append_assoc prefix back tail in
    let at : part whole offset (width field) ≡ prefix = ap (take (width field)) here ∙ take_at prefix (back ++ tail) (width field) long in
    let next : drop (offset + width field) whole ≡ back ++ tail = sym (drop-drop (width field) offset whole) ∙ ap (drop (width field)) here ∙ drop_at prefix (back ++ tail) (width field) long in
    let more = fields_say fields whole (offset + width field) back tail next are in
    ((field_says field whole prefix offset at is, more.0), ap length split ∙ length-append prefix back ∙ (let back_long = more.1 in omega arith))

-- if there is room, fields with the values of the bytes are encoded by these bytes
fields_stand : (fields : List Field) (whole : List ℕ) (offset : ℕ) → offset + widths fields ≤ length whole → AllSay whole offset fields → AreFields fields (part whole offset (widths fields))
fields_stand [] whole offset room says = refl
fields_stand (field ∷ fields) whole offset room says =
    let long : length (part whole offset (width field)) ≡ width field = length-take-le (width field) (drop offset whole) (omega (arith, length-drop offset whole)) in
    let next : part whole (offset + width field) (widths fields) ≡ take (widths fields) (drop (width field) (drop offset whole)) = ap (take (widths fields)) (sym (drop-drop (width field) offset whole)) in (
      part whole offset (width field),
      part whole (offset + width field) (widths fields),
      take-add (width field) (widths fields) (drop offset whole) ∙ ap (λ (b : List ℕ). part whole offset (width field) ++ b) (sym next),
      field_stands field whole offset long says.0,
      fields_stand fields whole (offset + width field) (omega arith) says.1,
    )

-- fields at an offset have the values of the bytes there, and fit in the whole
pub stand_says : (whole : List ℕ) (offset : ℕ) (fields : List Field) → StandAt whole offset fields → AllSay whole offset fields × (offset + widths fields ≤ length whole)
stand_says whole offset fields h =
    let behind : drop offset whole ≡ h.bytes ++ h.after = ap (drop offset) h.split ∙ drop_at h.before (h.bytes ++ h.after) offset h.behind in
    let said = fields_say fields whole offset h.bytes h.after behind h.are in
    let long = said.1 in
    let before = h.behind in
    (said.0, omega (arith, ap length h.split, length-append h.before (h.bytes ++ h.after), length-append h.bytes h.after))

-- if there is room and the bytes encode the fields, the fields are at the offset
fields_of_part : (whole : List ℕ) (offset : ℕ) (fields : List Field) → offset + widths fields ≤ length whole → AreFields fields (part whole offset (widths fields)) → StandAt whole offset fields
fields_of_part whole offset fields room are = record {
  before = take offset whole;
  bytes = part whole offset (widths fields);
  after = drop (widths fields) (drop offset whole);
  split = sym (take-append-drop offset whole) ∙ ap (λ (b : List ℕ). take offset whole ++ b) (sym (take-append-drop (widths fields) (drop offset whole)));
  behind = length-take-le offset whole (omega arith);
  are = are;
}

pub says_stand : (whole : List ℕ) (offset : ℕ) (fields : List Field) → offset + widths fields ≤ length whole → AllSay whole offset fields → StandAt whole offset fields
says_stand whole offset fields room says = fields_of_part whole offset fields room (fields_stand fields whole offset room says)

-- the same for the part of the whole that the fields cover
pub stand_says_part : (whole : List ℕ) (offset : ℕ) (fields : List Field) → StandAt whole offset fields → AllSay (part whole offset (widths fields)) 0 fields × (offset + widths fields ≤ length whole)
stand_says_part whole offset fields h =
    let behind : drop offset whole ≡ h.bytes ++ h.after = ap (drop offset) h.split ∙ drop_at h.before (h.bytes ++ h.after) offset h.behind in
    let long = (fields_say fields whole offset h.bytes h.after behind h.are).1 in
    let is : part whole offset (widths fields) ≡ h.bytes ++ [] = ap (take (widths fields)) behind ∙ take_at h.bytes h.after (widths fields) long ∙ sym (append-nil h.bytes) in
    ((fields_say fields (part whole offset (widths fields)) 0 h.bytes [] is h.are).0, (stand_says whole offset fields h).1)

pub part_says_stand : (whole : List ℕ) (offset : ℕ) (fields : List Field) → offset + widths fields ≤ length whole → AllSay (part whole offset (widths fields)) 0 fields → StandAt whole offset fields
part_says_stand whole offset fields room says =
    let Are : List ℕ → Type 0 = λ b. AreFields fields b in
    let long : length (part whole offset (widths fields)) ≡ widths fields = length-take-le (widths fields) (drop offset whole) (omega (arith, length-drop offset whole)) in
    let are = fields_stand fields (part whole offset (widths fields)) 0 (omega arith) says in
    fields_of_part whole offset fields room (subst Are (take_all (widths fields) (part whole offset (widths fields)) (omega arith)) are)
