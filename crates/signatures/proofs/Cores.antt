-- Cores and their parts: reading by the first byte, and the content of values in a `Box` and in a `Vec`.
use Rattle.std.proofs.Common.{◌≡◌, ◌∙◌, ℕ, zero, suc, ◌-◌, ◌<◌, Bool, Option, Some, None, List, [], ◌∷◌, Vec, Global, map, refl, ap, arith}
use Rattle.signatures.proofs.Prelude.{Modifier, core_of, type_of, content_of, slot_of, ret_of, method_of, slots_from, Reader, change, deep, void_or, leading_within, leading_at, modifiers_at, ret_at, method_at, both, core_at, core_by, element_of, body_at, view_some_ret, SigError, Bad, Memory, Fails}
use Rattle.table_schema.specs.declared.column.SigKind.{SigKind}
use Rattle.table_schema.specs.declared.column.SigKind.TheVariants as column
use Rattle.sig_grammar.specs.declared.element.Element.{Element}
use Rattle.sig_grammar.specs.declared.types.TypeSig as types
use Rattle.sig_grammar.specs.declared.types.MethodSig as methods
use Rattle.sig_grammar.specs.declared.types.Core as cores
use Rattle.sig_grammar.specs.declared.types.Slot.{Slot}
use Rattle.sig_grammar.specs.declared.types.Slot as slots
use Rattle.sig_grammar.specs.declared.types.SlotKind as kinds
use Rattle.sig_grammar.specs.declared.types.Ret as rets
use Rattle.sig_grammar.specs.Syntax as sig

-- ---- a core, by its first byte

pub core_none : (d : ℕ) (b : List ℕ) → d ≡ 0 → core_at d b ≡ None
unfolding core_at
core_none zero b h = refl
core_none (suc d) b h = absurd (omega arith)

pub core_end : (d : ℕ) (b : List ℕ) → b ≡ [] → core_at d b ≡ None
unfolding core_at
core_end zero b h = refl
core_end (suc d) b h = rw h refl

pub core_simple : (d c : ℕ) (e : Element) (b tail : List ℕ) → 0 < d → b ≡ c ∷ tail → Some e ≡ element_of c → core_at d b ≡ Some (sig.simple e, tail)
unfolding core_at
core_simple zero c e b tail lt h k = absurd (omega arith)
core_simple (suc d) c e b tail lt h k = rw (h, ← k) refl

pub core_other : (d c : ℕ) (b tail : List ℕ) → 0 < d → b ≡ c ∷ tail → None ≡ element_of c → core_at d b ≡ core_by (d - 1) (core_at (d - 1)) c tail
unfolding core_at
core_other zero c b tail lt h k = absurd (omega arith)
core_other (suc d) c b tail lt h k = let p : suc d - 1 ≡ d = omega arith in rw (h, ← k, p) refl

pub deep_some : (d : ℕ) (r : Reader sig.Core) (b : List ℕ) → 0 < d → deep d r b ≡ r b
deep_some zero r b lt = absurd (omega arith)
deep_some (suc d) r b lt = refl

pub fails_change : {A B : Type 0} (e : SigError) (f : A → B) (r : Reader A) (b : List ℕ) → Fails e (r b) → Fails e (change f r b)
fails_change Bad f r b h = rw h refl
fails_change Memory f r b h = tt

-- ---- by the first byte

-- no signature is empty
pub body_end : (kind : SigKind) (r : Reader sig.Core) (b : List ℕ) → b ≡ [] → body_at kind r b ≡ None
unfolding body_at method_at ret_at both void_or modifiers_at leading_at leading_within
body_end column.Field r b h = rw h refl
body_end _ r b h = rw h refl

-- ---- cores

pub view_typed : (mods : Vec Modifier Global) (core : cores.Core) → type_of (types.roll-TypeSig (record { mods = mods; core = core })) ≡ sig.typed mods.items (core_of core)
unfolding type_of core_of
view_typed mods core = rw types.fold-roll-TypeSig refl

-- ---- contents, results and methods

pub view_slot : (mods : Vec Modifier Global) (kind : kinds.SlotKind) → slot_of (slots.roll-Slot (record { mods = mods; kind = kind })) ≡ sig.slot mods.items (content_of kind)
unfolding slot_of content_of
view_slot mods kind = rw slots.fold-roll-Slot refl

pub view_slot_ret : (mods : Vec Modifier Global) (kind : kinds.SlotKind) → ret_of (rets.Slot (slots.roll-Slot (record { mods = mods; kind = kind }))) ≡ sig.some_ret (sig.slot mods.items (content_of kind))
view_slot_ret mods kind = view_some_ret (slots.roll-Slot (record { mods = mods; kind = kind })) ∙ ap sig.some_ret (view_slot mods kind)

pub view_method : (kind : ℕ) (this explicit : Bool) (generic : Option ℕ) (ret : rets.Ret) (params : Vec Slot Global) (sentinel : Option ℕ) → method_of (methods.roll-MethodSig (record { kind = kind; this = this; explicit = explicit; generic = generic; ret = ret; params = params; sentinel = sentinel })) ≡ sig.method kind this explicit generic (ret_of ret) (slots_from (map slot_of params.items)) sentinel
unfolding method_of ret_of slot_of
view_method kind this explicit generic ret params sentinel = rw methods.fold-roll-MethodSig refl
