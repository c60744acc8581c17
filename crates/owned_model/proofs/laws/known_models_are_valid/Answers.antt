use Rattle.owned_model.proofs.Prelude.{◌≡◌, ◌⊎◌, ℕ, ◌+◌, ◌*◌, ◌-◌, ◌^◌, ◌<◌, ◌≤◌, ℤ, neg_ℤ, Bool, true, false, List, [], ◌∷◌, length, Option, Some, None, slice_get, slice_index_or, IfSome, Contains, IsUtf8, zero, suc, inl, inr, refl, sym, ap, ◌∙◌, subst, arith, cases_eq, cases_lt, not_there, ∥∥₁_map, TableId, Module, ColumnKind, SigKind, tables, table_index_of, Holds, IsEncodable, short, tokens, IsTo, IsOfKind, IsStorable, IsHeld, Metadata, count_in, Names, MayRefer, IsWithinMembers, NamesTypes, IsValidCell, links_of, IsValid}
use Rattle.std.specs.List.{AllByRecursion}
use Rattle.std.specs.Str.{is_utf8}
use Rattle.std.proofs.lemmas.Int.{ints, by_lt_z}
use Rattle.std.proofs.lemmas.Str.{IsUtf8-from_is_utf8, is_utf8-from_IsUtf8}
use Rattle.packed.specs.Packed.{FitsBits, half_range}
use Rattle.heap_entries.specs.Entries.{HasNoNul}
use Rattle.table_schema.specs.declared.token.Token.{Token}
use Rattle.table_schema.specs.declared.column.ColumnKind.TheVariants as kind
use Rattle.table_schema.specs.declared.column.SigKind.TheVariants as column
use Rattle.table_schema.specs.declared.coded.Coded.{Coded}
use Rattle.table_schema.specs.declared.coded.Coded.TheVariants.{TypeDefOrRef}
use Rattle.table_schema.specs.CodedIndexes.{tables_of, tag_bits, IsCoded}
use Rattle.sig_grammar.specs.Syntax as sig
use Rattle.sig_grammar.specs.Grammar.{count_slots, body_parts}
use Rattle.sig_grammar.specs.Parts.{Part, byte, number, signed, index, index_number, HasEncoding}
use Rattle.sig_grammar.specs.Limits.{IsMethodKind, IsSentinel, HasOwnSentinel, IsArrayShape, IsCore, IsTyped, AreTypes, IsContent, IsSlot, AreSlots, IsRet, IsMethod, IsSlotWithin, IsTypedWithin, IsLocalWithin, IsBodyWithin, slot_depth, typed_depth, content_depth, method_depth, ret_depth}
use Rattle.metadata.specs.Cell.{Cell}
use Rattle.metadata.specs.Cell as cell
use Rattle.metadata.proofs.LinkLemmas.{links_known}
use Rattle.owned_model.proofs.laws.known_models_are_valid.Goals as goal

-- the fact holds if it is not impossible
abbrev Stable : Type 0 → Type 0
Stable A = ¬ (¬ A) → A

-- what follows from a fact that is not impossible is not impossible
so : {A B : Type 0} → ¬ (¬ A) → (A → B) → ¬ (¬ B)
so h f n = h (λ a. n (f a))

-- ---- numbers, tests, pairs, options and lists

decided : {A : Type 0} → A ⊎ (¬ A) → Stable A
decided (inl holds) h = holds
decided (inr fails) h = absurd (h fails)

decided_lt : (m n : ℕ) → (m < n) ⊎ (¬ (m < n))
decided_lt m n = elim (cases_lt m n) [
  | inl below ↦ inl below
  | inr above ↦ inr (λ below. omega arith)
]

decided_either : {A B : Type 0} → A ⊎ (¬ A) → B ⊎ (¬ B) → (A ⊎ B) ⊎ (¬ (A ⊎ B))
decided_either (inl a) b = inl (inl a)
decided_either (inr a) (inl b) = inl (inr b)
decided_either {A} {B} (inr a) (inr b) = inr neither
  where
    neither : ¬ (A ⊎ B)
    neither (inl holds) = a holds
    neither (inr holds) = b holds

stable_eq : (m n : ℕ) → Stable (m ≡ n)
stable_eq m n = decided (cases_eq m n)

stable_lt : (m n : ℕ) → Stable (m < n)
stable_lt m n = decided (decided_lt m n)

stable_le : (m n : ℕ) → Stable (m ≤ n)
stable_le m n h = elim (cases_lt n m) [
  | inl above ↦ absurd (h (λ le. omega arith))
  | inr le ↦ le
]

stable_true : (test : Bool) → Stable (test ≡ true)
stable_true true h = refl
stable_true false h = absurd (h (λ e. cc))

stable_none : (found : Option ℕ) → Stable (found ≡ None)
stable_none None h = refl
stable_none (Some n) h = absurd (h (λ e. cc))

stable_both : {A B : Type 0} → Stable A → Stable B → Stable (A × B)
stable_both a b h = (a (so h (λ both. both.0)), b (so h (λ both. both.1)))

stable_three : {A B C : Type 0} → Stable A → Stable B → Stable C → Stable (A × B × C)
stable_three a b c h = (a (so h (λ all. all.0)), b (so h (λ all. all.1)), c (so h (λ all. all.2)))

stable_four : {A B C D : Type 0} → Stable A → Stable B → Stable C → Stable D → Stable (A × B × C × D)
stable_four a b c d h = (a (so h (λ all. all.0)), b (so h (λ all. all.1)), c (so h (λ all. all.2)), d (so h (λ all. all.3)))

stable_if : {X : Type 0} (P : X → Type 0) → ((x : X) → Stable (P x)) → (found : Option X) → Stable (IfSome found P)
stable_if P each None h = tt
stable_if P each (Some x) h = each x h

stable_all : {X : Type 0} (P : X → Type 0) → ((x : X) → Stable (P x)) → (xs : List X) → Stable (AllByRecursion P xs)
stable_all P each [] h = tt
stable_all P each (x ∷ xs) h = (each x (so h (λ all. all.0)), stable_all P each xs (so h (λ all. all.1)))

-- ---- signatures

stable_fits : (z : ℤ) → Stable (FitsBits 29 z)
stable_fits z h = record {
  low = by_lt_z z (neg_ℤ (half_range 29)) (λ below. absurd (h (λ fits. let low = fits.low in omega (arith, ints)))) (λ low. low);
  high = by_lt_z z (half_range 29) (λ high. high) (λ above. absurd (h (λ fits. let high = fits.high in omega (arith, ints))));
}

stable_shape : (shape : sig.ArrayShape) → Stable (IsArrayShape shape)
stable_shape shape = stable_three (stable_le 1 shape.rank) (stable_le (length shape.sizes) shape.rank) (stable_le (length shape.low) shape.rank)

stable_method_kind : (k : ℕ) → Stable (IsMethodKind k)
stable_method_kind k = decided (decided_either (decided_lt k 6) (cases_eq k 9))

stable_sentinel : (k count before : ℕ) → Stable (IsSentinel k count before)
stable_sentinel k count before = stable_both (stable_lt before count) (decided (decided_either (cases_eq k 1) (cases_eq k 5)))

stable_own_sentinel : (m : sig.Method) → Stable (HasOwnSentinel false m)
stable_own_sentinel (sig.method k this explicit generic ret params sentinel) = stable_none sentinel

mutual
  stable_core : (core : sig.Core) → Stable (IsCore core)
  stable_core (sig.pointer modifiers to) = stable_core to
  stable_core (sig.vector of) = stable_typed of
  stable_core (sig.array of shape) = stable_both (stable_typed of) (stable_shape shape)
  stable_core (sig.instance is_value of args) = stable_types args
  stable_core (sig.function m) = stable_method m
  stable_core _ = λ h. tt

  stable_typed : (typed : sig.Typed) → Stable (IsTyped typed)
  stable_typed (sig.typed modifiers core) = stable_core core

  stable_types : (types : sig.Types) → Stable (AreTypes types)
  stable_types sig.no_types = λ h. tt
  stable_types (sig.type_then t ts) = stable_both (stable_typed t) (stable_types ts)

  stable_content : (content : sig.Content) → Stable (IsContent content)
  stable_content sig.typed_ref = λ h. tt
  stable_content (sig.plain core) = stable_core core
  stable_content (sig.by_ref modifiers core) = stable_core core

  stable_slot : (slot : sig.Slot) → Stable (IsSlot slot)
  stable_slot (sig.slot modifiers content) = stable_content content

  stable_slots : (slots : sig.Slots) → Stable (AreSlots slots)
  stable_slots sig.no_slots = λ h. tt
  stable_slots (sig.slot_then s ss) = stable_both (stable_slot s) (stable_slots ss)

  stable_ret : (ret : sig.Ret) → Stable (IsRet ret)
  stable_ret (sig.some_ret s) = stable_slot s
  stable_ret (sig.void_ret modifiers) = λ h. tt

  stable_method : (m : sig.Method) → Stable (IsMethod m)
  stable_method (sig.method k this explicit generic ret params sentinel) =
      stable_four (stable_method_kind k) (stable_if (IsSentinel k (count_slots params)) (stable_sentinel k (count_slots params)) sentinel) (stable_ret ret)
      (stable_slots params)

stable_slot_within : (depth : ℕ) (s : sig.Slot) → Stable (IsSlotWithin depth s)
stable_slot_within depth s = stable_both (stable_le (slot_depth s) depth) (stable_slot s)

stable_typed_within : (depth : ℕ) (t : sig.Typed) → Stable (IsTypedWithin depth t)
stable_typed_within depth t = stable_both (stable_le (typed_depth t) depth) (stable_typed t)

stable_local_within : (depth : ℕ) (l : sig.LocalVariable) → Stable (IsLocalWithin depth l)
stable_local_within depth (sig.local prefixes content) = stable_both (stable_le (content_depth content) depth) (stable_content content)

stable_body : (depth : ℕ) (signature : sig.Body) → Stable (IsBodyWithin depth signature)
stable_body depth (sig.field s) = stable_slot_within depth s
stable_body depth (sig.method_body m) = stable_both (stable_le (method_depth m) depth) (stable_method m)
stable_body depth (sig.property this of params) =
    stable_both (stable_slot_within depth of) (stable_all (IsSlotWithin depth) (stable_slot_within depth) params)
stable_body depth (sig.locals variables) = stable_all (IsLocalWithin depth) (stable_local_within depth) variables
stable_body depth (sig.instance_body args) = stable_all (IsTypedWithin depth) (stable_typed_within depth) args
stable_body depth (sig.type_spec ret) = stable_both (stable_le (ret_depth ret) depth) (stable_ret ret)

stable_holds : (k : SigKind) (signature : sig.Body) → Stable (Holds k signature)
stable_holds column.Field (sig.field s) = λ h. tt
stable_holds column.MethodDef (sig.method_body m) = stable_own_sentinel m
stable_holds column.MemberRef (sig.field s) = λ h. tt
stable_holds column.MemberRef (sig.method_body m) = λ h. tt
stable_holds column.StandAlone (sig.locals variables) = λ h. tt
stable_holds column.StandAlone (sig.method_body m) = λ h. tt
stable_holds column.StandAlone (sig.field s) = λ h. tt
stable_holds column.Property (sig.property this of params) = λ h. tt
stable_holds column.TypeSpec (sig.type_spec ret) = λ h. tt
stable_holds column.Instance (sig.instance_body args) = λ h. tt
stable_holds _ _ = λ h. h (λ none. none)

-- ---- cells, without references by coded index and signatures

stable_no_nul : (bytes : List ℕ) → Stable (HasNoNul bytes)
stable_no_nul bytes h = λ k d below zero_at. h (λ all. all k d below zero_at)

stable_utf8 : (bytes : List ℕ) → Stable (IsUtf8 bytes)
stable_utf8 bytes h = IsUtf8-from_is_utf8 bytes (stable_true (is_utf8 bytes) (so h (is_utf8-from_IsUtf8 bytes)))

stable_storable : (c : Cell) → Stable (IsStorable c)
stable_storable (cell.Text text) = stable_both (stable_no_nul text) (stable_utf8 text)
stable_storable (cell.Bytes bytes) = stable_lt (length bytes) (2 ^ 29)
stable_storable (cell.Guid guid) = stable_if (λ bytes. length bytes ≡ 16) (λ bytes. stable_eq (length bytes) 16) guid
stable_storable _ = λ h. tt

stable_names : (model : Metadata) (token : Token) → Stable (Names model token)
stable_names model token = stable_both (stable_le 1 token.row) (stable_le token.row (count_in model token.table))

stable_refers : (model : Metadata) (nullable : Bool) (c : Cell) → Stable (MayRefer model nullable c)
stable_refers model nullable (cell.Ref None) = stable_true nullable
stable_refers model nullable (cell.Ref (Some token)) = stable_names model token
stable_refers model nullable _ = λ h. tt

stable_within : (model : Metadata) (k : ColumnKind) (c : Cell) → Stable (IsWithinMembers model k c)
stable_within model (kind.List member) (cell.Start start) = stable_le start (count_in model member + 1)
stable_within model _ _ = λ h. tt

stable_types_named : (model : Metadata) (c : Cell) → Stable (NamesTypes model c)
stable_types_named model (cell.Sig signature) = stable_all (Names model) (stable_names model) (tokens signature)
stable_types_named model _ = λ h. tt

-- ---- coded indexes

tag_is : (shifted tag n : ℕ) → n ≡ shifted + tag → tag ≡ n - shifted
tag_is shifted tag n e = omega arith

tail_is : (shifted tag n : ℕ) → n ≡ shifted + tag → n ≡ shifted + (n - shifted)
tail_is shifted tag n e = omega arith

module _ (stand : (table : TableId) → slice_index_or tables (table_index_of table) Module ≡ table) where
  decided_table : (a b : TableId) → (a ≡ b) ⊎ (¬ (a ≡ b))
  decided_table a b = elim (cases_eq (table_index_of a) (table_index_of b)) [
    | inl same ↦ inl (sym (stand a) ∙ ap (λ i. slice_index_or tables i Module) same ∙ stand b)
    | inr other ↦ inr (λ e. other (ap table_index_of e))
  ]

  decided_listed : (listed : Option TableId) (table : TableId) → (listed ≡ Some table) ⊎ (¬ (listed ≡ Some table))
  decided_listed None table = inr (λ e. cc)
  decided_listed (Some a) table = elim (decided_table a table) [
    | inl same ↦ inl (ap Some same)
    | inr other ↦ inr (λ e. other cc)
  ]

  -- an element that is not the first is one of the others
  among : (y : Option TableId) (ys : List (Option TableId)) (x : Option TableId) → ¬ (y ≡ x) → Contains (y ∷ ys) x → Contains ys x
  among y ys x other (zero, below, is) = absurd (other is)
  among y ys x other (suc k, below, is) = (k, omega arith, is)

  decided_contains : (listed : List (Option TableId)) (table : TableId) → Contains listed (Some table) ⊎ (¬ Contains listed (Some table))
  decided_contains [] table = inr (λ has. let below = has.1 in omega arith)
  decided_contains (y ∷ ys) table = elim (decided_listed y table) [
    | inl same ↦ inl (0, omega arith, same)
    | inr other ↦ elim (decided_contains ys table) [
      | inl has ↦ inl (suc has.0, omega (arith, has.1), has.2)
      | inr none ↦ inr (λ has. none (among y ys (Some table) other has))
    ]
  ]

  stable_found : (found : Option (Option TableId)) (table : TableId) → Stable (found ≡ Some (Some table))
  stable_found None table h = absurd (h (λ e. cc))
  stable_found (Some listed) table h = elim (decided_listed listed table) [
    | inl same ↦ ap Some same
    | inr other ↦ absurd (h (λ e. other cc))
  ]

  -- the tag is what the number is more than the shifted row
  stable_coded : (coded : Coded) (n : ℕ) (table : TableId) (row : ℕ) → Stable (IsCoded coded n table row)
  stable_coded coded n table row h =
      let shifted = row * 2 ^ tag_bits coded in
      record {
        tag = n - shifted;
        listed = stable_found (slice_get (tables_of coded) (n - shifted)) table
            (so h (λ is. subst (λ t. slice_get (tables_of coded) t ≡ Some (Some table)) (tag_is shifted is.tag n is.equal) is.listed));
        equal = stable_eq n (shifted + (n - shifted)) (so h (λ is. tail_is shifted is.tag n is.equal));
      }

  stable_part : (part : Part) → Stable (HasEncoding part)
  stable_part (byte c) = stable_lt c 256
  stable_part (number n) = stable_lt n (2 ^ 29)
  stable_part (signed z) = stable_fits z
  stable_part (index token) = stable_both (stable_coded TypeDefOrRef (index_number token) token.table token.row) (stable_lt token.row (2 ^ 27))

  -- ---- cells

  stable_to : (listed : List (Option TableId)) (reference : Option Token) → Stable (IsTo listed reference)
  stable_to listed None h = tt
  stable_to listed (Some token) h = decided (decided_contains listed token.table) h

  stable_encodable : (signature : sig.Body) → Stable (IsEncodable signature)
  stable_encodable signature h = record {
    body = stable_body 128 signature (so h (λ is. is.body));
    parts = stable_all HasEncoding stable_part (body_parts signature) (so h (λ is. is.parts));
    limit = stable_lt (length (short signature)) (2 ^ 29) (so h (λ is. is.limit));
  }

  stable_held : (k : ColumnKind) (c : Cell) → Stable (IsHeld k c)
  stable_held (kind.Signature of) (cell.Sig signature) = stable_both (stable_holds of signature) (stable_encodable signature)
  stable_held _ _ = λ h. tt

  stable_kind : (k : ColumnKind) (c : Cell) → Stable (IsOfKind k c)
  stable_kind kind.U8 (cell.Number n) = stable_lt n (2 ^ 8)
  stable_kind kind.U16 (cell.Number n) = stable_lt n (2 ^ 16)
  stable_kind kind.U32 (cell.Number n) = stable_lt n (2 ^ 32)
  stable_kind kind.Text (cell.Text text) = λ h. tt
  stable_kind kind.Guid (cell.Guid guid) = λ h. tt
  stable_kind kind.Blob (cell.Bytes bytes) = λ h. tt
  stable_kind (kind.Signature of) (cell.Sig signature) = λ h. tt
  stable_kind (kind.Row table) (cell.Ref reference) = stable_to (Some table ∷ []) reference
  stable_kind (kind.Coded coded) (cell.Ref reference) = stable_to (tables_of coded) reference
  stable_kind (kind.List member) (cell.Start row) = λ h. tt
  stable_kind _ _ = λ h. h (λ none. none)

  stable_cell : (model : Metadata) (k : ColumnKind) (nullable : Bool) (c : Cell) → Stable (IsValidCell model k nullable c)
  stable_cell model k nullable c h = record {
    of_kind = stable_kind k c (so h (λ is. is.of_kind));
    storable = stable_storable c (so h (λ is. is.storable));
    refers = stable_refers model nullable c (so h (λ is. is.refers));
    within = stable_within model k c (so h (λ is. is.within));
    held = stable_held k c (so h (λ is. is.held));
    types = stable_types_named model c (so h (λ is. is.types));
  }

  -- ---- the whole

  stable_valid : (model : Metadata) → ∥ IsValid model ∥₁ → IsValid model
  stable_valid model known = let h : ¬ (¬ IsValid model) = λ none. not_there known none in record {
    version = record {
      short = stable_le _ _ (so h (λ is. is.version.short));
      text = stable_utf8 model.version (so h (λ is. is.version.text));
      no_nul = stable_no_nul model.version (so h (λ is. is.version.no_nul));
    };
    user = record { zero_padded = stable_eq _ _ (so h (λ is. is.user.zero_padded)); small = stable_le _ _ (so h (λ is. is.user.small)) };
    tables = stable_eq _ _ (so h (λ is. is.tables));
    few = λ table. stable_le _ _ (so h (λ is. is.few table));
    long = λ table row there. stable_eq _ _ (so h (λ is. is.long table row there));
    cells = λ table row cell_index there below. stable_cell model _ _ _ (so h (λ is. is.cells table row cell_index there below));
    linked = links_known (links_of model) (∥∥₁_map known (λ is. is.linked));
  }

pub returns : goal.returns
returns c = stable_valid c.tables_stand.ensures.stand
