-- How the logic stores a signature in a struct's `Model`: as a tree of numbers. There is nothing to believe here.
-- Any map to trees serves that maps different values to different trees. This is proved below; no clause uses more.
use Rattle.std.specs.Prelude.{◌≡◌, ℕ, ℤ, List, refl}
use Rattle.std.specs.Coded.{Coded, code_by, coded×, coded_ℕ, coded_ℤ, coded_bool, coded_list, coded_option}
use Rattle.std.proofs.Common.{ap, eqb, false}
use Rattle.std.proofs.lemmas.Bool.{eqb-false}
use base.Stored.{Gv, gnil, gnum, gcons, num, code_l, inj_l}
use Rattle.table_schema.specs.contracts.token.Token as token
use Rattle.sig_grammar.specs.contracts.element.Element as element
use Rattle.sig_grammar.specs.contracts.types.Modifier as modifier
use Rattle.sig_grammar.specs.contracts.body.Prefix as prefix
use Rattle.sig_grammar.specs.declared.types.Modifier.{Modifier}
use Rattle.sig_grammar.specs.declared.body.Prefix.{Prefix}
use Rattle.sig_grammar.specs.Syntax.{Core, simple, void_pointer, pointer, vector, array, class, value, var, mvar, instance, function, Typed, typed, Types, no_types, type_then, Content, typed_ref, plain, by_ref, Slot, slot, Slots, no_slots, slot_then, Ret, some_ret, void_ret, Method, method, ArrayShape, LocalVariable, local, Body, field, method_body, property, locals, instance_body, type_spec}

-- ---- the tree of each value: the number of its constructor, then the trees of its fields

abbrev modifiers_code : Coded (List Modifier)
modifiers_code = coded_list modifier.the_row.coded

abbrev prefixes_code : Coded (List Prefix)
prefixes_code = coded_list prefix.the_row.coded

abbrev shape_code : Coded ArrayShape
shape_code =
    code_by (ℕ × (List ℕ × List ℤ)) (coded× coded_ℕ (coded× (coded_list coded_ℕ) (coded_list coded_ℤ))) (λ s. (s.rank, (s.sizes, s.low)))
    (λ p. record { rank = p.0; sizes = p.1.0; low = p.1.1 }) (λ _. refl)

abbrev mutual
  core_tree : Core → Gv
  core_tree (simple e) = gcons (gnum 0) (element.the_row.coded.code e)
  core_tree (void_pointer modifiers) = gcons (gnum 1) (modifiers_code.code modifiers)
  core_tree (pointer modifiers to) = gcons (gnum 2) (gcons (modifiers_code.code modifiers) (core_tree to))
  core_tree (vector of) = gcons (gnum 3) (typed_tree of)
  core_tree (array of shape) = gcons (gnum 4) (gcons (typed_tree of) (shape_code.code shape))
  core_tree (class of) = gcons (gnum 5) (token.the_row.coded.code of)
  core_tree (value of) = gcons (gnum 6) (token.the_row.coded.code of)
  core_tree (var n) = gcons (gnum 7) (gnum n)
  core_tree (mvar n) = gcons (gnum 8) (gnum n)
  core_tree (instance is_value of args) =
      gcons (gnum 9) (gcons (coded_bool.code is_value) (gcons (token.the_row.coded.code of) (types_tree args)))
  core_tree (function m) = gcons (gnum 10) (method_tree m)

  typed_tree : Typed → Gv
  typed_tree (typed modifiers core) = gcons (modifiers_code.code modifiers) (core_tree core)

  types_tree : Types → Gv
  types_tree no_types = gnil
  types_tree (type_then t ts) = gcons (typed_tree t) (types_tree ts)

  content_tree : Content → Gv
  content_tree typed_ref = gnil
  content_tree (plain core) = gcons (gnum 0) (core_tree core)
  content_tree (by_ref modifiers core) = gcons (gnum 1) (gcons (modifiers_code.code modifiers) (core_tree core))

  slot_tree : Slot → Gv
  slot_tree (slot modifiers content) = gcons (modifiers_code.code modifiers) (content_tree content)

  slots_tree : Slots → Gv
  slots_tree no_slots = gnil
  slots_tree (slot_then s ss) = gcons (slot_tree s) (slots_tree ss)

  ret_tree : Ret → Gv
  ret_tree (some_ret s) = gcons (gnum 0) (slot_tree s)
  ret_tree (void_ret modifiers) = gcons (gnum 1) (modifiers_code.code modifiers)

  method_tree : Method → Gv
  method_tree (method kind this explicit generic ret params sentinel) =
      gcons (gnum kind) (gcons (coded_bool.code this) (gcons (coded_bool.code explicit) (gcons ((coded_option coded_ℕ).code generic)
      (gcons (ret_tree ret) (gcons (slots_tree params) ((coded_option coded_ℕ).code sentinel))))))

abbrev local_tree : LocalVariable → Gv
local_tree (local prefixes content) = gcons (prefixes_code.code prefixes) (content_tree content)

abbrev body_tree : Body → Gv
body_tree (field s) = gcons (gnum 0) (slot_tree s)
body_tree (method_body m) = gcons (gnum 1) (method_tree m)
body_tree (property this of params) = gcons (gnum 2) (gcons (coded_bool.code this) (gcons (slot_tree of) (code_l slot_tree params)))
body_tree (locals variables) = gcons (gnum 3) (code_l local_tree variables)
body_tree (instance_body args) = gcons (gnum 4) (code_l typed_tree args)
body_tree (type_spec ret) = gcons (gnum 5) (ret_tree ret)

-- ---- different values have different trees

abbrev head : Gv → Gv
head (gcons a b) = a
head _ = gnil

abbrev tail : Gv → Gv
tail (gcons a b) = b
tail _ = gnil

abbrev second : Gv → Gv
second g = head (tail g)

abbrev after : Gv → Gv
after g = tail (tail g)

-- trees of different constructors differ in their first number
apart : {A : Type 0} {a b : Gv} → a ≡ b → eqb (num (head a)) (num (head b)) ≡ false → A
apart {a = a} {b = b} p differ = absurd (eqb-false (num (head a)) (num (head b)) differ (ap (λ (g : Gv). num (head g)) p))

mutual
  core_one : (x y : Core) → core_tree x ≡ core_tree y → x ≡ y
  core_one (simple e) (simple f) p = ap simple (element.the_row.coded.inj e f (ap tail p))
  core_one (void_pointer ms) (void_pointer ns) p = ap void_pointer (modifiers_code.inj ms ns (ap tail p))
  core_one (pointer ms c) (pointer ns d) p = λ i. pointer (modifiers_code.inj ms ns (ap second p) i) (core_one c d (ap after p) i)
  core_one (vector t) (vector u) p = ap vector (typed_one t u (ap tail p))
  core_one (array t s) (array u r) p = λ i. array (typed_one t u (ap second p) i) (shape_code.inj s r (ap after p) i)
  core_one (class t) (class u) p = ap class (token.the_row.coded.inj t u (ap tail p))
  core_one (value t) (value u) p = ap value (token.the_row.coded.inj t u (ap tail p))
  core_one (var m) (var n) p = ap (λ g. var (num (tail g))) p
  core_one (mvar m) (mvar n) p = ap (λ g. mvar (num (tail g))) p
  core_one (instance v t args) (instance w u others) p = λ i.
      instance (coded_bool.inj v w (ap second p) i) (token.the_row.coded.inj t u (ap (λ g. head (after g)) p) i)
      (types_one args others (ap (λ g. tail (after g)) p) i)
  core_one (function m) (function n) p = ap function (method_one m n (ap tail p))
  core_one _ _ p = apart p refl

  typed_one : (x y : Typed) → typed_tree x ≡ typed_tree y → x ≡ y
  typed_one (typed ms c) (typed ns d) p = λ i. typed (modifiers_code.inj ms ns (ap head p) i) (core_one c d (ap tail p) i)

  types_one : (x y : Types) → types_tree x ≡ types_tree y → x ≡ y
  types_one no_types no_types p = refl
  types_one (type_then t ts) (type_then u us) p = λ i. type_then (typed_one t u (ap head p) i) (types_one ts us (ap tail p) i)
  types_one _ _ p = absurd cc

  content_one : (x y : Content) → content_tree x ≡ content_tree y → x ≡ y
  content_one typed_ref typed_ref p = refl
  content_one (plain c) (plain d) p = ap plain (core_one c d (ap tail p))
  content_one (by_ref ms c) (by_ref ns d) p = λ i. by_ref (modifiers_code.inj ms ns (ap second p) i) (core_one c d (ap after p) i)
  content_one _ _ p = absurd cc

  slot_one : (x y : Slot) → slot_tree x ≡ slot_tree y → x ≡ y
  slot_one (slot ms c) (slot ns d) p = λ i. slot (modifiers_code.inj ms ns (ap head p) i) (content_one c d (ap tail p) i)

  slots_one : (x y : Slots) → slots_tree x ≡ slots_tree y → x ≡ y
  slots_one no_slots no_slots p = refl
  slots_one (slot_then s ss) (slot_then t ts) p = λ i. slot_then (slot_one s t (ap head p) i) (slots_one ss ts (ap tail p) i)
  slots_one _ _ p = absurd cc

  ret_one : (x y : Ret) → ret_tree x ≡ ret_tree y → x ≡ y
  ret_one (some_ret s) (some_ret t) p = ap some_ret (slot_one s t (ap tail p))
  ret_one (void_ret ms) (void_ret ns) p = ap void_ret (modifiers_code.inj ms ns (ap tail p))
  ret_one _ _ p = apart p refl

  method_one : (x y : Method) → method_tree x ≡ method_tree y → x ≡ y
  method_one (method k t e g r ps s) (method l u f h q qs v) p = λ i.
      method (num (head (p i))) (coded_bool.inj t u (ap second p) i) (coded_bool.inj e f (ap (λ x. head (after x)) p) i)
      ((coded_option coded_ℕ).inj g h (ap (λ x. second (after x)) p) i) (ret_one r q (ap (λ x. head (after (after x))) p) i)
      (slots_one ps qs (ap (λ x. second (after (after x))) p) i) ((coded_option coded_ℕ).inj s v (ap (λ x. after (after (after x))) p) i)

local_one : (x y : LocalVariable) → local_tree x ≡ local_tree y → x ≡ y
local_one (local ps c) (local qs d) p = λ i. local (prefixes_code.inj ps qs (ap head p) i) (content_one c d (ap tail p) i)

pub body_one : (x y : Body) → body_tree x ≡ body_tree y → x ≡ y
body_one (field s) (field t) p = ap field (slot_one s t (ap tail p))
body_one (method_body m) (method_body n) p = ap method_body (method_one m n (ap tail p))
body_one (property t s ss) (property u r rs) p = λ i.
    property (coded_bool.inj t u (ap second p) i) (slot_one s r (ap (λ g. head (after g)) p) i)
    (inj_l (record { code = slot_tree; inj = slot_one }) ss rs (ap (λ g. tail (after g)) p) i)
body_one (locals ls) (locals ks) p = ap locals (inj_l (record { code = local_tree; inj = local_one }) ls ks (ap tail p))
body_one (instance_body ts) (instance_body us) p = ap instance_body (inj_l (record { code = typed_tree; inj = typed_one }) ts us (ap tail p))
body_one (type_spec r) (type_spec q) p = ap type_spec (ret_one r q (ap tail p))
body_one _ _ p = apart p refl

-- the code of a whole signature of any kind
abbrev pub body_code : Coded Body
body_code = record { code = body_tree; inj = body_one }
