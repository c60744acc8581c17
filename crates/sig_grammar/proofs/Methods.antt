-- If cores are read as they are encoded, so are methods.
use Rattle.sig_grammar.proofs.Prelude.{◌≡◌, ℕ, zero, suc, ◌+◌, ◌*◌, ◌/◌, ◌%◌, ◌<◌, ◌≤◌, Bool, true, false, eqb, ltb, ◌&&◌, ◌||◌, Option, Some, None, is_some, List, [], ◌∷◌, ◌++◌, length, drop, refl, sym, ap, ◌∙◌, subst, arith, IfSome, ◌⊎◌, inl, inr, ⊎_elim, option_map, option_and_then, AllByRecursion, eqb-true, ltb-true, lt-ltb, and_parts, or_cases, Core, Slot, Slots, no_slots, slot_then, Ret, Method, method, slots_from, Part, number, core_parts, slot_parts, slots_parts, ret_parts, method_parts, generic_parts, method_code, flag, count_slots, slots_depth, method_depth, AreSlots, IsMethod, IsMethodKind, IsSentinel, HasOwnSentinel, IsCoreWithin, IsSlotWithin, IsRetWithin, Reader, number_at, head_is, slot_at, ret_at, params_at, generic_at, takes_sentinel, is_method_code, method_from, method_at, IfSome-bind, IfSome-map, IfSome-cond, count-slots_from, slots_good}
use Rattle.sig_grammar.proofs.Readers.{IsBytes, Head, Head-append, Head-split, Takes, Reads, head_byte, behind_byte, NumbersAreRead, Any, number_parts, number_reads}
use Rattle.sig_grammar.proofs.Leading.{begins-heads, no}
use Rattle.sig_grammar.proofs.Codes.{slot_no_sentinel, no_head, slot_reads, ret_reads}

-- ---- lists of parameters

pub slots_to : Slots → List Slot
slots_to no_slots = []
slots_to (slot_then s ss) = s ∷ slots_to ss

pub slots_from_to : (ss : Slots) → slots_from (slots_to ss) ≡ ss
unfolding slots_to
slots_from_to no_slots = refl
slots_from_to (slot_then s ss) = ap (slot_then s) (slots_from_to ss)

pub length-slots_to : (ss : Slots) → length (slots_to ss) ≡ count_slots ss
unfolding slots_to
length-slots_to no_slots = refl
length-slots_to (slot_then s ss) = ap suc (length-slots_to ss)

pub slots_good_to : (d : ℕ) (ss : Slots) → slots_depth ss ≤ d → AreSlots ss → AllByRecursion (IsSlotWithin d) (slots_to ss)
unfolding slots_to
slots_good_to d no_slots le h = tt
slots_good_to d (slot_then s ss) le h = ((omega arith, h.0), slots_good_to d ss (omega arith) h.1)

-- ---- the first byte

flag_is : (x n : ℕ) → x < 2 → flag (eqb x 1) n ≡ x * n
flag_is zero n h = omega arith
flag_is (suc zero) n h = omega arith
flag_is (suc (suc x)) n h = absurd (omega arith)

pub code_found : (c : ℕ) (generic : Option ℕ) → c < 0x80 → is_some generic ≡ eqb (c / 16 % 2) 1 → c ≡ method_code (c % 16) (eqb (c / 32 % 2) 1) (eqb (c / 64 % 2) 1) generic
code_found c generic lt e =
    rw (e, flag_is (c / 16 % 2) 0x10 (omega arith), flag_is (c / 32 % 2) 0x20 (omega arith), flag_is (c / 64 % 2) 0x40 (omega arith)) (omega arith)

abbrev IsCodeOf : ℕ → ℕ → Bool → Bool → Bool → Type 0
IsCodeOf c kind this explicit generic =
    (c < 0x80) × (c % 16 ≡ kind) × (eqb (c / 16 % 2) 1 ≡ generic) × (eqb (c / 32 % 2) 1 ≡ this) × (eqb (c / 64 % 2) 1 ≡ explicit)

bit_is : (x : ℕ) (set : Bool) → x ≡ flag set 1 → eqb x 1 ≡ set
bit_is x true e = rw e refl
bit_is x false e = rw e refl

flag_bit : (set : Bool) (n : ℕ) → (flag set n ≡ flag set 1 * n) × (flag set 1 < 2)
flag_bit true n = (omega arith, omega arith)
flag_bit false n = (omega arith, omega arith)

pub code_bits : (kind : ℕ) (this explicit generic : Bool) → kind < 16 → IsCodeOf (kind + flag generic 0x10 + flag this 0x20 + flag explicit 0x40) kind this explicit generic
code_bits kind this explicit generic lt =
    let g = flag_bit generic 0x10 in
    let t = flag_bit this 0x20 in
    let e = flag_bit explicit 0x40 in
    (omega arith, omega arith, bit_is _ generic (omega arith), bit_is _ this (omega arith), bit_is _ explicit (omega arith))

pub kind_lt : (kind : ℕ) → IsMethodKind kind → kind < 16
kind_lt kind (inl h) = omega arith
kind_lt kind (inr h) = omega arith

kind_test : (kind : ℕ) → IsMethodKind kind → (ltb kind 6 || eqb kind 9) ≡ true
kind_test kind (inl h) = rw (lt-ltb kind 6 h) refl
kind_test kind (inr h) = rw h refl

code_test : (c kind : ℕ) → c < 0x80 → c % 16 ≡ kind → IsMethodKind kind → is_method_code c ≡ true
code_test c kind lt e h = let t = kind_test kind h in rw (lt-ltb c 0x80 lt, e) t

kind_from_test : (c : ℕ) → is_method_code c ≡ true → (c < 0x80) × IsMethodKind (c % 16)
kind_from_test c e =
    let s = and_parts (ltb c 0x80) (ltb (c % 16) 6 || eqb (c % 16) 9) e in
    (ltb-true c 0x80 s.0, ⊎_elim (λ t. inl (ltb-true (c % 16) 6 t)) (λ t. inr (eqb-true (c % 16) 9 t)) (or_cases (ltb (c % 16) 6) (eqb (c % 16) 9) s.1))

-- ---- generic parameters

abbrev GenericIs : Bool → Option ℕ → Type 0
GenericIs generic g = is_some g ≡ generic

generic_found : NumbersAreRead → (generic : Bool) (b : List ℕ) → IsBytes b → IfSome (generic_at generic b) (Takes generic_parts (GenericIs generic) b)
unfolding generic_at
generic_found known true b h =
    IfSome-map (Takes number_parts (λ n. Any n) b) (Takes generic_parts (GenericIs true) b) (λ x. (Some x.0, x.1)) (number_at b) ((number_reads known).found b h)
    (λ x t. record { good = refl; bytes = t.bytes; head = t.head })
generic_found known false b h = record { good = refl; bytes = h; head = refl }

generic_only : NumbersAreRead → (g : Option ℕ) (b remainder : List ℕ) → Head (generic_parts g) b remainder → generic_at (is_some g) b ≡ Some (g, remainder)
unfolding generic_at
generic_only known None b remainder f = rw f refl
generic_only known (Some n) b remainder f = let e = (number_reads known).only b remainder n tt f in rw e refl

-- ---- parameters and SENTINEL

head_true : (n : ℕ) (b : List ℕ) → head_is n b ≡ true → b ≡ n ∷ drop 1 b
head_true n [] h = absurd cc
head_true n (c ∷ b) h = ap (λ (m : ℕ). m ∷ b) (eqb-true c n h)

and_false : (p : Bool) → (p && false) ≡ false
and_false true = refl
and_false false = refl

module _ (known : NumbersAreRead) (d : ℕ) (nested : Reader Core) (cores : Reads nested core_parts (IsCoreWithin d)) (some_depth : 1 ≤ d) where
  abbrev slots : Reads (slot_at nested) slot_parts (IsSlotWithin d)
  slots = slot_reads known d nested cores some_depth

  abbrev params_parts : List Slot × Option ℕ → List Part
  params_parts p = slots_parts (slots_from p.0) p.1

  -- SENTINEL precedes a parameter, and only if the method may have one
  abbrev MayStand : Bool → ℕ → ℕ → Type 0
  MayStand may n k = (k < n) × (may ≡ true)

  abbrev ParamsGood : Bool → List Slot × Option ℕ → Type 0
  ParamsGood may p = AllByRecursion (IsSlotWithin d) p.0 × IfSome p.1 (MayStand may (length p.0))

  abbrev TakesParams : Bool → ℕ → List ℕ → (List Slot × Option ℕ) × List ℕ → Type 0
  TakesParams may n b x = Takes params_parts (ParamsGood may) b x × (length x.0.0 ≡ n)

  parts_later : (x : Slot) (xs : List Slot) (s : Option ℕ) → params_parts (x ∷ xs, option_map suc s) ≡ slot_parts x ++ params_parts (xs, s)
  parts_later x xs None = refl
  parts_later x xs (Some k) = refl

  good_later : (may : Bool) (n : ℕ) (s : Option ℕ) → IfSome s (MayStand may n) → IfSome (option_map suc s) (MayStand may (suc n))
  good_later may n None h = tt
  good_later may n (Some k) h = let lt = h.0 in (omega arith, h.1)

  never : (n : ℕ) (s : Option ℕ) → IfSome s (MayStand false n) → s ≡ None
  never n None h = refl
  never n (Some k) h = absurd (let e = h.1 in cc)

  params_found : (n : ℕ) (may : Bool) (b : List ℕ) → IsBytes b → IfSome (params_at nested may n b) (TakesParams may n b)
  unfolding params_at
  params_found zero may b h = (record { good = (tt, tt); bytes = h; head = refl }, refl)
  params_found (suc n) may b h =
      IfSome-cond (TakesParams may (suc n) b) (may && head_is 0x41 b) _ _
      (λ e. marked n may b h (and_parts may (head_is 0x41 b) e).0 (head_true 0x41 b (and_parts may (head_is 0x41 b) e).1) (params_found n false))
      (λ e.
      IfSome-bind (Takes slot_parts (IsSlotWithin d) b) (TakesParams may (suc n) b) (λ x. option_map (λ y. ((x.0 ∷ y.0.0, option_map suc y.0.1), y.1)) (params_at nested may n x.1)) (slot_at nested b) (slots.found b h)
      (λ x t.
      IfSome-map (TakesParams may n x.1) (TakesParams may (suc n) b) (λ y. ((x.0 ∷ y.0.0, option_map suc y.0.1), y.1)) (params_at nested may n x.1) (params_found n may x.1 t.bytes)
      (λ y u. (
        record {
          good = ((t.good, u.0.good.0), good_later may (length y.0.0) y.0.1 u.0.good.1);
          bytes = u.0.bytes;
          head = subst (λ (ps : List Part). Head ps b y.1) (sym (parts_later x.0 y.0.0 y.0.1)) (Head-append (slot_parts x.0) (params_parts y.0) b x.1 y.1 t.head u.0.head);
        },
        ap suc u.1,
      ))))
    where
      marked : (n : ℕ) (may : Bool) (b : List ℕ) → IsBytes b → may ≡ true → b ≡ 0x41 ∷ drop 1 b → ((t : List ℕ) → IsBytes t → IfSome (params_at nested false n t) (TakesParams false n t)) → IfSome (option_and_then (λ x. option_map (λ y. ((x.0 ∷ y.0.0, Some 0), y.1)) (params_at nested false n x.1)) (slot_at nested (drop 1 b))) (TakesParams may (suc n) b)
      marked n may [] h stands e more = absurd cc
      marked n may (c ∷ tail) h stands e more =
          IfSome-bind (Takes slot_parts (IsSlotWithin d) tail) (TakesParams may (suc n) (c ∷ tail)) (λ x. option_map (λ y. ((x.0 ∷ y.0.0, Some 0), y.1)) (params_at nested false n x.1)) (slot_at nested tail) (slots.found tail (λ k. h (suc k)))
          (λ x t.
          IfSome-map (TakesParams false n x.1) (TakesParams may (suc n) (c ∷ tail)) (λ y. ((x.0 ∷ y.0.0, Some 0), y.1)) (params_at nested false n x.1) (more x.1 t.bytes)
          (λ y u.
          let none = never (length y.0.0) y.0.1 u.0.good.1 in
          let remainder = subst (λ (s : Option ℕ). Head (slots_parts (slots_from y.0.0) s) x.1 y.1) none u.0.head in (
            record {
              good = ((t.good, u.0.good.0), (omega arith, stands));
              bytes = u.0.bytes;
              head = behind_byte c 0x41 _ tail y.1 (let q = e in cc) (Head-append (slot_parts x.0) (params_parts (y.0.0, None)) tail x.1 y.1 t.head remainder);
            },
            ap suc u.1,
          )))

  unmarked : (may : Bool) (x : Slot) (b remainder : List ℕ) → Head (slot_parts x) b remainder → (may && head_is 0x41 b) ≡ false
  unmarked may x b remainder f =
      let e = no_head 0x41 b (begins-heads (no 0x41) (slot_parts x) b remainder (slot_no_sentinel x) f) in
      rw e (and_false may)

  params_only : (xs : List Slot) (s : Option ℕ) (may : Bool) (b remainder : List ℕ) → AllByRecursion (IsSlotWithin d) xs → IfSome s (MayStand may (length xs)) → Head (slots_parts (slots_from xs) s) b remainder → params_at nested may (length xs) b ≡ Some ((xs, s), remainder)
  unfolding params_at
  params_only [] None may b remainder good stands f = rw f refl
  params_only [] (Some k) may b remainder good stands f = absurd (let lt = stands.0 in omega arith)
  params_only (x ∷ xs) None may b remainder good stands f =
      let t = Head-split (slot_parts x) (slots_parts (slots_from xs) None) b remainder f in
      let e = slots.only b t.0 x good.0 t.1 in
      let g = params_only xs None may t.0 remainder good.1 tt t.2 in
      let u = unmarked may x b t.0 t.1 in
      rw (u, e, g) refl
  params_only (x ∷ xs) (Some zero) may b remainder good stands f =
      let s = head_byte 0x41 (slot_parts x ++ slots_parts (slots_from xs) None) b remainder f in
      let t = Head-split (slot_parts x) (slots_parts (slots_from xs) None) s.0 remainder s.2 in
      let e = slots.only s.0 t.0 x good.0 t.1 in
      let g = params_only xs None false t.0 remainder good.1 tt t.2 in
      rw (s.1, stands.1, e, g) refl
  params_only (x ∷ xs) (Some (suc k)) may b remainder good stands f =
      let t = Head-split (slot_parts x) (slots_parts (slots_from xs) (Some k)) b remainder f in
      let e = slots.only b t.0 x good.0 t.1 in
      let lt = stands.0 in
      let g = params_only xs (Some k) may t.0 remainder good.1 (omega arith, stands.1) t.2 in
      let u = unmarked may x b t.0 t.1 in
      rw (u, e, g) refl

  -- ---- the whole method

  abbrev pub IsMethodOf : Bool → Method → Type 0
  IsMethodOf own m = (method_depth m ≤ d) × IsMethod m × HasOwnSentinel own m

  takes_from : (kind : ℕ) → takes_sentinel kind ≡ true → (kind ≡ 1) ⊎ (kind ≡ 5)
  takes_from kind e = ⊎_elim (λ t. inl (eqb-true kind 1 t)) (λ t. inr (eqb-true kind 5 t)) (or_cases (eqb kind 1) (eqb kind 5) e)

  takes_to : (kind : ℕ) → (kind ≡ 1) ⊎ (kind ≡ 5) → takes_sentinel kind ≡ true
  takes_to kind (inl e) = rw e refl
  takes_to kind (inr e) = rw e refl

  sentinel_good : (own : Bool) (kind n m : ℕ) (s : Option ℕ) → n ≡ m → IfSome s (MayStand (own && takes_sentinel kind) n) → IfSome s (IsSentinel kind m)
  sentinel_good own kind n m None e h = tt
  sentinel_good own kind n m (Some k) e h = let lt = h.0 in (omega arith, takes_from kind (and_parts own (takes_sentinel kind) h.1).1)

  own_found : (own may : Bool) (n kind : ℕ) (this explicit : Bool) (generic : Option ℕ) (ret : Ret) (params : Slots) (s : Option ℕ) → IfSome s (MayStand (own && may) n) → HasOwnSentinel own (method kind this explicit generic ret params s)
  own_found true may n kind this explicit generic ret params s h = tt
  own_found false may n kind this explicit generic ret params s h = never n s h

  sentinel_stands : (own : Bool) (n kind : ℕ) (this explicit : Bool) (generic : Option ℕ) (ret : Ret) (params : Slots) (s : Option ℕ) → n ≡ count_slots params → IfSome s (IsSentinel kind (count_slots params))
      → HasOwnSentinel own (method kind this explicit generic ret params s) → IfSome s (MayStand (own && takes_sentinel kind) n)
  sentinel_stands own n kind this explicit generic ret params None e h none = tt
  sentinel_stands true n kind this explicit generic ret params (Some k) e h none = let lt = h.0 in (omega arith, takes_to kind h.1)
  sentinel_stands false n kind this explicit generic ret params (Some k) e h none = absurd cc

  abbrev after_code : Method → List Part
  after_code (method kind this explicit generic ret params sentinel) =
      generic_parts generic ++ number (count_slots params) ∷ (ret_parts ret ++ slots_parts params sentinel)

  remainder_found : (own : Bool) (c : ℕ) (b : List ℕ) → is_method_code c ≡ true → IsBytes b → IfSome (method_from own nested c b) (Takes method_parts (IsMethodOf own) (c ∷ b))
  unfolding method_from
  remainder_found own c b e h =
      let TakesWhole : Method × List ℕ → Type 0 = Takes method_parts (IsMethodOf own) (c ∷ b) in
      let code = kind_from_test c e in
      IfSome-bind (Takes generic_parts (GenericIs (eqb (c / 16 % 2) 1)) b) TakesWhole (λ g. option_and_then (λ n. option_and_then (λ r. option_map (λ p. (method (c % 16) (eqb (c / 32 % 2) 1) (eqb (c / 64 % 2) 1) g.0 r.0 (slots_from p.0.0) p.0.1, p.1)) (params_at nested (own && takes_sentinel (c % 16)) n.0 r.1)) (ret_at nested n.1)) (number_at g.1)) (generic_at (eqb (c / 16 % 2) 1) b) (generic_found known (eqb (c / 16 % 2) 1) b h)
      (λ g tg.
      IfSome-bind (Takes number_parts (λ n. Any n) g.1) TakesWhole (λ n. option_and_then (λ r. option_map (λ p. (method (c % 16) (eqb (c / 32 % 2) 1) (eqb (c / 64 % 2) 1) g.0 r.0 (slots_from p.0.0) p.0.1, p.1)) (params_at nested (own && takes_sentinel (c % 16)) n.0 r.1)) (ret_at nested n.1)) (number_at g.1) ((number_reads known).found g.1 tg.bytes)
      (λ n tn.
      IfSome-bind (Takes ret_parts (IsRetWithin d) n.1) TakesWhole (λ r. option_map (λ p. (method (c % 16) (eqb (c / 32 % 2) 1) (eqb (c / 64 % 2) 1) g.0 r.0 (slots_from p.0.0) p.0.1, p.1)) (params_at nested (own && takes_sentinel (c % 16)) n.0 r.1)) (ret_at nested n.1) ((ret_reads known d nested cores some_depth).found n.1 tn.bytes)
      (λ r tr.
      IfSome-map (TakesParams (own && takes_sentinel (c % 16)) n.0 r.1) TakesWhole (λ p. (method (c % 16) (eqb (c / 32 % 2) 1) (eqb (c / 64 % 2) 1) g.0 r.0 (slots_from p.0.0) p.0.1, p.1)) (params_at nested (own && takes_sentinel (c % 16)) n.0 r.1) (params_found n.0 (own && takes_sentinel (c % 16)) r.1 tr.bytes)
      (λ p tp.
      let count : count_slots (slots_from p.0.0) ≡ n.0 = count-slots_from p.0.0 ∙ tp.1 in
      let many = slots_good d p.0.0 tp.0.good.0 in
      let ret_le = tr.good.0 in
      let params_head = Head-append (ret_parts r.0) (slots_parts (slots_from p.0.0) p.0.1) n.1 r.1 p.1 tr.head tp.0.head in
      let counted = subst (λ (k : ℕ). Head (number k ∷ (ret_parts r.0 ++ slots_parts (slots_from p.0.0) p.0.1)) g.1 p.1) (sym count) (Head-append (number_parts n.0) (ret_parts r.0 ++ slots_parts (slots_from p.0.0) p.0.1) g.1 n.1 p.1 tn.head params_head) in
      record {
        good = (omega (arith, many.0), (code.1, sentinel_good own (c % 16) (length p.0.0) (count_slots (slots_from p.0.0)) p.0.1 (sym (count-slots_from p.0.0)) tp.0.good.1, tr.good.1, many.1), own_found own (takes_sentinel (c % 16)) (length p.0.0) (c % 16) (eqb (c / 32 % 2) 1) (eqb (c / 64 % 2) 1) g.0 r.0 (slots_from p.0.0) p.0.1 tp.0.good.1);
        bytes = tp.0.bytes;
        head = behind_byte c (method_code (c % 16) (eqb (c / 32 % 2) 1) (eqb (c / 64 % 2) 1) g.0) (generic_parts g.0 ++ number (count_slots (slots_from p.0.0)) ∷ (ret_parts r.0 ++ slots_parts (slots_from p.0.0) p.0.1)) b p.1 (code_found c g.0 code.0 tg.good) (Head-append (generic_parts g.0) (number (count_slots (slots_from p.0.0)) ∷ (ret_parts r.0 ++ slots_parts (slots_from p.0.0) p.0.1)) b g.1 p.1 tg.head counted);
      }))))

  method_found : (own : Bool) (b : List ℕ) → IsBytes b → IfSome (method_at own nested b) (Takes method_parts (IsMethodOf own) b)
  unfolding method_at
  method_found own [] h = tt
  method_found own (c ∷ b) h =
      IfSome-cond (Takes method_parts (IsMethodOf own) (c ∷ b)) (is_method_code c) _ _ (λ e. remainder_found own c b e (λ k. h (suc k))) (λ e. tt)

  method_only : (own : Bool) (b remainder : List ℕ) (m : Method) → IsMethodOf own m → Head (method_parts m) b remainder → method_at own nested b ≡ Some (m, remainder)
  unfolding method_at method_from
  method_only own b remainder (method kind this explicit generic ret params sentinel) good f =
      let s = head_byte (method_code kind this explicit generic) (after_code (method kind this explicit generic ret params sentinel)) b remainder f in
      let g = Head-split (generic_parts generic) (number (count_slots params) ∷ (ret_parts ret ++ slots_parts params sentinel)) s.0 remainder s.2 in
      let n = Head-split (number_parts (count_slots params)) (ret_parts ret ++ slots_parts params sentinel) g.0 remainder g.2 in
      let r = Head-split (ret_parts ret) (slots_parts params sentinel) n.0 remainder n.2 in
      let code = method_code kind this explicit generic in
      let bits = code_bits kind this explicit (is_some generic) (kind_lt kind good.1.0) in
      let test = code_test code kind bits.0 bits.1 good.1.0 in
      let eg = generic_only known generic s.0 g.0 g.1 in
      let en = (number_reads known).only g.0 n.0 (count_slots params) tt n.1 in
      let er = (ret_reads known d nested cores some_depth).only n.0 r.0 ret (omega (arith, good.0), good.1.2) r.1 in
      let same = slots_from_to params in
      let count = length-slots_to params in
      let params_head = subst (λ (ss : Slots). Head (slots_parts ss sentinel) r.0 remainder) (sym same) r.2 in
      let ep = params_only (slots_to params) sentinel (own && takes_sentinel kind) r.0 remainder (slots_good_to d params (omega (arith, good.0)) good.1.3) (sentinel_stands own (length (slots_to params)) kind this explicit generic ret params sentinel count good.1.1 good.2) params_head in
      let ep' = subst (λ (k : ℕ). params_at nested (own && takes_sentinel kind) k r.0 ≡ Some ((slots_to params, sentinel), remainder)) count ep in
      rw (s.1, test, bits.1, bits.2, bits.3, bits.4, eg, en, er, ep') (ap (λ (ss : Slots). Some (method kind this explicit generic ret ss sentinel, remainder)) same)

  pub method_reads : (own : Bool) → Reads (method_at own nested) method_parts (IsMethodOf own)
  method_reads own = record { found = method_found own; only = method_only own }
