-- Arguments with the elements of their arrays, and whole values, are read as they are encoded.
use Rattle.blob_values.proofs.Prelude.{nat_tests, ◌≢◌, ◌==◌, flat_map, option_map, eqb-true, ElementType, ArgumentType, One, Vector, Elem, Argument, one, vector, Named, AttributeValue, element_type, argument_type, Part, byte, sized, string, AreParts, element_parts, null_count, argument_parts, type_parts, member_code, named_parts, value_parts, has_values, IsArgument, IsAttributeValue, Head, element, array, Item, fixed, entry, named_count, named, head_of, entries_of, fixed_items, named_items, items_of, Reporter, item_then, sized_at, element_at, count_of, head_at, Intro, intro_at, entries_at, after, argument_at, named_left, fixed_left, after_prolog, all_at, IfSome-bind, IfSome-cond, IfSome-map}
use Rattle.std.proofs.Common.{◌≡◌, ℕ, zero, suc, Bool, true, false, cond, Option, Some, None, IfSome, List, [], ◌∷◌, ◌++◌, length, map, append_assoc, refl, sym, ap, subst, arith}
use Rattle.std.specs.List.{AllByRecursion}
use Rattle.blob_values.proofs.PartLemmas.{AreBytes, bytes_after, parts_append, parts_split, self_some, weaker_some, Takes, Any, sized_reads, NumbersAreRead}
use Rattle.blob_values.proofs.ElementLemmas.{HasType, HasValues, element_has_values, element_reads, IsKnown, intro_parts, intro_reads}

-- ---- the elements of an array

-- items that were read, and those that follow
abbrev After : List Item → Option (List Item × List ℕ) → Option (List Item × List ℕ)
After items reported = option_map (λ x. (items ++ x.0, x.1)) reported

after_none : (o : Option (List Item × List ℕ)) → o ≡ After [] o
after_none None = refl
after_none (Some x) = refl

then_after : (i : Item) (items : List Item) (o : Option (List Item × List ℕ)) → item_then i (After items o) ≡ After (i ∷ items) o
then_after i items None = refl
then_after i items (Some x) = refl

-- elements at the start, and the items of them and of what follows
record TakesEntries (of : ElementType) (n : ℕ) (next : Reporter) (b : List ℕ) (y : List Item × List ℕ) : Type 0 where
  es : List Elem
  mid : List ℕ
  remainder : List Item
  long : length es ≡ n
  typed : AllByRecursion (λ e. element_type e ≡ of) es
  are : AreParts (flat_map element_parts es) mid b
  more : next mid ≡ Some (remainder, y.1)
  same : y.0 ≡ map entry es ++ remainder

entries_found : NumbersAreRead → (of : ElementType) (n : ℕ) (next : Reporter) (b : List ℕ) → AreBytes b → IfSome (entries_at of n next b) (TakesEntries of n next b)
unfolding entries_at
entries_found known of zero next b h =
    weaker_some (λ y. next b ≡ Some y) (TakesEntries of zero next b) (next b) (self_some (next b))
    (λ y e. record { es = []; mid = b; remainder = y.0; long = refl; typed = tt; are = refl; more = e; same = refl })
entries_found known of (suc n) next b h =
    IfSome-bind (Takes element_parts (HasType of) b) (TakesEntries of (suc n) next b) (λ x. item_then (entry x.0) (entries_at of n next x.1)) (element_at of b) ((element_reads known of).found b h)
    (λ x took. IfSome-map (TakesEntries of n next x.1) (TakesEntries of (suc n) next b) (λ y. (entry x.0 ∷ y.0, y.1)) (entries_at of n next x.1)
    (entries_found known of n next x.1 (bytes_after (element_parts x.0) b x.1 took.are h))
    (λ y m. record {
      es = x.0 ∷ m.es;
      mid = m.mid;
      remainder = m.remainder;
      long = ap (λ (k : ℕ). suc k) m.long;
      typed = (took.good, m.typed);
      are = parts_append (element_parts x.0) (flat_map element_parts m.es) b x.1 m.mid took.are m.are;
      more = m.more;
      same = ap (λ (t : List Item). entry x.0 ∷ t) m.same;
    }))

entries_again : NumbersAreRead → (of : ElementType) (es : List Elem) (next : Reporter) (b mid : List ℕ) → AllByRecursion (λ e. element_type e ≡ of) es → AreParts (flat_map element_parts es) mid b → entries_at of (length es) next b ≡ After (map entry es) (next mid)
unfolding entries_at
entries_again known of [] next b mid h f = rw f (after_none (next mid))
entries_again known of (e ∷ es) next b mid h f =
    let s = parts_split (element_parts e) (flat_map element_parts es) b mid f in
    let read = (element_reads known of).again b s.0 e h.0 s.1 in
    let more = entries_again known of es next s.0 mid h.1 s.2 in
    rw (read, more) (then_after (entry e) (map entry es) (next mid))

-- ---- arguments

-- an argument without the elements of its array, and the bytes after it
abbrev IsHead : ArgumentType → List ℕ → Head × List ℕ → Type 0
IsHead of b (element e, tail) = (One (element_type e) ≡ of) × AreParts (element_parts e) tail b
IsHead of b (array t None, tail) = (Vector t ≡ of) × HasValues t × AreParts (sized 4 null_count ∷ []) tail b
IsHead of b (array t (Some n), tail) = (Vector t ≡ of) × HasValues t × AreParts (sized 4 n ∷ []) tail b × (n ≢ null_count)

counted : (of : ElementType) (b : List ℕ) → HasValues of → (n : ℕ) (tail : List ℕ) → AreParts (sized 4 n ∷ []) tail b → (null : Bool) → (n == null_count) ≡ null → IsHead (Vector of) b (array of (cond null None (Some n)), tail)
counted of b has n tail f true e = (refl, has, subst (λ (m : ℕ). AreParts (sized 4 m ∷ []) tail b) (eqb-true n null_count e) f)
counted of b has n tail f false e = (refl, has, f, λ same. grind (arith, nat_tests, e, same))

head_found : NumbersAreRead → (of : ArgumentType) (b : List ℕ) → AreBytes b → IfSome (head_at of b) (IsHead of b)
unfolding head_at
head_found known (One of) b h =
    IfSome-map (Takes element_parts (HasType of) b) (IsHead (One of) b) (λ x. (element x.0, x.1)) (element_at of b) ((element_reads known of).found b h)
    (λ x took. (ap (λ (t : ElementType). One t) took.good, took.are))
head_found known (Vector of) b h =
    IfSome-cond (IsHead (Vector of) b) (has_values of) _ None
    (λ has. IfSome-map (Takes (λ n. sized 4 n ∷ []) (λ n. Any n) b) (IsHead (Vector of) b) (λ x. (array of (count_of x.0), x.1)) (sized_at 4 b) ((sized_reads 4).found b h)
    (λ x took. counted of b has x.0 x.1 took.are (x.0 == null_count) refl))
    (λ _. tt)

record TakesArgument (item : Head → Item) (of : ArgumentType) (next : Reporter) (b : List ℕ) (y : List Item × List ℕ) : Type 0 where
  a : Argument
  mid : List ℕ
  remainder : List Item
  typed : argument_type a ≡ of
  good : IsArgument a
  are : AreParts (argument_parts a) mid b
  more : next mid ≡ Some (remainder, y.1)
  same : y.0 ≡ item (head_of a) ∷ (entries_of a ++ remainder)

taken_found : NumbersAreRead → (item : Head → Item) (of : ArgumentType) (next : Reporter) (b : List ℕ) → AreBytes b → (x : Head × List ℕ) → IsHead of b x → IfSome (item_then (item x.0) (after x.0 next x.1)) (TakesArgument item of next b)
unfolding after
taken_found known item of next b h (element e, tail) is =
    IfSome-map (λ y. next tail ≡ Some y) (TakesArgument item of next b) (λ y. (item (element e) ∷ y.0, y.1)) (next tail) (self_some (next tail))
    (λ y more. record { a = one e; mid = tail; remainder = y.0; typed = is.0; good = tt; are = is.1; more = more; same = refl })
taken_found known item of next b h (array t None, tail) is =
    IfSome-map (λ y. next tail ≡ Some y) (TakesArgument item of next b) (λ y. (item (array t None) ∷ y.0, y.1)) (next tail) (self_some (next tail))
    (λ y more. record { a = vector t None; mid = tail; remainder = y.0; typed = is.0; good = (is.1, tt); are = is.2; more = more; same = refl })
taken_found known item of next b h (array t (Some n), tail) is =
    IfSome-map (TakesEntries t n next tail) (TakesArgument item of next b) (λ y. (item (array t (Some n)) ∷ y.0, y.1)) (entries_at t n next tail)
    (entries_found known t n next tail (bytes_after (sized 4 n ∷ []) b tail is.2 h))
    (λ y m. record {
      a = vector t (Some m.es);
      mid = m.mid;
      remainder = m.remainder;
      typed = is.0;
      good = (is.1, (m.typed, rw m.long is.3));
      are = rw m.long (parts_append (sized 4 n ∷ []) (flat_map element_parts m.es) b tail m.mid is.2 m.are);
      more = m.more;
      same = rw (m.long, m.same) refl;
    })

argument_found : NumbersAreRead → (item : Head → Item) (of : ArgumentType) (next : Reporter) (b : List ℕ) → AreBytes b → IfSome (argument_at item of next b) (TakesArgument item of next b)
unfolding argument_at
argument_found known item of next b h =
    IfSome-bind (IsHead of b) (TakesArgument item of next b) (λ x. item_then (item x.0) (after x.0 next x.1)) (head_at of b) (head_found known of b h) (taken_found known item of next b h)

then_items : (i : Item) (o : Option (List Item × List ℕ)) → item_then i o ≡ After (i ∷ []) o
then_items i None = refl
then_items i (Some x) = refl

argument_again : NumbersAreRead → (item : Head → Item) (a : Argument) (next : Reporter) (b mid : List ℕ) → IsArgument a → AreParts (argument_parts a) mid b → argument_at item (argument_type a) next b ≡ After (item (head_of a) ∷ entries_of a) (next mid)
unfolding argument_at head_at after
argument_again known item (one e) next b mid h f =
    let read = (element_reads known (element_type e)).again b mid e refl f in
    rw read (then_items (item (element e)) (next mid))
argument_again known item (vector of None) next b mid h f =
    let read = (sized_reads 4).again b mid null_count tt f in
    rw (h.0, read) (then_items (item (array of None)) (next mid))
argument_again known item (vector of (Some es)) next b mid h f =
    let read = (sized_reads 4).again b f.1 (length es) tt (f.0, f.1, f.2, f.3, refl) in
    let some : (length es == null_count) ≡ false = grind (arith, nat_tests, h.1.1) in
    let more = entries_again known of es next f.1 mid h.1.0 f.4 in
    rw (h.0, read, some, more) (then_after (item (array of (Some (length es)))) (map entry es) (next mid))

argument_known : (a : Argument) (b tail : List ℕ) → IsArgument a → AreParts (argument_parts a) tail b → IsKnown (argument_type a)
argument_known (one e) b tail h f = element_has_values e b tail f
argument_known (vector of es) b tail h f = h.0

-- ---- named arguments

abbrev AreNamed : List Named → Type 0
AreNamed ns = AllByRecursion (λ n. IsArgument n.value) ns

record TakesNamed (n : ℕ) (b : List ℕ) (y : List Item × List ℕ) : Type 0 where
  ns : List Named
  long : length ns ≡ n
  good : AreNamed ns
  are : AreParts (flat_map named_parts ns) y.1 b
  same : y.0 ≡ flat_map named_items ns

abbrev intro_of : Named → Intro
intro_of n = record { member = n.member; of = argument_type n.value; name = n.name }

parts_of_named : (n : Named) → intro_parts (intro_of n) ++ argument_parts n.value ≡ named_parts n
parts_of_named n = ap (λ (ps : List Part). byte (member_code n.member) ∷ ps) (append_assoc (type_parts (argument_type n.value)) (string (Some n.name) ∷ []) (argument_parts n.value))

one_named : (n : ℕ) (b : List ℕ) (x : Intro × List ℕ) (y : List Item × List ℕ) → AreParts (intro_parts x.0) x.1 b
    → (t : TakesArgument (named x.0.member x.0.name) x.0.of (named_left n) x.1 y) → TakesNamed n t.mid (t.remainder, y.1) → TakesNamed (suc n) b y
one_named n b x y f t m =
    let one : Named = record { member = x.0.member; name = x.0.name; value = t.a } in
    let intro : AreParts (intro_parts (intro_of one)) x.1 b = subst (λ (of : ArgumentType). AreParts (intro_parts (record { member = x.0.member; of = of; name = x.0.name })) x.1 b) (sym t.typed) f in
    let are : AreParts (named_parts one) t.mid b = subst (λ (ps : List Part). AreParts ps t.mid b) (parts_of_named one) (parts_append (intro_parts (intro_of one)) (argument_parts t.a) b x.1 t.mid intro t.are) in
    record {
      ns = one ∷ m.ns;
      long = ap (λ (k : ℕ). suc k) m.long;
      good = (t.good, m.good);
      are = parts_append (named_parts one) (flat_map named_parts m.ns) b t.mid y.1 are m.are;
      same = rw (t.same, m.same) refl;
    }

named_found : NumbersAreRead → (n : ℕ) (b : List ℕ) → AreBytes b → IfSome (named_left n b) (TakesNamed n b)
unfolding named_left
named_found known zero b h = record { ns = []; long = refl; good = tt; are = refl; same = refl }
named_found known (suc n) b h =
    IfSome-bind (Takes intro_parts (λ x. IsKnown x.of) b) (TakesNamed (suc n) b) (λ x. argument_at (named x.0.member x.0.name) x.0.of (named_left n) x.1) (intro_at b) ((intro_reads known).found b h)
    (λ x took.
    let after_intro = bytes_after (intro_parts x.0) b x.1 took.are h in
    weaker_some (TakesArgument (named x.0.member x.0.name) x.0.of (named_left n) x.1) (TakesNamed (suc n) b) (argument_at (named x.0.member x.0.name) x.0.of (named_left n) x.1)
    (argument_found known (named x.0.member x.0.name) x.0.of (named_left n) x.1 after_intro)
    (λ y t. one_named n b x y took.are t (subst (λ (o : Option (List Item × List ℕ)). IfSome o (TakesNamed n t.mid)) t.more (named_found known n t.mid (bytes_after (argument_parts t.a) x.1 t.mid t.are after_intro)))))

named_again : NumbersAreRead → (ns : List Named) (b tail : List ℕ) → AreNamed ns → AreParts (flat_map named_parts ns) tail b → named_left (length ns) b ≡ Some (flat_map named_items ns, tail)
unfolding named_left
named_again known [] b tail h f = rw f refl
named_again known (n ∷ ns) b tail h f =
    let s = parts_split (named_parts n) (flat_map named_parts ns) b tail f in
    let t = parts_split (intro_parts (intro_of n)) (argument_parts n.value) b s.0 (subst (λ (ps : List Part). AreParts ps s.0 b) (sym (parts_of_named n)) s.1) in
    let intro = (intro_reads known).again b t.0 (intro_of n) (argument_known n.value t.0 s.0 h.0 t.2) t.1 in
    let value = argument_again known (named n.member n.name) n.value (named_left (length ns)) t.0 s.0 h.0 t.2 in
    let more = named_again known ns s.0 tail h.1 s.2 in
    rw (intro, value, more) refl

-- ---- fixed arguments, and then the named ones

abbrev AreFixed : List Argument → Type 0
AreFixed args = AllByRecursion IsArgument args

abbrev parts_of : AttributeValue → List Part
parts_of v = flat_map argument_parts v.fixed ++ sized 2 (length v.named) ∷ flat_map named_parts v.named

pub record TakesValue (ofs : List ArgumentType) (b : List ℕ) (y : List Item × List ℕ) : Type 0 where
  pub v : AttributeValue
  pub types : map argument_type v.fixed ≡ ofs
  pub fixed : AreFixed v.fixed
  pub named : AreNamed v.named
  pub are : AreParts (parts_of v) y.1 b
  pub same : y.0 ≡ items_of v

one_fixed : (of : ArgumentType) (ofs : List ArgumentType) (b : List ℕ) (y : List Item × List ℕ)
    → (t : TakesArgument fixed of (fixed_left ofs) b y) → TakesValue ofs t.mid (t.remainder, y.1) → TakesValue (of ∷ ofs) b y
one_fixed of ofs b y t m =
    record {
      v = record { fixed = t.a ∷ m.v.fixed; named = m.v.named };
      types = rw (t.typed, m.types) refl;
      fixed = (t.good, m.fixed);
      named = m.named;
      are = rw append_assoc (parts_append (argument_parts t.a) (parts_of m.v) b t.mid y.1 t.are m.are);
      same = rw (t.same, m.same) (ap (λ (is : List Item). fixed (head_of t.a) ∷ is) (sym (append_assoc (entries_of t.a) (flat_map fixed_items m.v.fixed) (named_count (length m.v.named) ∷ flat_map named_items m.v.named))));
    }

fixed_found : NumbersAreRead → (ofs : List ArgumentType) (b : List ℕ) → AreBytes b → IfSome (fixed_left ofs b) (TakesValue ofs b)
unfolding fixed_left
fixed_found known [] b h =
    IfSome-bind (Takes (λ n. sized 2 n ∷ []) (λ n. Any n) b) (TakesValue [] b) (λ x. item_then (named_count x.0) (named_left x.0 x.1)) (sized_at 2 b) ((sized_reads 2).found b h)
    (λ x took. IfSome-map (TakesNamed x.0 x.1) (TakesValue [] b) (λ y. (named_count x.0 ∷ y.0, y.1)) (named_left x.0 x.1)
    (named_found known x.0 x.1 (bytes_after (sized 2 x.0 ∷ []) b x.1 took.are h))
    (λ y m. record {
      v = record { fixed = []; named = m.ns };
      types = refl;
      fixed = tt;
      named = m.good;
      are = rw m.long (parts_append (sized 2 x.0 ∷ []) (flat_map named_parts m.ns) b x.1 y.1 took.are m.are);
      same = rw (m.long, m.same) refl;
    }))
fixed_found known (of ∷ ofs) b h =
    weaker_some (TakesArgument fixed of (fixed_left ofs) b) (TakesValue (of ∷ ofs) b) (argument_at fixed of (fixed_left ofs) b)
    (argument_found known fixed of (fixed_left ofs) b h)
    (λ y t. one_fixed of ofs b y t (subst (λ (o : Option (List Item × List ℕ)). IfSome o (TakesValue ofs t.mid)) t.more (fixed_found known ofs t.mid (bytes_after (argument_parts t.a) b t.mid t.are h))))

fixed_again : NumbersAreRead → (args : List Argument) (ns : List Named) (b tail : List ℕ) → AreFixed args → AreNamed ns
    → AreParts (flat_map argument_parts args ++ sized 2 (length ns) ∷ flat_map named_parts ns) tail b
    → fixed_left (map argument_type args) b ≡ Some (flat_map fixed_items args ++ named_count (length ns) ∷ flat_map named_items ns, tail)
unfolding fixed_left
fixed_again known [] ns b tail h k f =
    let read = (sized_reads 2).again b f.1 (length ns) tt (f.0, f.1, f.2, f.3, refl) in
    let more = named_again known ns f.1 tail k f.4 in
    rw (read, more) refl
fixed_again known (a ∷ args) ns b tail h k f =
    let others = sized 2 (length ns) ∷ flat_map named_parts ns in
    let s = parts_split (argument_parts a) (flat_map argument_parts args ++ others) b tail (rw append_assoc at f) in
    let value = argument_again known fixed a (fixed_left (map argument_type args)) b s.0 h.0 s.1 in
    let more = fixed_again known args ns s.0 tail h.1 k s.2 in
    rw (value, more) (ap (λ (is : List Item). Some (fixed (head_of a) ∷ is, tail)) (sym (append_assoc (entries_of a) (flat_map fixed_items args) (named_count (length ns) ∷ flat_map named_items ns))))

-- ---- whole values

pub value_found : NumbersAreRead → (ofs : List ArgumentType) (b : List ℕ) → AreBytes b → IfSome (all_at ofs b) (λ y. (v : AttributeValue) × (y.1 ≡ [] → IsAttributeValue ofs v b) × (y.0 ≡ items_of v))
unfolding all_at
value_found known ofs b h =
    IfSome-bind (Takes (λ n. sized 2 n ∷ []) (λ n. Any n) b) (λ y. (v : AttributeValue) × (y.1 ≡ [] → IsAttributeValue ofs v b) × (y.0 ≡ items_of v)) (after_prolog ofs) (sized_at 2 b) ((sized_reads 2).found b h)
    (λ x took. IfSome-cond (λ y. (v : AttributeValue) × (y.1 ≡ [] → IsAttributeValue ofs v b) × (y.0 ≡ items_of v)) (x.0 == 1) (fixed_left ofs x.1) None
    (λ prolog. weaker_some (TakesValue ofs x.1) _ (fixed_left ofs x.1) (fixed_found known ofs x.1 (bytes_after (sized 2 x.0 ∷ []) b x.1 took.are h))
    (λ y t.
    let begins = subst (λ (n : ℕ). AreParts (sized 2 n ∷ []) x.1 b) (eqb-true x.0 1 prolog) took.are in (
      t.v,
      λ ends. record {
        types = t.types;
        fixed = t.fixed;
        named = t.named;
        parts = subst (λ (tail : List ℕ). AreParts (value_parts t.v) tail b) ends (parts_append (sized 2 1 ∷ []) (parts_of t.v) b x.1 y.1 begins t.are);
      },
      t.same,
    )))
    (λ _. tt))

pub value_again : NumbersAreRead → (ofs : List ArgumentType) (v : AttributeValue) (b : List ℕ) → IsAttributeValue ofs v b → all_at ofs b ≡ Some (items_of v, [])
unfolding all_at
value_again known ofs v b is =
    let f = is.parts in
    let read = (sized_reads 2).again b f.1 1 tt (f.0, f.1, f.2, f.3, refl) in
    let more = fixed_again known v.fixed v.named f.1 [] is.fixed is.named f.4 in
    rw (read, sym is.types) more
