-- An index into a heap refers to at most one entry.
use Rattle.heap_entries.proofs.Prelude.{◌≡◌, ℕ, List, ◌∷◌, ◌++◌, length, take, drop, get_or, Option, Some, None, inl, inr, refl, sym, ap, ◌∙◌, arith, take_at, IsCounted, IsText, IsBlob, IsGuid, IsUserString, UserText, user_text}
use Rattle.packed.specs.Packed.{IsPacked}
use Rattle.heap_entries.proofs.TextLemmas.{text_same}
use Rattle.heap_entries.proofs.BlobLemmas.{blob_counted, counted_behind}
use Rattle.heap_entries.proofs.GuidLemmas.{guid_is}
use Rattle.heap_entries.proofs.UserLemmas.{encodes_only}

-- bytes begin with at most one packed number
packed_one : (m n : ℕ) (a b x y : List ℕ) → IsPacked m a → IsPacked n b → a ++ x ≡ b ++ y → (m ≡ n) × (x ≡ y)
packed_one m n a b x y (inl p) (inl q) e =
    let same : m ∷ x ≡ n ∷ y = ap (λ (l : List ℕ). l ++ x) (sym p.1) ∙ e ∙ ap (λ (l : List ℕ). l ++ y) q.1 in
    (ap (λ l. get_or l 0 0) same, ap (drop 1) same)
packed_one m n a b x y (inl p) (inr (inl q)) e =
    let same = ap (λ (l : List ℕ). get_or l 0 0) (ap (λ (l : List ℕ). l ++ x) (sym p.1) ∙ e ∙ ap (λ (l : List ℕ). l ++ y) q.1) in
    absurd (omega (arith, p.0, same))
packed_one m n a b x y (inl p) (inr (inr q)) e =
    let same = ap (λ (l : List ℕ). get_or l 0 0) (ap (λ (l : List ℕ). l ++ x) (sym p.1) ∙ e ∙ ap (λ (l : List ℕ). l ++ y) q.1) in
    absurd (omega (arith, p.0, same))
packed_one m n a b x y (inr (inl p)) (inl q) e =
    let same = ap (λ (l : List ℕ). get_or l 0 0) (ap (λ (l : List ℕ). l ++ x) (sym p.1) ∙ e ∙ ap (λ (l : List ℕ). l ++ y) q.1) in
    absurd (omega (arith, q.0, same))
packed_one m n a b x y (inr (inl p)) (inr (inl q)) e =
    let same = ap (λ (l : List ℕ). l ++ x) (sym p.1) ∙ e ∙ ap (λ (l : List ℕ). l ++ y) q.1 in
    let first = ap (λ (l : List ℕ). get_or l 0 0) same in
    let second = ap (λ (l : List ℕ). get_or l 1 0) same in
    (omega (arith, first, second), ap (drop 2) same)
packed_one m n a b x y (inr (inl p)) (inr (inr q)) e =
    let same = ap (λ (l : List ℕ). get_or l 0 0) (ap (λ (l : List ℕ). l ++ x) (sym p.1) ∙ e ∙ ap (λ (l : List ℕ). l ++ y) q.1) in
    absurd (omega (arith, p.0, same))
packed_one m n a b x y (inr (inr p)) (inl q) e =
    let same = ap (λ (l : List ℕ). get_or l 0 0) (ap (λ (l : List ℕ). l ++ x) (sym p.1) ∙ e ∙ ap (λ (l : List ℕ). l ++ y) q.1) in
    absurd (omega (arith, q.0, same))
packed_one m n a b x y (inr (inr p)) (inr (inl q)) e =
    let same = ap (λ (l : List ℕ). get_or l 0 0) (ap (λ (l : List ℕ). l ++ x) (sym p.1) ∙ e ∙ ap (λ (l : List ℕ). l ++ y) q.1) in
    absurd (omega (arith, q.0, same))
packed_one m n a b x y (inr (inr p)) (inr (inr q)) e =
    let same = ap (λ (l : List ℕ). l ++ x) (sym p.1) ∙ e ∙ ap (λ (l : List ℕ). l ++ y) q.1 in
    let first = ap (λ (l : List ℕ). get_or l 0 0) same in
    let second = ap (λ (l : List ℕ). get_or l 1 0) same in
    let third = ap (λ (l : List ℕ). get_or l 2 0) same in
    let fourth = ap (λ (l : List ℕ). get_or l 3 0) same in
    (omega (arith, first, second, third, fourth), ap (drop 4) same)

-- an index has at most one sequence of bytes after its packed length
counted_one : (heap : List ℕ) (index : ℕ) (a b : List ℕ) → IsCounted heap index a → IsCounted heap index b → a ≡ b
counted_one heap index a b x y =
    let behind = sym (counted_behind heap index a x) ∙ counted_behind heap index b y in
    let same = packed_one (length a) (length b) x.count y.count (a ++ x.after) (b ++ y.after) x.counts y.counts behind in
    sym (take_at a x.after (length a) refl) ∙ ap (take (length a)) same.1 ∙ take_at b y.after (length a) (sym same.0)

pub text_one : (heap : List ℕ) (index : ℕ) (a b : List ℕ) → IsText heap index a → IsText heap index b → a ≡ b
text_one heap index a b (inl x) (inl y) = x.1 ∙ sym y.1
text_one heap index a b (inl x) (inr y) = absurd (omega (arith, x.0, y.0))
text_one heap index a b (inr x) y = (text_same heap index a b x.0 x.1 y).0

pub blob_one : (heap : List ℕ) (index : ℕ) (a b : List ℕ) → IsBlob heap index a → IsBlob heap index b → a ≡ b
blob_one heap index a b (inl x) (inl y) = x.1 ∙ sym y.1
blob_one heap index a b (inl x) (inr y) = absurd (omega (arith, x.0, y.0))
blob_one heap index a b (inr x) y = counted_one heap index a b x.1 (blob_counted heap index b x.0 y)

pub user_one : (heap : List ℕ) (index : ℕ) (a b : UserText) → IsUserString heap index a → IsUserString heap index b → a ≡ b
user_one heap index a b x y = sym (encodes_only x.blob a x.encodes) ∙ ap user_text (blob_one heap index x.blob y.blob x.stands y.stands) ∙ encodes_only y.blob b y.encodes

pub guid_one : (heap : List ℕ) (index : ℕ) (a b : Option (List ℕ)) → IsGuid heap index a → IsGuid heap index b → a ≡ b
guid_one heap index None None x y = refl
guid_one heap index None (Some b) x y = absurd (omega (arith, x, y.0))
guid_one heap index (Some a) None x y = absurd (omega (arith, x.0, y))
guid_one heap index (Some a) (Some b) x y = ap Some (sym (guid_is heap index _ a refl x.1) ∙ guid_is heap index _ b refl y.1)
