-- If bytes are skipped to their end, they encode a signature, and its first bad token was kept.
use Rattle.sig_recogniser.proofs.Prelude.{◌≡◌, ℕ, ◌<◌, ◌^◌, Bool, true, false, eqb, Option, Some, None, is_some, IfSome, List, [], ◌∷◌, length, get_or, refl, sym, ap, ◌∙◌, Token, SigKind, Body, body_parts, Encodes, tokens, first_bad, core_at, body_at, Left, passed, skip_core, skip_body}
use Rattle.std.proofs.Math.Dec.{eqb-suc-zero}
use Rattle.sig_recogniser.proofs.Passes.{core_passes, body_passes}

-- the result of skipping a whole signature at the start of the bytes
abbrev pub skip_all : List ℕ → SigKind → List ℕ → Option Left
skip_all counts kind b = skip_body counts kind (skip_core counts 128) (b, None)

skipped_is : (counts : List ℕ) (kind : SigKind) (b : List ℕ) → skip_all counts kind b ≡ passed counts None body_parts (body_at kind (core_at 128) b)
skipped_is counts kind b = body_passes counts (skip_core counts 128) (core_at 128) (core_passes counts 128) kind b None

-- what bytes encode is read from them
abbrev pub IsRead : Type 0
IsRead = (kind : SigKind) (signature : Body) (bytes : List ℕ) → Encodes kind signature bytes → body_at kind (core_at 128) bytes ≡ Some (signature, [])

-- bytes that are read to their end encode what is read
abbrev pub IsEncoded : Type 0
IsEncoded =
    (kind : SigKind) (signature : Body) (bytes : List ℕ) → ((k : ℕ) → get_or bytes k 0 < 2 ^ 8) → length bytes < 2 ^ 29 → body_at kind (core_at 128) bytes ≡ Some (signature, []) → Encodes kind signature bytes

-- the bytes encode a signature, and this is its first type index whose row does not exist
abbrev pub IsFirstBad : List ℕ → SigKind → List ℕ → Option Token → Type 0
IsFirstBad counts kind bytes bad = (signature : Body) × Encodes kind signature bytes × (bad ≡ first_bad counts (tokens signature))

-- ---- bytes that are skipped to their end

pub encoded_skipped : IsRead → (counts : List ℕ) (kind : SigKind) (b : List ℕ) (signature : Body) → Encodes kind signature b → skip_all counts kind b ≡ Some ([], first_bad counts (tokens signature))
encoded_skipped read counts kind b signature h =
    skipped_is counts kind b ∙ ap (λ (o : Option (Body × List ℕ)). passed counts None body_parts o) (read kind signature b h)

pub skipped_encoded : IsEncoded → (counts : List ℕ) (kind : SigKind) (b : List ℕ) (bad : Option Token) → ((k : ℕ) → get_or b k 0 < 2 ^ 8) → length b < 2 ^ 29 → Some ([], bad) ≡ skip_all counts kind b → IsFirstBad counts kind b bad
skipped_encoded encoded counts kind b bad each limit e = of_option (body_at kind (core_at 128) b) refl (sym (skipped_is counts kind b) ∙ sym e)
  where
    of_option : (o : Option (Body × List ℕ)) → body_at kind (core_at 128) b ≡ o → passed counts None body_parts o ≡ Some ([], bad) → IsFirstBad counts kind b bad
    of_option None w h = absurd cc
    of_option (Some x) w h =
        let pair : (x.1, first_bad counts (tokens x.0)) ≡ ([], bad) = cc in
        let same : x.1 ≡ [] = ap (λ (p : List ℕ × Option Token). p.0) pair in
        let found : first_bad counts (tokens x.0) ≡ bad = ap (λ (p : List ℕ × Option Token). p.1) pair in
        (x.0, encoded kind x.0 b each limit (w ∙ ap (λ (t : List ℕ). Some (x.0, t)) same), sym found)

is_end : (tail : List ℕ) → eqb (length tail) 0 ≡ true → tail ≡ []
is_end [] e = refl
is_end (c ∷ tail) e = absurd (let f = eqb-suc-zero (length tail) in cc)

pub walked : IsEncoded → (counts : List ℕ) (kind : SigKind) (b tail : List ℕ) (bad : Option Token) → ((k : ℕ) → get_or b k 0 < 2 ^ 8) → length b < 2 ^ 29 → Some (tail, bad) ≡ skip_all counts kind b → eqb (length tail) 0 ≡ true → IsFirstBad counts kind b bad
walked encoded counts kind b tail bad each limit e empty =
    skipped_encoded encoded counts kind b bad each limit (ap (λ (t : List ℕ). Some (t, bad)) (sym (is_end tail empty)) ∙ e)

-- the remainder after a signature that is encoded
left_behind : IsRead → (counts : List ℕ) (kind : SigKind) (b tail : List ℕ) (bad : Option Token) (signature : Body) → Encodes kind signature b → Some (tail, bad) ≡ skip_all counts kind b → ◌≡◌ {A = Left} (tail, bad) ([], first_bad counts (tokens signature))
left_behind read counts kind b tail bad signature encodes e = let f = e ∙ encoded_skipped read counts kind b signature encodes in cc

pub walked_only : IsRead → (counts : List ℕ) (kind : SigKind) (b tail : List ℕ) (bad : Option Token) → Some (tail, bad) ≡ skip_all counts kind b → (signature : Body) → Encodes kind signature b → Some bad ≡ Some (first_bad counts (tokens signature))
walked_only read counts kind b tail bad e signature encodes =
    ap (λ (q : List ℕ × Option Token). Some q.1) (left_behind read counts kind b tail bad signature encodes e)

pub not_at_end : IsRead → (counts : List ℕ) (kind : SigKind) (b tail : List ℕ) (bad : Option Token) → Some (tail, bad) ≡ skip_all counts kind b → eqb (length tail) 0 ≡ false → (signature : Body) → Encodes kind signature b → ⊥
not_at_end read counts kind b tail bad e some signature encodes =
    let none : tail ≡ [] = ap (λ (q : List ℕ × Option Token). q.0) (left_behind read counts kind b tail bad signature encodes e) in
    let f = ap (λ (t : List ℕ). eqb (length t) 0) none in
    cc

pub refused : IsRead → (counts : List ℕ) (kind : SigKind) (b : List ℕ) → None ≡ skip_all counts kind b → (signature : Body) → Encodes kind signature b → ⊥
refused read counts kind b e signature encodes = let f = e ∙ encoded_skipped read counts kind b signature encodes in cc

-- ---- recognition, for any rows

pub recognised : (kind : SigKind) (b : List ℕ) (f : Body → Option Token) (r : Option (Option Token)) (p : Bool) → p ≡ is_some r → IfSome r (λ bad. (signature : Body) × Encodes kind signature b × (bad ≡ f signature)) → ((signature : Body) → Encodes kind signature b → r ≡ Some (f signature)) → (p ≡ true → (signature : Body) × Encodes kind signature b) × (((signature : Body) × Encodes kind signature b) → p ≡ true)
recognised kind b f None p e found only = (λ h. absurd cc, λ s. absurd (let f = only s.0 s.1 in cc))
recognised kind b f (Some bad) p e found only = (λ h. (found.0, found.1), λ s. e)
