-- Pieces after other pieces.
use Rattle.sig_text.proofs.Prelude.{◌≡◌, ◌∙◌, ℕ, Bool, true, false, if◌then◌else◌, Option, Some, None, is_some, List, [], ◌∷◌, ◌++◌, refl, ap, subst, Piece, flag_text, Shown}
use Rattle.sig_text.specs.Receives.{Receives, nothing, refused, taken}
use Rattle.sig_text.specs.Refused.{refused_after}
use Rattle.sig_text.specs.Wrote.{Wrote, Passes}

joined : {S : Type 0} {gives : S → Piece → Bool → S → Type 0} {s t u : S} {ps qs : List Piece} {all : Bool} → Receives gives s ps true t → Receives gives t qs all u → Receives gives s (ps ++ qs) all u
joined nothing more = more
joined (taken call tail) more = taken call (joined tail more)

stopped : {S : Type 0} {gives : S → Piece → Bool → S → Type 0} {s t : S} {ps : List Piece} (qs : List Piece) → Receives gives s ps false t → Receives gives s (ps ++ qs) false t
stopped qs (refused call) = refused call
stopped qs (taken call tail) = taken call (stopped qs tail)

-- what is left of a loop: whoever writes it has written all since the first state
pub record Left {S : Type 0} (was : S → Bool) (gives : S → Piece → Bool → S → Type 0) (first : S) (before : Bool) (whole : Shown) (now : S) (mid : Bool) (left : Shown) : Type 0 where
  pub goes : (new : S) (after : Bool) (end : List ℕ) → Passes was gives now mid left new after end → Passes was gives first before whole new after end

module _ {S : Type 0} {was : S → Bool} {gives : S → Piece → Bool → S → Type 0} where
  -- after a word was refused, nothing is written
  pub shut : {s : S} {before : Bool} (ps : List Piece) → before ≡ false → Wrote was gives s before ps s before
  shut ps e = record { received = λ f. absurd cc; kept = λ f. (refl, e) }

  pub silent : {s : S} {before : Bool} → Wrote was gives s before [] s before
  silent {before = true} = record { received = λ e. (nothing, refl); kept = λ e. (refl, e) }
  silent {before = false} = record { received = λ e. absurd cc; kept = λ e. (refl, e) }

  pub unset : {s : S} {before : Bool} (set : Bool) (text : List ℕ) → set ≡ false → Wrote was gives s before (flag_text set text) s before
  unset set text e = rw e silent

  pub one : {A : Type 0} {s t : S} {before after : Bool} {p : Piece} (r : Option A) → before ≡ true → after ≡ is_some r → gives s p (is_some r) t → was t ≡ refused_after r (was s) → Wrote was gives s before (p ∷ []) t after
  one None e f call new = record { received = λ h. (rw f (refused call), rw f new); kept = λ h. absurd cc }
  one (Some x) e f call new = record { received = λ h. (rw f (taken call nothing), rw f new); kept = λ h. absurd cc }

  pub and_then : {s t u : S} {before mid after : Bool} {ps qs : List Piece} → Wrote was gives s before ps t mid → Wrote was gives t mid qs u after → Wrote was gives s before (ps ++ qs) u after
  and_then {mid = true} {after = after} first more = record {
    received = λ e. let x = first.received e in let y = more.received refl in (joined x.0 y.0, y.1 ∙ ap (λ (b : Bool). if after then b else true) x.1);
    kept = λ e. let x = first.kept e in absurd cc;
  }
  and_then {mid = false} {qs = qs} first more = record {
    received = λ e. let x = first.received e in let y = more.kept refl in rw (y.1, y.0) (stopped qs x.0, x.1);
    kept = λ e. let x = first.kept e in let y = more.kept refl in (y.0 ∙ x.0, y.1);
  }

  taken_before : {s t : S} {before after : Bool} {ps : List Piece} → Wrote was gives s before ps t after → after ≡ true → before ≡ true
  taken_before {before = true} w all = refl
  taken_before {before = false} w all = let none = (w.kept refl).1 in absurd cc

  -- ---- pieces, and the bytes after them

  pub pieces_only : {s t : S} {before after : Bool} {ps : List Piece} {end : List ℕ} → Wrote was gives s before ps t after → Passes was gives s before (ps, end) t after end
  pieces_only w = record { wrote = w; tail = λ _. refl }

  pub pieces_first : {s t u : S} {before mid after : Bool} {ps : List Piece} {shown : Shown} {end : List ℕ} → Wrote was gives s before ps t mid → Passes was gives t mid shown u after end → Passes was gives s before (ps ++ shown.0, shown.1) u after end
  pieces_first w p = record { wrote = and_then w p.wrote; tail = p.tail }

  pub pieces_last : {s t u : S} {before mid after : Bool} {ps : List Piece} {shown : Shown} {end : List ℕ} → Passes was gives s before shown t mid end → Wrote was gives t mid ps u after → Passes was gives s before (shown.0 ++ ps, shown.1) u after end
  pieces_last p w = record { wrote = and_then p.wrote w; tail = λ all. p.tail (taken_before w all) }

  -- what follows is read from the bytes after the pieces
  pub read_on : {s t u : S} {before mid after : Bool} {shown : Shown} {end : List ℕ} (more : List ℕ → List Piece) → Passes was gives s before shown t mid end → Wrote was gives t mid (more end) u after → Wrote was gives t mid (more shown.1) u after
  read_on {t = t} {u = u} {mid = true} {after = after} more p w = subst (λ (b : List ℕ). Wrote was gives t true (more b) u after) (p.tail refl) w
  read_on {mid = false} more p w = record { received = λ e. absurd cc; kept = w.kept }

  pub pass_on : {s t u : S} {before mid after : Bool} {shown : Shown} {end last : List ℕ} (more : List ℕ → Shown) → Passes was gives s before shown t mid end → Passes was gives t mid (more end) u after last → Passes was gives t mid (more shown.1) u after last
  pass_on {t = t} {u = u} {mid = true} {after = after} {last = last} more p q = subst (λ (b : List ℕ). Passes was gives t true (more b) u after last) (p.tail refl) q
  pass_on {mid = false} more p q = record {
    wrote = record { received = λ e. absurd cc; kept = q.wrote.kept };
    tail = λ all. let none = (q.wrote.kept refl).1 in absurd cc;
  }

  pub in_turn : {s t u : S} {before mid after : Bool} {shown : Shown} {end last : List ℕ} (more : List ℕ → Shown) → Passes was gives s before shown t mid end → Passes was gives t mid (more end) u after last → Passes was gives s before (shown.0 ++ (more shown.1).0, (more shown.1).1) u after last
  in_turn more p q = pieces_first p.wrote (pass_on more p q)

  pub start_left : {s : S} {before : Bool} {whole left : Shown} → left ≡ whole → Left was gives s before whole s before left
  start_left e = record { goes = λ new after end h. rw (← e) h }

  pub end_left : {s t : S} {before after : Bool} {whole left : Shown} {end : List ℕ} → left ≡ ([], end) → Left was gives s before whole t after left → Passes was gives s before whole t after end
  end_left {t = t} {after = after} {end = end} e l = l.goes t after end (rw e (pieces_only silent))

  -- after a word was refused, the loop may end
  pub shut_left : {s t : S} {before after : Bool} {whole left : Shown} (end : List ℕ) → after ≡ false → Left was gives s before whole t after left → Passes was gives s before whole t after end
  shut_left {t = t} {after = after} {left = left} end e l = l.goes t after end (record { wrote = shut left.0 e; tail = λ all. absurd cc })

  -- what a public call ensures
  pub ended : {A : Type 0} {s t : S} {after : Bool} {ps : List Piece} (r : Option A) → is_some r ≡ after → Wrote was gives s true ps t after → Receives gives s ps (is_some r) t × (was t ≡ refused_after r (was s))
  ended None e w = let x = w.received refl in rw (← e) at x
  ended (Some y) e w = let x = w.received refl in rw (← e) at x
