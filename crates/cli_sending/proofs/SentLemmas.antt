-- What goes out to a writer, one part after another.
use Rattle.std.proofs.Common.{◌≡◌, ◌∙◌, ℕ, List, [], ◌++◌, Option, Result, Ok, Err, refl, ap, sym, subst, append_assoc, append-nil}
use Rattle.std.proofs.KnownBytes.{Appends-kept, Appends-nil, Appends-trans}
use Rattle.std.specs.Prelude.{IsOk, ◌↔◌}
use Rattle.std.specs.Io.KnownBytes.{Appends, Keeps}
use Rattle.cli_sending.specs.Sent.{Sends, SendsPrefix, Sent}

pub sends_nothing : (known : Option (List ℕ)) (bytes : List ℕ) → Sends known known bytes bytes
sends_nothing known bytes = ([], refl, Appends-nil known)

pub sends_more : (before between after : Option (List ℕ)) (bytes left more tail : List ℕ) → Sends before between bytes left → Sends between after (left ++ more) tail
    → Sends before after (bytes ++ more) tail
sends_more before between after bytes left more tail first second = (
  first.0 ++ second.0,
  ap (λ xs. xs ++ more) first.1 ∙ append_assoc first.0 left more ∙ ap (λ xs. first.0 ++ xs) second.1 ∙ sym (append_assoc first.0 second.0 tail),
  Appends-trans before between after first.0 second.0 first.2 second.2,
)

pub prefix_longer : (before after : Option (List ℕ)) (bytes more : List ℕ) → SendsPrefix before after bytes → SendsPrefix before after (bytes ++ more)
prefix_longer before after bytes more cut =
    (cut.0 ++ more, (cut.1.0, ap (λ xs. xs ++ more) cut.1.1 ∙ append_assoc cut.1.0 cut.0 more, cut.1.2))

pub prefix_more : (before between after : Option (List ℕ)) (bytes left more : List ℕ) → Sends before between bytes left → SendsPrefix between after (left ++ more)
    → SendsPrefix before after (bytes ++ more)
prefix_more before between after bytes left more first second = (second.0, sends_more before between after bytes left more second.0 first second.1)

-- nothing went out
pub prefix_of_nothing : (known : Option (List ℕ)) (bytes : List ℕ) → SendsPrefix known known bytes
prefix_of_nothing known bytes = (bytes, sends_nothing known bytes)

-- all that was left is nothing
pub all_sent : (before after : Option (List ℕ)) (bytes left : List ℕ) → Sends before after bytes left → left ≡ [] → Appends before after bytes
all_sent before after bytes left sends none =
    let same : bytes ≡ sends.0 = sends.1 ∙ ap (λ xs. sends.0 ++ xs) none ∙ append-nil sends.0 in
    subst (λ (xs : List ℕ). Appends before after xs) (sym same) sends.2

-- what is left is sent last
pub tail_sent : (before between after : Option (List ℕ)) (bytes left : List ℕ) → Sends before between bytes left → Appends between after left → Appends before after bytes
tail_sent before between after bytes left first last =
    subst (λ (xs : List ℕ). Appends before after xs) (sym first.1) (Appends-trans before between after first.0 left first.2 last)

-- some of what is left is sent
pub some_sent : (before between after : Option (List ℕ)) (bytes left some tail : List ℕ) → Sends before between bytes left → Appends between after some → left ≡ some ++ tail
    → Sends before after bytes tail
some_sent before between after bytes left some tail first more whole =
    (first.0 ++ some, first.1 ∙ ap (λ xs. first.0 ++ xs) whole ∙ sym (append_assoc first.0 some tail), Appends-trans before between after first.0 some first.2 more)

-- a prefix of what is left is sent last
pub tail_cut : (before between after : Option (List ℕ)) (bytes left : List ℕ) → Sends before between bytes left → SendsPrefix between after left → SendsPrefix before after bytes
tail_cut before between after bytes left first cut = (cut.0, some_sent before between after bytes left cut.1.0 cut.0 first cut.1.2 cut.1.1)

-- nothing more is sent
pub cut_here : (before between after : Option (List ℕ)) (bytes left : List ℕ) → Sends before between bytes left → Keeps between after → SendsPrefix before after bytes
cut_here before between after bytes left first kept = (left, (first.0, first.1, Appends-kept before between after first.0 first.2 kept))

module _ {T E : Type 0} where
  pub tail_printed : (result : Result T E) (before between after : Option (List ℕ)) (bytes left : List ℕ) → Sends before between bytes left
      → Sent between after result left → Sent before after result bytes
  tail_printed (Ok done) before between after bytes left first last = tail_sent before between after bytes left first last
  tail_printed (Err error) before between after bytes left first last = tail_cut before between after bytes left first last

  -- a flush changes nothing of what went out
  pub flushed : (result : Result T E) (before between after : Option (List ℕ)) (bytes : List ℕ) → Appends before between bytes → Keeps between after
      → Sent before after result bytes
  flushed (Ok done) before between after bytes first kept = Appends-kept before between after bytes first kept
  flushed (Err error) before between after bytes first kept = ([], (bytes, sym (append-nil bytes), Appends-kept before between after bytes first kept))

-- another result that is `Ok` if and only if the first one is
pub same_printed : {T E F : Type 0} (first : Result T E) (second : Result T F) (before after : Option (List ℕ)) (text : List ℕ) → IsOk second ↔ IsOk first
    → Sent before after first text → Sent before after second text
same_printed (Ok done) (Ok more) before after text same printed = printed
same_printed (Ok done) (Err error) before after text same printed = let no = same.1 refl in cc
same_printed (Err error) (Ok more) before after text same printed = let no = same.0 refl in cc
same_printed (Err error) (Err other) before after text same printed = printed

-- nothing was to be sent
pub nothing_sent : {T E : Type 0} (result : Result T E) (before after : Option (List ℕ)) (text : List ℕ) → Sent before after result [] → SendsPrefix before after text
nothing_sent (Ok done) before after text sent = (text, ([], refl, sent))
nothing_sent (Err error) before after text cut = prefix_longer before after [] text cut
