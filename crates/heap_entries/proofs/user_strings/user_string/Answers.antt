use Rattle.heap_entries.proofs.Prelude.{inl, inr, refl, sym, true≢false, subst, EncodesUserText, user_text}
use Rattle.std.proofs.lemmas.Result.{err_from_is_err_and}
use Rattle.heap_entries.proofs.UserLemmas.{encodes_from, encodes_only, encodes_odd, blob_bytes}
use Rattle.heap_entries.proofs.user_strings.user_string.Goals as goal

pub returns-in_err-blob-clause-complete : goal.returns-in_err-blob-clause-complete
returns-in_err-blob-clause-complete c =
    let p = err_from_is_err_and c.from_residual.result c.from_residual.ensures.1 in
    rw p.1 (λ string is. c.in_err-blob.ensures.complete is.blob is.stands)

pub returns-in_err-blob-clause-reports : goal.returns-in_err-blob-clause-reports
returns-in_err-blob-clause-reports c =
    let p = err_from_is_err_and c.from_residual.result c.from_residual.ensures.1 in
    rw (p.1, p.2) (λ offset. elim (c.in_err-blob.ensures.reports offset) [ inl fails ↦ inl fails | inr later ↦ absurd later.1 ])

pub returns-then-not-is_encoded-clause-complete : goal.returns-then-not-is_encoded-clause-complete
returns-then-not-is_encoded-clause-complete c = λ string is.
    let same = c.in_ok-blob.ensures.complete is.blob is.stands in
    true≢false (sym (c.if-not-is_encoded.ensures.1 (encodes_odd c.in_ok-blob.blob.now string (subst (λ b. EncodesUserText b string) (sym same) is.encodes))))

pub returns-then-not-is_encoded-clause-reports : goal.returns-then-not-is_encoded-clause-reports
returns-then-not-is_encoded-clause-reports c = λ offset. inr (
  (c.in_ok-blob.blob.now, c.in_ok-blob.ensures.sound),
  inl (
    λ some.
        let same = c.in_ok-blob.ensures.complete some.1.blob some.1.stands in
        true≢false (sym (c.if-not-is_encoded.ensures.1 (encodes_odd c.in_ok-blob.blob.now some.0 (subst (λ b. EncodesUserText b some.0) (sym same) some.1.encodes)))),
    refl,
  ),
)

pub returns-clause-sound : goal.returns-clause-sound
returns-clause-sound c = record {
  blob = c.in_ok-blob.blob.now;
  stands = c.in_ok-blob.ensures.sound;
  encodes = encodes_from c.in_ok-blob.blob.now (blob_bytes c.args.heap.now c.args.index c.in_ok-blob.blob.now c.in_ok-blob.ensures.sound (λ i. (c.type_inv.heap i).fits)) (c.if-not-is_encoded.ensures.0 refl);
}

pub returns-clause-complete : goal.returns-clause-complete
returns-clause-complete c = λ string is.
    let same = c.in_ok-blob.ensures.complete is.blob is.stands in
    encodes_only c.in_ok-blob.blob.now string (subst (λ b. EncodesUserText b string) (sym same) is.encodes)

pub returns-clause-reports : goal.returns-clause-reports
returns-clause-reports c = λ offset. (
  (c.in_ok-blob.blob.now, c.in_ok-blob.ensures.sound),
  (
    (
      user_text c.in_ok-blob.blob.now,
      record {
        blob = c.in_ok-blob.blob.now;
        stands = c.in_ok-blob.ensures.sound;
        encodes = encodes_from c.in_ok-blob.blob.now (blob_bytes c.args.heap.now c.args.index c.in_ok-blob.blob.now c.in_ok-blob.ensures.sound (λ i. (c.type_inv.heap i).fits)) (c.if-not-is_encoded.ensures.0 refl);
      },
    ),
    tt,
  ),
)
