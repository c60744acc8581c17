use Rattle.checks.proofs.Prelude.{◌≡◌, ℕ, ◌+◌, ◌-◌, List, length, Ok, sym, ap, ◌∙◌, subst, inl, inr, arith, number_of, rules_of_encoding, Takes, IsEncoded, no_slots, blob_length, Walk, number_after, none_fails}
use Rattle.table_schema.specs.declared.column.ColumnKind.TheVariants as kind
use Rattle.checks.proofs.Encodings.{no_signature}
use Rattle.checks.proofs.PassedLemmas.{one_more}
use Rattle.checks.proofs.Spending.{takes_none}
use Rattle.checks.proofs.Sums.{blob_is}
use Rattle.checks.proofs.Walks.{walk_none, row_spared, row_walked, row_refused}
use Rattle.checks.proofs.signature_checks.first_not_encoded.Goals as goal

pub loop-row-init : goal.loop-row-init
loop-row-init c =
    let source = c.args.source.now.source in
    let number = number_after source c.args.table c.args.column in
    let none = walk_none (length source.blobs) (blob_length source.blobs) number in
    record {
      before = λ row low high. absurd (omega arith);
      kept = λ number keeps. absurd (c.none-accepted.ensures.none number keeps);
      walk = (
        c.none-accepted.ensures.value ∙ ap (λ (l : List ℕ). no_slots (length l)) c.blobs-heap.ensures ∙ sym (ap (λ (w : Walk). w.slots) none),
        rw none (takes_none c.args.budget.now),
      );
    }

pub loop-row-preserved-in_default : goal.loop-row-preserved-in_default
loop-row-preserved-in_default c =
    let source = c.args.source.now.source in
    let row = c.loop-row.row in
    let number = number_after source c.args.table c.args.column in
    let again : row - 1 + 1 ≡ row = omega arith in
    let is : c.number-number.result ≡ number_of source c.args.table row c.args.column = c.number-number.ensures ∙ c.column-numbers.ensures.numbers row (omega arith) (omega arith) in
    let P : ℕ → Type 0 = λ number. IsEncoded source (kind.Signature c.args.encoded) number (Ok tt) in
    let here : P c.number-number.result = c.loop-row.invariant.kept c.number-number.result c.in_default.ensures.kept in
    record {
      before = one_more P (λ row. number_of source c.args.table row c.args.column) row c.number-number.result c.loop-row.invariant.before is here;
      kept = c.loop-row.invariant.kept;
      walk = row_spared (length source.blobs) (blob_length source.blobs) number row c.loop-row.auto.row c.args.budget.now c.loop-row.budget c.loop-row.accepted
          c.number-number.result c.loop-row.invariant.walk.0 c.loop-row.invariant.walk.1 (rw again is) c.in_default.ensures.kept;
    }

pub loop-row-preserved : goal.loop-row-preserved
loop-row-preserved c =
    let source = c.args.source.now.source in
    let row = c.loop-row.row in
    let number = number_after source c.args.table c.args.column in
    let again : row - 1 + 1 ≡ row = omega arith in
    let is : c.number-number.result ≡ number_of source c.args.table row c.args.column = c.number-number.ensures ∙ c.column-numbers.ensures.numbers row (omega arith) (omega arith) in
    let found = rw c.blobs-heap.ensures at c.in-Ok.ensures.sound in
    let P : ℕ → Type 0 = λ number. IsEncoded source (kind.Signature c.args.encoded) number (Ok tt) in
    let here : P c.number-number.result = c.in-Ok-check_blob.ensures c.number-number.result found in
    let walk = row_walked (length source.blobs) (blob_length source.blobs) number row c.loop-row.auto.row c.args.budget.now c.loop-row.budget c.loop-row.accepted
    c.number-number.result c.loop-row.invariant.walk.0 c.loop-row.invariant.walk.1 (rw again is)
    c.spend.new.self (length c.in-Ok.blob.now) c.in-Some.ensures.new
    (sym (blob_is c.numbers_are_read.ensures.unsigned_only source.blobs c.number-number.result c.in-Ok.blob.now found)) c.in_ok-spend.ensures.takes in
    record {
      before = one_more P (λ row. number_of source c.args.table row c.args.column) row c.number-number.result c.loop-row.invariant.before is here;
      kept = λ other keeps. elim (c.keep.ensures.nothing_else other keeps) [
        | inl same ↦ subst P (sym same) here
        | inr before ↦ c.loop-row.invariant.kept other before
      ];
      walk = (c.keep.ensures.value ∙ walk.0, walk.1);
    }

pub returns-in_default-blob-clause-walked : goal.returns-in_default-blob-clause-walked
returns-in_default-blob-clause-walked c = (c.loop-row.row - 1, omega arith, omega arith, omega arith, c.loop-row.invariant.walk.1)

pub returns-in_err-spend-clause-spent : goal.returns-in_err-spend-clause-spent
returns-in_err-spend-clause-spent c =
    let source = c.args.source.now.source in
    let row = c.loop-row.row in
    let number = number_after source c.args.table c.args.column in
    let again : row - 1 + 1 ≡ row = omega arith in
    let is : c.number-number.result ≡ number_of source c.args.table row c.args.column = c.number-number.ensures ∙ c.column-numbers.ensures.numbers row (omega arith) (omega arith) in
    let found = rw c.blobs-heap.ensures at c.in-Ok.ensures.sound in
    rw c.from_residual.ensures (row_refused (length source.blobs) (blob_length source.blobs) number row c.loop-row.auto.row c.args.budget.now c.loop-row.budget c.loop-row.accepted
    c.number-number.result c.loop-row.invariant.walk.0 c.loop-row.invariant.walk.1 (rw again is)
    (length c.in-Ok.blob.now) (c.args.limit - 1) c.in-Some.ensures.new
    (sym (blob_is c.numbers_are_read.ensures.unsigned_only source.blobs c.number-number.result c.in-Ok.blob.now found)) (omega arith) c.in_err-spend.ensures.spent)

pub returns-in-Err-clause-walked : goal.returns-in-Err-clause-walked
returns-in-Err-clause-walked c =
    let source = c.args.source.now.source in
    let row = c.loop-row.row in
    let number = number_after source c.args.table c.args.column in
    let again : row - 1 + 1 ≡ row = omega arith in
    let is : c.number-number.result ≡ number_of source c.args.table row c.args.column = c.number-number.ensures ∙ c.column-numbers.ensures.numbers row (omega arith) (omega arith) in
    let found = rw c.blobs-heap.ensures at c.in-Ok.ensures.sound in
    let walk = row_walked (length source.blobs) (blob_length source.blobs) number row c.loop-row.auto.row c.args.budget.now c.loop-row.budget c.loop-row.accepted
    c.number-number.result c.loop-row.invariant.walk.0 c.loop-row.invariant.walk.1 (rw again is)
    c.spend.new.self (length c.in-Ok.blob.now) c.in-Some.ensures.new
    (sym (blob_is c.numbers_are_read.ensures.unsigned_only source.blobs c.number-number.result c.in-Ok.blob.now found)) c.in_ok-spend.ensures.takes in
    (row + 1 - 1, omega arith, omega arith, omega arith, walk.1)

pub returns-clause-walked : goal.returns-clause-walked
returns-clause-walked c = (c.loop-row.row - 1, omega arith, omega arith, omega arith, c.loop-row.invariant.walk.1)

pub returns-clause-encoded : goal.returns-clause-encoded
returns-clause-encoded c = record { each = λ row first before. c.loop-row.invariant.before row first (omega arith) }

pub returns-then-limit-eq1-clause-encoded : goal.returns-then-limit-eq1-clause-encoded
returns-then-limit-eq1-clause-encoded c = record { each = λ row first before. absurd (omega arith) }

pub returns-then-limit-eq1-clause-walked : goal.returns-then-limit-eq1-clause-walked
returns-then-limit-eq1-clause-walked c =
    let source = c.args.source.now.source in
    let none = walk_none (length source.blobs) (blob_length source.blobs) (number_after source c.args.table c.args.column) in
    (0, omega arith, omega arith, omega arith, subst (λ (w : Walk). Takes c.args.budget.now c.args.budget.now w.bytes) (sym none) (takes_none c.args.budget.now))

pub returns-in_default-blob-clause-broken : goal.returns-in_default-blob-clause-broken
returns-in_default-blob-clause-broken c = λ before offset all.
    let source = c.args.source.now.source in
    let row = c.loop-row.row in
    let is : c.number-number.result ≡ number_of source c.args.table row c.args.column = c.number-number.ensures ∙ c.column-numbers.ensures.numbers row (omega arith) (omega arith) in
    none_fails (rules_of_encoding source (kind.Signature c.args.encoded) (number_of source c.args.table row c.args.column) offset) _ all
    (no_signature source c.args.encoded (number_of source c.args.table row c.args.column) offset
    (λ blob found signature encodes. (rw c.blobs-heap.ensures at c.in_default-blob.ensures.complete) blob (rw (← is) at found)))

pub returns-in-Err-clause-broken : goal.returns-in-Err-clause-broken
returns-in-Err-clause-broken c = λ before offset all.
    let source = c.args.source.now.source in
    let row = c.loop-row.row in
    let is : c.number-number.result ≡ number_of source c.args.table row c.args.column = c.number-number.ensures ∙ c.column-numbers.ensures.numbers row (omega arith) (omega arith) in
    let found = rw c.blobs-heap.ensures at c.in-Ok.ensures.sound in
    none_fails (rules_of_encoding source (kind.Signature c.args.encoded) c.number-number.result offset) _
    (rw (← is) at all) (c.in-Err.ensures c.number-number.result found offset)
