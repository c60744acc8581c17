use Rattle.cli_declarations.proofs.Prelude.{refl}
use Rattle.cli_declarations.proofs.PieceLemmas.{on_ok}
use Rattle.cli_declarations.proofs.pieces.push_piece.Goals as goal

pub returns-in-Word : goal.returns-in-Word
returns-in-Word c = λ model is. rw c.in-Word.is (on_ok c.push_plain.result c.push_plain.ensures (λ e. (_, refl, e)))

pub returns-in-Linked : goal.returns-in-Linked
returns-in-Linked c = λ model is. rw c.in-Linked.is (on_ok c.push_linked.result (c.push_linked.ensures model is) (λ e. (_, refl, e)))

pub returns-in-Flags : goal.returns-in-Flags
returns-in-Flags c = λ model is. rw (c.in-Flags.is, ← c.number_or_zero.ensures model is) (on_ok c.push_words.result c.push_words.ensures (λ e. (_, refl, e)))

pub returns-in-Text : goal.returns-in-Text
returns-in-Text c = λ model is. rw (c.in-Text.is, ← c.text_or_empty.ensures model is) (on_ok c.push_text.result c.push_text.ensures (λ e. (_, refl, e)))

pub returns-in-Number : goal.returns-in-Number
returns-in-Number c = λ model is. rw (c.in-Number.is, ← c.number_or_zero-number.ensures model is) (on_ok c.push_decimal.result c.push_decimal.ensures (λ e. (_, refl, e)))

pub returns-in-QuotedAfter : goal.returns-in-QuotedAfter
returns-in-QuotedAfter c = λ model is. rw (c.in-QuotedAfter.is, ← c.text_or_empty-in-QuotedAfter.ensures model is) (on_ok c.push_quoted.result c.push_quoted.ensures (λ e. (_, refl, e)))

pub returns-in-BytesAfter : goal.returns-in-BytesAfter
returns-in-BytesAfter c = λ model is. rw (c.in-BytesAfter.is, ← c.bytes_or_empty.ensures model is) (on_ok c.push_bytes.result c.push_bytes.ensures (λ e. (_, refl, e)))

pub returns-in-Key : goal.returns-in-Key
returns-in-Key c = λ model is. rw (c.in-Key.is, ← c.number_or_zero-flags.ensures model is, ← c.bytes_or_empty-in-Key.ensures model is) (on_ok c.push_key.result c.push_key.ensures (λ e. (_, refl, e)))

pub returns-in-FirstBytes : goal.returns-in-FirstBytes
returns-in-FirstBytes c = λ model is. rw (c.in-FirstBytes.is, ← c.bytes_or_empty-in-FirstBytes.ensures model is) (on_ok c.push_value_bytes.result c.push_value_bytes.ensures (λ e. (_, refl, e)))

pub returns-in-EightDigits : goal.returns-in-EightDigits
returns-in-EightDigits c = λ model is. rw (c.in-EightDigits.is, ← c.number_or_zero-number-in-EightDigits.ensures model is) (on_ok c.push_eight_digits.result c.push_eight_digits.ensures (λ e. (_, refl, e)))

pub returns-in-GuidComment : goal.returns-in-GuidComment
returns-in-GuidComment c = λ model is. rw (c.in-GuidComment.is, ← c.guid_or_null.ensures model is) (on_ok c.push_guid_comment.result c.push_guid_comment.ensures (λ e. (_, refl, e)))

pub returns-in-Action : goal.returns-in-Action
returns-in-Action c = λ model is. rw (c.in-Action.is, ← c.number_or_zero-action.ensures model is) (on_ok c.push_action.result c.push_action.ensures (λ e. (_, refl, e)))

pub returns-in-Own : goal.returns-in-Own
returns-in-Own c = λ model is. rw c.in-Own.is (c.push_row.ensures model is)

pub returns-in-Declaration : goal.returns-in-Declaration
returns-in-Declaration c = λ model is. rw c.in-Declaration.is (c.push_declaration.ensures model is)

pub returns-in-Listed : goal.returns-in-Listed
returns-in-Listed c = λ model is. rw c.in-Listed.is (c.push_listed.ensures model is)

pub returns-in-After : goal.returns-in-After
returns-in-After c = λ model is. rw (c.in-After.is, ← c.reference_or_null-of.ensures model is) (c.push_after.ensures model is)
