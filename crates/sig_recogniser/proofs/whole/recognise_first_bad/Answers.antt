use Rattle.std.proofs.Common.{◌≡◌, ◌∙◌, ℕ, ◌<◌, ◌^◌, true, false, eqb, List, length, get_or, ap, sym, rules, arith}
use Rattle.sig_recogniser.specs.Skips.{remains, bad_token as noted_token}
use Rattle.sig_recogniser.proofs.Recognised.{walked, walked_only, not_at_end, refused}
use Rattle.sig_recogniser.proofs.whole.recognise_first_bad.Goals as goal

pub returns-in_err-end-clause-complete : goal.returns-in_err-end-clause-complete
unfolding remains noted_token
returns-in_err-end-clause-complete c = λ signature encodes. absurd (refused c.signatures_are_read.ensures.read c.args.counts.now c.args.kind c.args.bytes.now c.in_err-end.ensures signature encodes)

pub returns-then-not-is_empty-clause-complete : goal.returns-then-not-is_empty-clause-complete
unfolding remains noted_token
returns-then-not-is_empty-clause-complete c = λ signature encodes.
    let empty : eqb (length (remains c.args.bytes.now c.in_ok-end.end)) 0 ≡ false = ap (λ (t : List ℕ). eqb (length t) 0) (sym c.bytes_from-behind.ensures) ∙ sym c.is_empty.ensures ∙ c.if-not-is_empty.true in
    absurd (not_at_end c.signatures_are_read.ensures.read c.args.counts.now c.args.kind c.args.bytes.now (remains c.args.bytes.now c.in_ok-end.end) (noted_token c.in_ok-end.end) c.in_ok-end.ensures empty signature encodes)

pub returns-clause-sound : goal.returns-clause-sound
unfolding remains noted_token
returns-clause-sound c =
    let limit : length c.args.bytes.now < 2 ^ 29 = omega arith in
    let each : (i : ℕ) → get_or c.args.bytes.now i 0 < 2 ^ 8 = λ i. let f = c.type_inv.bytes i in search rules in
    let empty : eqb (length (remains c.args.bytes.now c.in_ok-end.end)) 0 ≡ true = ap (λ (t : List ℕ). eqb (length t) 0) (sym c.bytes_from-behind.ensures) ∙ sym c.is_empty.ensures ∙ c.if-not-is_empty.false in
    rw c.bad_token.ensures (walked c.signatures_are_read.ensures.encoded c.args.counts.now c.args.kind c.args.bytes.now (remains c.args.bytes.now c.in_ok-end.end) (noted_token c.in_ok-end.end) each limit c.in_ok-end.ensures empty)

pub returns-clause-complete : goal.returns-clause-complete
unfolding remains noted_token
returns-clause-complete c = rw c.bad_token.ensures (walked_only c.signatures_are_read.ensures.read c.args.counts.now c.args.kind c.args.bytes.now (remains c.args.bytes.now c.in_ok-end.end) (noted_token c.in_ok-end.end) c.in_ok-end.ensures)
