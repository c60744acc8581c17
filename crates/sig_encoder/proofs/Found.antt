-- The row checker stops at the first type index whose row does not exist.
use Rattle.std.proofs.Common.{◌≡◌, ◌∙◌, ℕ, Bool, true, false, not, cond, Option, Some, None, Result, Ok, Err, List, [], ◌∷◌, refl, ap}
use Rattle.std.specs.Prelude.{flat_map}
use Rattle.table_schema.specs.declared.token.Token.{Token}
use Rattle.sig_grammar.specs.Parts.{Part, byte, number, signed, index, part_tokens}
use Rattle.sig_grammar.specs.Encodes.{has_row, first_bad, tokens}
use Rattle.sig_grammar.specs.Syntax.{Body}
use Rattle.sig_grammar.specs.Grammar.{body_parts}
use Rattle.sig_encoder.specs.Run.{after, then, run}
use Rattle.sig_encoder.specs.Items.{Item, part, broken, kept, body_items}
use Rattle.sig_encoder.specs.Rows.{row_checker_step}
use Rattle.sig_encoder.specs.declared.row_checker.RowChecker.{RowChecker}

-- the row checker, with the result of the search
abbrev reported : RowChecker → Option Token → Result RowChecker RowChecker
reported rows None = Ok rows
reported rows (Some token) = Err (record { counts = rows.counts; bad = Some token })

found_by : (rows : RowChecker) (token : Token) (xs : List Item) (b : Bool)
    → run row_checker_step xs rows ≡ reported rows (first_bad rows.counts.now (flat_map part_tokens (kept xs)))
    → then (run row_checker_step xs) (cond b (Ok rows) (Err (record { counts = rows.counts; bad = Some token })))
    ≡ reported rows (cond (not b) (Some token) (first_bad rows.counts.now (flat_map part_tokens (kept xs))))
found_by rows token xs true e = e
found_by rows token xs false e = refl

found : (xs : List Item) (rows : RowChecker) → run row_checker_step xs rows ≡ reported rows (first_bad rows.counts.now (flat_map part_tokens (kept xs)))
unfolding run row_checker_step
found [] rows = refl
found (broken ∷ xs) rows = found xs rows
found (part (byte c) ∷ xs) rows = found xs rows
found (part (number n) ∷ xs) rows = found xs rows
found (part (signed z) ∷ xs) rows = found xs rows
found (part (index token) ∷ xs) rows = found_by rows token xs (has_row rows.counts.now token) (found xs rows)

bad_by : {U : Type 0} (r : Option U) (o : Option Token) (old new : RowChecker) → old.bad ≡ None → after r new ≡ reported old o → new.bad ≡ o
bad_by None None old new none e = absurd (cc)
bad_by None (Some token) old new none e = let same : new ≡ record { counts = old.counts; bad = Some token } = cc in ap (λ (r : RowChecker). r.bad) same
bad_by (Some u) None old new none e = let same : new ≡ old = cc in ap (λ (r : RowChecker). r.bad) same ∙ none
bad_by (Some u) (Some token) old new none e = absurd (cc)

pub first_found : {U : Type 0} → ((b : Body) (depth : ℕ) → kept (body_items b depth) ≡ body_parts b) → (r : Option U) (b : Body) (depth : ℕ) (old new : RowChecker) → old.bad ≡ None → after r new ≡ run row_checker_step (body_items b depth) old
    → new.bad ≡ first_bad old.counts.now (tokens b)
first_found parts r b depth old new none e =
    bad_by r (first_bad old.counts.now (tokens b)) old new none
    (e ∙ found (body_items b depth) old ∙ ap (λ (ps : List Part). reported old (first_bad old.counts.now (flat_map part_tokens ps))) (parts b depth))
