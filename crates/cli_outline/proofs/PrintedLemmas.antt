-- The lines of rows, one after another.
use Rattle.cli_outline.proofs.Prelude.{◌≡◌, Bool, true, false, cond, ℕ, suc, ◌+◌, ◌-◌, ◌<◌, ◌≤◌, List, [], ◌∷◌, ◌++◌, Option, None, Some, refl, ap, sym, subst, append_assoc, append-nil, arith, IsSome, filter-append, flat_map, range_with_len, Token, Metadata, Part, OutlineOptions, each_from, row_at, AreLines, IsLine, PrintsRows, is_shown, shown_rows, Printed, Prints}
use Rattle.cli_lines.proofs.PrintedLemmas.{prints_more, prints_nothing}

lines_append : (options : OutlineOptions) (model : Metadata) (xs ys : List Token) (a b : List (List Part)) → AreLines options model xs a → AreLines options model ys b → AreLines options model (xs ++ ys) (a ++ b)
lines_append options model [] ys a b are more = subst (λ (lines : List (List Part)). AreLines options model ys (lines ++ b)) (sym are) more
lines_append options model (x ∷ xs) ys a b are more = (are.0, are.1, are.2 ++ b, lines_append options model xs ys are.2 b are.3 more, ap (λ lines. lines ++ b) are.4)

module _ {W : Type 0} (options : OutlineOptions) (model : Metadata) where
  -- no line
  none_printed : (a b : Printed W) (rows later : List Token) → shown_rows options model rows ≡ later → Prints a b [] → (IsSome b.waiting → later ≡ []) → PrintsRows options model a b rows
  none_printed a b rows later whole printed all = record {
    first = [];
    later = later;
    whole = whole;
    lines = [];
    are = refl;
    printed = printed;
    all = all;
  }

  pub rows_nothing : (a : Printed W) → PrintsRows options model a a []
  rows_nothing a = none_printed a a [] [] refl (prints_nothing a) (λ some. refl)

  -- a row without a line
  pub row_hidden : (a : Printed W) (row : Token) → is_shown options model row ≡ false → PrintsRows options model a a (row ∷ [])
  row_hidden a row hidden = none_printed a a (row ∷ []) [] (ap (λ (shows : Bool). cond shows (row ∷ []) []) hidden) (prints_nothing a) (λ some. refl)

  pub rows_failed : (a b : Printed W) (rows : List Token) → Prints a b [] → b.waiting ≡ None → PrintsRows options model a b rows
  rows_failed a b rows printed failed = none_printed a b rows (shown_rows options model rows) refl printed (λ some. let no = rw failed at some in cc)

  -- the line of a row, or none since printing failed
  pub row_printed : (a b : Printed W) (row : Token) (line : List Part) → is_shown options model row ≡ true → IsLine options model row line → Prints a b (line ∷ [])
      → PrintsRows options model a b (row ∷ [])
  row_printed a b row line shown is printed = record {
    first = row ∷ [];
    later = [];
    whole = ap (λ (shows : Bool). cond shows (row ∷ []) []) shown;
    lines = line ∷ [];
    are = (line, is, [], refl, refl);
    printed = printed;
    all = λ some. refl;
  }

  module _ (a b c : Printed W) (xs ys : List Token) (prefix : PrintsRows options model a b xs) (back : PrintsRows options model b c ys) where
    after : (waiting : Option (List ℕ)) → b.waiting ≡ waiting → PrintsRows options model a c (xs ++ ys)
    after None failed =
        let same = back.printed.same.stays failed in
        record {
          first = prefix.first;
          later = prefix.later ++ shown_rows options model ys;
          whole = rw (filter-append (is_shown options model) xs ys, prefix.whole, append_assoc);
          lines = prefix.lines;
          are = prefix.are;
          printed = rw same prefix.printed;
          all = λ some. let no = rw (same, failed) at some in cc;
        }
    after (Some bytes) live =
        let none_left = prefix.all (rw live refl) in
        record {
          first = prefix.first ++ back.first;
          later = back.later;
          whole = rw (filter-append (is_shown options model) xs ys, prefix.whole, none_left, append-nil prefix.first, back.whole, append_assoc);
          lines = prefix.lines ++ back.lines;
          are = lines_append options model prefix.first back.first prefix.lines back.lines prefix.are back.are;
          printed = prints_more a b c prefix.lines back.lines prefix.printed back.printed;
          all = back.all;
        }

    pub rows_more : PrintsRows options model a c (xs ++ ys)
    rows_more = after b.waiting refl

-- what there is for the first number, and for the others
pub each_more : (rows : ℕ → List Token) (order : List ℕ) (number past : ℕ) → number < past → each_from rows order number past ≡ rows (row_at order number) ++ each_from rows order (number + 1) past
unfolding each_from
each_more rows order number past lt =
    let one : past - number ≡ suc (past - (number + 1)) = omega (arith, lt) in
    ap (λ n. flat_map (λ position. rows (row_at order position)) (range_with_len number n)) one

pub each_none : (rows : ℕ → List Token) (order : List ℕ) (number past : ℕ) → past ≤ number → each_from rows order number past ≡ []
unfolding each_from
each_none rows order number past le =
    let none : past - number ≡ 0 = omega (arith, le) in
    ap (λ n. flat_map (λ position. rows (row_at order position)) (range_with_len number n)) none
