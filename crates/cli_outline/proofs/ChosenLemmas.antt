-- Rows that are chosen, one after another.
use Rattle.cli_outline.proofs.Prelude.{◌≡◌, ◌∙◌, ◌+◌, ◌<◌, ◌≤◌, ℕ, true, false, List, [], ◌∷◌, ◌++◌, ⊎_elim, ap, drop, drop_all, drop_more, flat_map, get_or, inl, inr, length, refl, subst, sym, Token, Metadata, AreChosenBy, IsChosen, PrintsChosen, PrintsRows, OutlineOptions, Printed, each_from, row_at}
use Rattle.cli_names.specs.declared.chosen.Choice.{Choice}
use Rattle.cli_names.specs.declared.chosen.Choice.TheVariants as choice
use Rattle.cli_outline.proofs.PrintedLemmas.{each_more, each_none, rows_more, rows_nothing}

chosen_append : (Yes No : Token → Type 0) (xs ys a b : List Token) → AreChosenBy Yes No xs a → AreChosenBy Yes No ys b → AreChosenBy Yes No (xs ++ ys) (a ++ b)
chosen_append Yes No [] ys a b are more = subst (λ (found : List Token). AreChosenBy Yes No ys (found ++ b)) (sym are) more
chosen_append Yes No (x ∷ xs) ys a b are more = (
  are.0 ++ b,
  chosen_append Yes No xs ys are.0 b are.1 more,
  ⊎_elim
      (λ it. inl (it.0, ap (λ (found : List Token). found ++ b) it.1))
      (λ it. inr (it.0, ap (λ (found : List Token). found ++ b) it.1))
      are.2,
)

-- if the rows that are left are printed, all are
abbrev pub Completes : {W : Type 0} → OutlineOptions → Metadata → Choice → Printed W → Printed W → List Token → List Token → Type 0
Completes {W} options model of old now left all = (later : Printed W) → PrintsChosen options model of now later left → PrintsChosen options model of old later all

module _ {W : Type 0} {options : OutlineOptions} {model : Metadata} {of : Choice} where
  chosen_nothing : (a : Printed W) → PrintsChosen options model of a a []
  chosen_nothing a = record { found = []; chosen = refl; printed = rows_nothing options model a }

  -- a row that is not chosen, and one that is
  pub row_passed : {a : Printed W} {row : Token} → IsChosen model of false row → PrintsChosen options model of a a (row ∷ [])
  row_passed {a} passed = record { found = []; chosen = ([], refl, inr (passed, refl)); printed = rows_nothing options model a }

  pub row_chosen : {a b : Printed W} {row : Token} → IsChosen model of true row → PrintsRows options model a b (row ∷ []) → PrintsChosen options model of a b (row ∷ [])
  row_chosen {row = row} chosen printed = record { found = row ∷ []; chosen = ([], refl, inl (chosen, refl)); printed = printed }

  pub chosen_more : {a b c : Printed W} {xs ys : List Token} → PrintsChosen options model of a b xs → PrintsChosen options model of b c ys → PrintsChosen options model of a c (xs ++ ys)
  chosen_more {a} {b} {c} {xs} {ys} first second = record {
    found = first.found ++ second.found;
    chosen = chosen_append (IsChosen model of true) (IsChosen model of false) xs ys first.found second.found first.chosen second.chosen;
    printed = rows_more options model a b c first.found second.found first.printed second.printed;
  }

  -- ---- loops that print the rows of each item

  module _ {old now : Printed W} {all : List Token} where
    pub position_printed : (rows : ℕ → List Token) (order : List ℕ) (position past : ℕ) {next : Printed W} → position < past
        → Completes options model of old now (each_from rows order position past) all → PrintsChosen options model of now next (rows (row_at order position))
        → Completes options model of old next (each_from rows order (position + 1) past) all
    position_printed rows order position past lt completes printed = λ later left. completes later (rw (each_more rows order position past lt) (chosen_more printed left))

    pub positions_printed : (rows : ℕ → List Token) (order : List ℕ) (position past : ℕ) → past ≤ position
        → Completes options model of old now (each_from rows order position past) all → PrintsChosen options model of old now all
    positions_printed rows order position past le completes = completes now (rw (each_none rows order position past le) (chosen_nothing now))

    module _ {X : Type 0} (rows : X → List Token) (items : List X) (i : ℕ) where
      pub item_printed : (d : X) {next : Printed W} → i < length items → Completes options model of old now (flat_map rows (drop i items)) all
          → PrintsChosen options model of now next (rows (get_or items i d)) → Completes options model of old next (flat_map rows (drop (i + 1) items)) all
      item_printed d lt completes printed = λ later left. completes later (rw (drop_more items i d lt) (chosen_more printed left))

      pub items_printed : length items ≤ i → Completes options model of old now (flat_map rows (drop i items)) all → PrintsChosen options model of old now all
      items_printed le completes = completes now (rw (drop_all i items le) (chosen_nothing now))

-- all rows are chosen
all_chosen : (model : Metadata) (rows found : List Token) → AreChosenBy (IsChosen model choice.All true) (IsChosen model choice.All false) rows found → found ≡ rows
all_chosen model [] found are = are
all_chosen model (row ∷ rows) found are = ⊎_elim (λ it. it.1 ∙ ap (λ later. row ∷ later) (all_chosen model rows are.0 are.1)) (λ it. absurd it.0) are.2

pub all_printed : {W : Type 0} {options : OutlineOptions} {model : Metadata} {a b : Printed W} {rows : List Token} → PrintsChosen options model choice.All a b rows → PrintsRows options model a b rows
all_printed {model = model} {rows = rows} all = rw (all_chosen model rows all.found all.chosen) at all.printed
