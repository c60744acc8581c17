-- Columns whose numbers are those in the canonical root, but for null.
use Rattle.cell_numbering.proofs.Prelude.{◌≡◌, ◌+◌, ◌^◌, ◌<◌, ◌≤◌, ℕ, Option, Some, None, List, [], ◌∷◌, ◌++◌, length, get_or, sym, ap, subst, ◌∙◌, arith, IfSome, get_or_append_left, get_or_push, TableId, ColumnKind, Cell, Ref, IsOfKind, IsNumberOf, cell_number, IsInNoHeap, no_pools}
use Rattle.std.proofs.lemmas.Bool.Decides.{nat_tests}
use borrow.Author.Count.{below_more}
use Rattle.table_schema.specs.declared.coded.Coded.{Coded}
use Rattle.table_schema.specs.declared.column.ColumnKind.TheVariants as kind
use Rattle.table_schema.specs.CodedIndexes.{tag_bits}
use Rattle.cell_numbering.specs.PlainColumns.{IsLeast, IsPlainNumber, without_null}

-- a number that is not less than the least one is kept, and another is 0
kept : (least number : ℕ) → least ≤ number → without_null least number ≡ number
kept least number not_less = grind (arith, nat_tests)

null_is : (least number : ℕ) → number < least → without_null least number ≡ 0
null_is least number less = grind (arith, nat_tests)

row_number_is : (number : ℕ) (table : TableId) (cell : Cell) → IsOfKind (kind.Row table) cell → IsNumberOf (kind.Row table) number cell → IsPlainNumber (kind.Row table) number cell
row_number_is number table (Ref None) of is = record { none = tt; number_is = is }
row_number_is number table (Ref (Some token)) of is = record { none = tt; number_is = is }
row_number_is number table cell of is = absurd of

coded_number_is : (least number : ℕ) (coded : Coded) (cell : Cell) → least ≡ 2 ^ tag_bits coded → IsNumberOf (kind.Coded coded) number cell
    → IsPlainNumber (kind.Coded coded) (without_null least number) cell
coded_number_is least number coded (Ref None) is_least is = record { none = tt; number_is = null_is least number (omega (arith, is_least, is)) }
coded_number_is least number coded (Ref (Some token)) is_least is = record { none = tt; number_is = kept least number (omega (arith, is_least, is.0)) ∙ is.1 }
coded_number_is least number coded cell is_least is = absurd is

-- what is said of a number holds if there is no null
own : (P : ℕ → Type 0) (least number : ℕ) → least ≡ 0 → P number → P (without_null least number)
own P least number none holds = subst P (sym (kept least number (omega (arith, none)))) holds

pub own_number : (k : ColumnKind) (least number : ℕ) (cell : Cell) → IsLeast k least → IsOfKind k cell → IsNumberOf k number cell
    → IsPlainNumber k (without_null least number) cell
own_number kind.U8 least number cell none of is =
    own (λ (n : ℕ). IsPlainNumber kind.U8 n cell) least number none (record { none = subst IsInNoHeap (sym is) tt; number_is = sym (ap (cell_number no_pools kind.U8) is) })
own_number kind.U16 least number cell none of is =
    own (λ (n : ℕ). IsPlainNumber kind.U16 n cell) least number none (record { none = subst IsInNoHeap (sym is) tt; number_is = sym (ap (cell_number no_pools kind.U16) is) })
own_number kind.U32 least number cell none of is =
    own (λ (n : ℕ). IsPlainNumber kind.U32 n cell) least number none (record { none = subst IsInNoHeap (sym is) tt; number_is = sym (ap (cell_number no_pools kind.U32) is) })
own_number (kind.Row table) least number cell none of is =
    own (λ (n : ℕ). IsPlainNumber (kind.Row table) n cell) least number none (row_number_is number table cell of is)
own_number (kind.Coded coded) least number cell is_least of is = coded_number_is least number coded cell is_least is
own_number _ least number cell none of is = absurd none

-- ---- columns, one by one

-- what holds for the first columns, after one more
pub one_more : {X : Type 0} (P : ℕ → X → Type 0) (before after : List (Option X)) (last : Option X) (i : ℕ) → after ≡ before ++ last ∷ [] → length before ≡ i
    → ((k : ℕ) → k < i → IfSome (get_or before k None) (P k)) → IfSome last (P i) → (k : ℕ) → k < i + 1 → IfSome (get_or after k None) (P k)
one_more {X} P before after last i is long all here =
    below_more (λ k. IfSome (get_or after k None) (P k)) i
    (λ k below. subst (λ (o : Option X). IfSome o (P k)) (sym (ap (λ (l : List (Option X)). get_or l k None) is ∙ get_or_append_left before (last ∷ []) None k (omega (arith, below, long)))) (all k below))
    (subst (λ (o : Option X). IfSome o (P i)) (sym (ap (λ (l : List (Option X)). get_or l i None) is ∙ get_or_push before last None i long)) here)
