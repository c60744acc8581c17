-- Skipping step by step, as loops and depth tests do it.
use Rattle.sig_recogniser.proofs.Prelude.{◌≡◌, ℕ, zero, suc, ◌+◌, ◌-◌, ◌<◌, ◌≤◌, ◌&&◌, Bool, false, not, cond, Option, Some, None, is_some, List, [], ◌∷◌, refl, arith, option_and_then, Token, SigKind, leading_within, leading_at, modifiers_at, element_of, Left, Skip, skip_many, skip_core, skip_by, skip_deep, skip_params, skip_slot, skip_modifiers, skip_void_or, skip_ret, skip_method, skip_body, is_marked, behind_mark}
use Rattle.table_schema.specs.declared.column.SigKind.TheVariants as column

next_of : (n k : ℕ) → k < n → n - k ≡ suc (n - (k + 1))
next_of n k lt = omega arith

pub skip_many_next : (each : Skip) (n k : ℕ) (here : Left) → k < n → skip_many each (n - k) here ≡ option_and_then (skip_many each (n - (k + 1))) (each here)
unfolding skip_many
skip_many_next each n k here lt = rw (next_of n k lt) refl

pub skip_many_end : (each : Skip) (n k : ℕ) (here : Left) → n ≤ k → skip_many each (n - k) here ≡ Some here
unfolding skip_many
skip_many_end each n k here le = let none : n - k ≡ 0 = omega arith in rw none refl

pub skip_params_next : (counts : List ℕ) (nested : Skip) (allowed : Bool) (n k : ℕ) (here : Left) → k < n → skip_params counts nested allowed (n - k) here ≡ option_and_then (skip_params counts nested (allowed && not (is_marked allowed here)) (n - (k + 1))) (skip_slot counts nested (behind_mark (is_marked allowed here) here))
unfolding skip_params
skip_params_next counts nested allowed n k here lt = rw (next_of n k lt) refl

pub skip_params_end : (counts : List ℕ) (nested : Skip) (allowed : Bool) (n k : ℕ) (here : Left) → n ≤ k → skip_params counts nested allowed (n - k) here ≡ Some here
unfolding skip_params
skip_params_end counts nested allowed n k here le = let none : n - k ≡ 0 = omega arith in rw none refl

-- parameters without SENTINEL are values one after another
pub skip_params_plain : (counts : List ℕ) (nested : Skip) (n : ℕ) (here : Left) → skip_params counts nested false n here ≡ skip_many (skip_slot counts nested) n here
unfolding skip_params skip_many
skip_params_plain counts nested zero here = refl
skip_params_plain counts nested (suc n) here = of_slot (skip_slot counts nested here) (skip_params_plain counts nested n)
  where
    of_slot : (o : Option Left) → ((x : Left) → skip_params counts nested false n x ≡ skip_many (skip_slot counts nested) n x) → option_and_then (skip_params counts nested false n) o ≡ option_and_then (skip_many (skip_slot counts nested) n) o
    of_slot None more = refl
    of_slot (Some x) more = more x

-- a core at the depth that is left
abbrev pub skip_next : List ℕ → ℕ → Skip
skip_next counts d ([], bad) = None
skip_next counts d (c ∷ b, bad) = cond (is_some (element_of c)) (Some (b, bad)) (skip_by counts d (skip_core counts d) c (b, bad))

pub skip_core_next : (counts : List ℕ) (d : ℕ) (here : Left) → 0 < d → skip_core counts d here ≡ skip_next counts (d - 1) here
unfolding skip_core
skip_core_next counts zero here h = absurd (omega arith)
skip_core_next counts (suc d) ([], bad) h = refl
skip_core_next counts (suc d) (c ∷ b, bad) h = let e : suc d - 1 ≡ d = omega arith in rw e refl

pub skip_core_none : (counts : List ℕ) (d : ℕ) (here : Left) → d ≡ 0 → skip_core counts d here ≡ None
unfolding skip_core
skip_core_none counts zero here h = refl
skip_core_none counts (suc d) here h = absurd (omega arith)

pub skip_deep_some : (d : ℕ) (inner : Skip) (here : Left) → 0 < d → skip_deep d inner here ≡ inner here
skip_deep_some zero inner here h = absurd (omega arith)
skip_deep_some (suc d) inner here h = refl

-- no signature is empty
pub skip_body_end : (counts : List ℕ) (kind : SigKind) (nested : Skip) (b : List ℕ) (bad : Option Token) → b ≡ [] → skip_body counts kind nested (b, bad) ≡ None
unfolding skip_body skip_method skip_ret skip_modifiers skip_void_or modifiers_at leading_at leading_within
skip_body_end counts column.Field nested b bad h = rw h refl
skip_body_end counts _ nested b bad h = rw h refl
