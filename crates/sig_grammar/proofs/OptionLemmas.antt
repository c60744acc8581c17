-- A fact of the value in an option, step by step.
use Rattle.std.proofs.Common.{◌≡◌, Bool, true, false, cond, Option, Some, None, refl, IfSome}
use Rattle.std.specs.Prelude.{option_map, option_and_then}

-- ---- a fact about the value in an option, step by step

pub IfSome-bind : {A B : Type 0} (P : A → Type 0) (Q : B → Type 0) (f : A → Option B) (o : Option A) → IfSome o P → ((x : A) → P x → IfSome (f x) Q) → IfSome (option_and_then f o) Q
IfSome-bind P Q f None h k = tt
IfSome-bind P Q f (Some x) h k = k x h

pub IfSome-map : {A B : Type 0} (P : A → Type 0) (Q : B → Type 0) (f : A → B) (o : Option A) → IfSome o P → ((x : A) → P x → Q (f x)) → IfSome (option_map f o) Q
IfSome-map P Q f None h k = tt
IfSome-map P Q f (Some x) h k = k x h

pub IfSome-cond : {A : Type 0} (Q : A → Type 0) (b : Bool) (x y : Option A) → (b ≡ true → IfSome x Q) → (b ≡ false → IfSome y Q) → IfSome (cond b x y) Q
IfSome-cond Q true x y h k = h refl
IfSome-cond Q false x y h k = k refl
