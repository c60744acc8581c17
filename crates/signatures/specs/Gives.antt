-- The result of a function that builds a value, compared with reading. Private functions ensure this.
use Rattle.std.specs.Prelude.{◌≡◌, Option, Some, None, Result, Ok, Err, ⊤}
use Rattle.signatures.specs.declared.error.SigError.{SigError}
use Rattle.signatures.specs.declared.error.SigError.TheVariants.{Bad, Memory}

-- nothing is read, or out of memory, whatever is read
abbrev pub Fails : {A : Type 0} → SigError → Option A → Type 0
Fails Bad read = read ≡ None
Fails Memory read = ⊤

-- the content of what was built is what is read
abbrev pub Gives : {A B : Type 0} → (A → B) → Result A SigError → Option B → Type 0
Gives view (Ok x) read = read ≡ Some (view x)
Gives view (Err e) read = Fails e read
