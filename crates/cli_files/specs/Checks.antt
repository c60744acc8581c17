-- What a check of one file prints, and its exit code.
use Rattle.std.specs.Prelude.{◌≡◌, ◌==◌, ◌&&◌, ℕ, ◌⊎◌, Bool, false, not, List, [], ◌∷◌, ◌++◌, codes, Option, None, Some, MatchOption, if◌then◌else◌}
use Rattle.std.specs.Io.KnownBytes.{Appends}
use Rattle.std.specs.Str.{bytes_eq}
use Rattle.packed.specs.declared.fault.Fault.{Fault}
use Rattle.packed.specs.Rule.{FirstBroken}
use Rattle.cli_faults.specs.Texts.{ok_text}
use Rattle.cli_faults.specs.declared.failure.Failure.{Failure}
use Rattle.cli_files.specs.Read.{IsRead, IsRefused}
use Rattle.cli_files.specs.Checked.{IsWhole, rules_of}
use Rattle.cli_files.specs.declared.opened.Input.TheVariants.{File}
use Rattle.cli_sending.specs.Sent.{SendsPrefix}

-- the line of a file that breaks no rule
abbrev pub ok_line : List ℕ
ok_line = ok_text ++ 10 ∷ []

module _ {W : Type 0} (contents : W → Option (List ℕ)) (before after : W) where
  -- The bytes have a model, and the line `ok` went out; or they have one, and the output failed after a prefix of the line; or
  -- they break a rule, and nothing went out.
  abbrev pub IsCheckOfBytes : List ℕ → ℕ → Type 0
  IsCheckOfBytes bytes status =
      (IsWhole File bytes × Appends (contents before) (contents after) ok_line × (status ≡ 0))
      ⊎ (IsWhole File bytes × SendsPrefix (contents before) (contents after) ok_line × (status ≡ 3))
      ⊎ (((found : Fault) × FirstBroken (rules_of File bytes) found) × (after ≡ before) × (status ≡ 1))

  -- the check of the bytes that reading the file gave; or they were not read, and nothing went out
  abbrev pub IsCheckOfFile : {F I : Type 0} → (F → Option (List ℕ)) → (I → Option (List ℕ)) → List ℕ → ℕ → Type 0
  IsCheckOfFile of_file of_input file status =
      ((bytes : List ℕ) × IsRead of_file of_input file bytes × IsCheckOfBytes bytes status)
      ⊎ (((failure : Failure) × IsRefused file failure) × (after ≡ before) × (status ≡ 3))

-- an option begins with a dash, whose ASCII code is 45; the dash alone is the standard input
abbrev pub is_option : List ℕ → Bool
is_option (first ∷ next ∷ more) = first == 45
is_option word = false

-- the file that these arguments ask to check, the program name first
abbrev pub file_in : List (List ℕ) → Option (List ℕ)
file_in (program ∷ subcommand ∷ file ∷ []) = if bytes_eq subcommand (codes "check") && not (is_option file) then Some file else None
file_in words = None

-- the run on these arguments ended with this exit code: the check of the file; or 2 if they ask for none, and nothing went out
abbrev pub IsRunOf : {W F I : Type 0} → (W → Option (List ℕ)) → W → W → (F → Option (List ℕ)) → (I → Option (List ℕ)) → List (List ℕ) → ℕ → Type 0
IsRunOf contents before after of_file of_input words status =
    MatchOption (file_in words) ((after ≡ before) × (status ≡ 2)) (λ file. IsCheckOfFile contents before after of_file of_input file status)
