-- What reading a file gives, why a file was not read, what a walk over a directory comes to, and which files in it are read.
use Rattle.std.specs.Prelude.{◌≡◌, ◌≢◌, ◌⊎◌, ◌+◌, ◌^◌, ℕ, Bool, true, List, IfSome, Option, codes, take}
use Rattle.std.specs.Str.{IsUtf8}
use Rattle.cli_faults.specs.Status.{IsUnread}
use Rattle.cli_faults.specs.declared.failure.Failure.{Failure}
use Rattle.cli_faults.specs.declared.failure.Failure.TheVariants.{NotUtf8}
use Rattle.cli_files.specs.Hints.{begin_with, signature_of}
use Rattle.cli_files.specs.declared.opened.Input.{Input}
use Rattle.cli_files.specs.declared.walk.Visit.{Visit}
use Rattle.cli_files.specs.declared.walk.Visit.TheVariants.{Unread}

-- these are all bytes that the reader had, or the first 2^30 + 1 if it had more, if its bytes are known
abbrev pub IsReadOf : {F : Type 0} → (F → Option (List ℕ)) → F → List ℕ → Type 0
IsReadOf remaining reader bytes = IfSome (remaining reader) (λ all. bytes ≡ take (2 ^ 30 + 1) all)

-- these are the bytes of the standard input if the path is `-`, and else of a file; which file a path leads to is the system's
abbrev pub IsRead : {F I : Type 0} → (F → Option (List ℕ)) → (I → Option (List ℕ)) → List ℕ → List ℕ → Type 0
IsRead {F} {I} of_file of_input path bytes =
    ((path ≡ codes "-") × (reader : I) × IsReadOf of_input reader bytes) ⊎ ((path ≢ codes "-") × (file : F) × IsReadOf of_file file bytes)

-- the name of the file is not UTF-8, it could not be read, or memory ran out
abbrev pub IsRefused : List ℕ → Failure → Type 0
IsRefused file (NotUtf8 name) = (name.now ≡ file) × (¬ IsUtf8 file)
IsRefused file failure = IsUnread file failure

-- a failure is that of reading what has the path
abbrev pub IsVisit : Visit → Type 0
IsVisit (Unread path failure) = IsRefused path.now failure
IsVisit _ = Unit {0}

-- whether the bytes of a file, if they are known, begin like those of this kind; if so, these were read of it
abbrev pub IsReadIfLike : {F : Type 0} → (F → Option (List ℕ)) → F → Input → Bool → List ℕ → Type 0
IsReadIfLike remaining file input begins bytes =
    IfSome (remaining file) (λ all. begins ≡ begin_with (signature_of input) all) × (begins ≡ true → IsReadOf remaining file bytes)
