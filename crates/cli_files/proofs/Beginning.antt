-- What is read of a reader up to a limit, and whether a file begins like one of a kind, by the bytes that are read of it first.
use Rattle.std.proofs.Common.{◌≡◌, ◌∙◌, ◌≤◌, ◌+◌, ◌^◌, ℕ, Bool, false, List, [], ◌++◌, Option, None, Some, IfSome, length, take, take-take, option_map, bytes_eq, ap, sym, arith}
use Rattle.std.proofs.lemmas.List.{take-append-le}
use Rattle.std.specs.Io.KnownBytes.{Consumes}
use Rattle.std.specs.Io.Take.{take_remaining}
use Rattle.std.specs.declared.io.traits.Take.{Take}
use Rattle.cli_files.specs.Hints.{begin_with, signature_of}
use Rattle.cli_files.specs.declared.opened.Input.{Input}
use Rattle.cli_files.specs.declared.opened.Input.TheVariants.{BareRoot, File}
use Rattle.cli_files.specs.Read.{IsReadIfLike}

all_read : (known : Option (List ℕ)) (most : ℕ) (start read : List ℕ) → start ≡ [] → IfSome (option_map (take most) known) (λ more. read ≡ start ++ more)
    → IfSome known (λ all. read ≡ take most all)
all_read None most start read none is = tt
all_read (Some all) most start read none is = is ∙ ap (λ xs. xs ++ take most all) none

-- the bytes of a reader with a limit are the first ones of the reader within it
pub read_whole : {R : Type 0} (remaining : R → Option (List ℕ)) (reader inner : R) (limit most : ℕ) (start read : List ℕ) → inner ≡ reader → limit ≡ most → start ≡ []
    → IfSome (option_map (take limit) (remaining inner)) (λ more. read ≡ start ++ more) → IfSome (remaining reader) (λ all. read ≡ take most all)
read_whole remaining reader inner limit most start read inner_is limit_is none is = all_read (remaining reader) most start read none (rw (inner_is, limit_is) at is)

short : (input : Input) (sign : List ℕ) (most : ℕ) → sign ≡ signature_of input → most ≡ 2 ^ 30 + 1 → length sign ≤ most
short File sign most is limit = omega (arith, ap length is, limit)
short BareRoot sign most is limit = omega (arith, ap length is, limit)

differs : (known after : Option (List ℕ)) (most : ℕ) (sign first : List ℕ) (begins : Bool) → length sign ≤ most → length sign ≤ length first
    → Consumes (option_map (take most) known) after first → begins ≡ begin_with sign first → IfSome known (λ all. begins ≡ begin_with sign all)
differs None after most sign first begins fits long begun is = tt
differs (Some all) None most sign first begins fits long begun is = absurd begun
differs (Some all) (Some tail) most sign first begins fits long begun is =
    is ∙ ap (bytes_eq sign) (sym (take-append-le (length sign) first tail long) ∙ ap (take (length sign)) (sym begun) ∙ take-take (length sign) most all fits)

whole : (known after : Option (List ℕ)) (most : ℕ) (first start read : List ℕ) → Consumes (option_map (take most) known) after first → start ≡ first
    → IfSome after (λ tail. read ≡ start ++ tail) → IfSome known (λ all. read ≡ take most all)
whole None after most first start read begun start_is is = tt
whole (Some all) None most first start read begun start_is is = absurd begun
whole (Some all) (Some tail) most first start read begun start_is is = is ∙ ap (λ xs. xs ++ tail) start_is ∙ sym begun

begins_by : (known : Option (List ℕ)) (most : ℕ) (sign read : List ℕ) (begins : Bool) → length sign ≤ most → IfSome known (λ all. read ≡ take most all) → begins ≡ begin_with sign read
    → IfSome known (λ all. begins ≡ begin_with sign all)
begins_by None most sign read begins fits are is = tt
begins_by (Some all) most sign read begins fits are is = is ∙ ap (bytes_eq sign) (ap (take (length sign)) are ∙ take-take (length sign) most all fits)

module _ {F : Type 0} (remaining : F → Option (List ℕ)) (before after : Take F) (input : Input) (sign first : List ℕ) (sign_is : sign ≡ signature_of input)
    (limit : before.limit ≡ 2 ^ 30 + 1) (begun : Consumes (take_remaining remaining before) (take_remaining remaining after) first) where
  -- the first bytes are not those of this kind
  pub passed : (begins : Bool) (bytes : List ℕ) → length sign ≤ length first → begins ≡ begin_with sign first → begins ≡ false → IsReadIfLike remaining before.inner input false bytes
  passed begins bytes long is none = (
    rw (sym sign_is) (differs (remaining before.inner) (take_remaining remaining after) before.limit sign first false (short input sign before.limit sign_is limit) long begun (sym none ∙ is)),
    λ wrong. cc,
  )

  -- the tail was read too
  pub read : (begins : Bool) (start bytes : List ℕ) → start ≡ first → IfSome (take_remaining remaining after) (λ tail. bytes ≡ start ++ tail) → begins ≡ begin_with sign bytes
      → IsReadIfLike remaining before.inner input begins bytes
  read begins start bytes start_is more is =
      let are : IfSome (remaining before.inner) (λ all. bytes ≡ take before.limit all) = whole (remaining before.inner) (take_remaining remaining after) before.limit first start bytes begun start_is more in (
        rw (sym sign_is) (begins_by (remaining before.inner) before.limit sign bytes begins (short input sign before.limit sign_is limit) are is),
        λ so. rw limit at are,
      )
