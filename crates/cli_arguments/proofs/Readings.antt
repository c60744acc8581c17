-- What the getters of `clap`'s matches return, if the matches are those of the arguments.
use Rattle.std.proofs.Common.{◌≡◌, ◌∙◌, ℕ, Result, Ok, Err, Bool, true, false, List, ap, ap₂, sym, Option, Some, None, refl, codes}
use Rattle.std.specs.Prelude.{option_map, unwrap_or}
use Rattle.std.proofs.lemmas.Bool.{false_from_ne_true}
use Rattle.cli_arguments.specs.Asked.{is_true}
use Rattle.cli_arguments.proofs.Prelude.{bytes_eq, ParsesBool, ParsesUnsigned, bytes_eq-Decides, IsCountOf, subcommand_named, name_of, subcommands, Subcommand}
use Rattle.clap.specs.Words.{Row, Text, ReadsOne, subcommand_name_of, subcommand_rows_of}
use Rattle.clap.specs.declared.ArgMatches.{ArgMatches}
use Rattle.clap.specs.declared.ArgMatches.TheViews.{out-ArgMatches}
use Rattle.cli_arguments.proofs.KnownNames.{found_passes}

option_map_map : {A B C : Type 0} (f : B → C) (g : A → B) (o : Option A) → option_map f (option_map g o) ≡ option_map (λ x. f (g x)) o
option_map_map f g None = refl
option_map_map f g (Some x) = refl

both_parts : (o : Option (Text × List Row)) (name : Text) (rows : List Row) → option_map (λ p. p.0) o ≡ Some name → option_map (λ p. p.1) o ≡ Some rows
    → o ≡ Some (name, rows)
both_parts None name rows e f = cc
both_parts (Some p) name rows e f =
    ap₂ (λ (n : Text) (rs : List Row). Some (n, rs)) (ap (λ o. unwrap_or o name) e) (ap (λ o. unwrap_or o rows) f)

-- the subcommand that was found, by its name and by its rows
pub rows_met : {P : Type 0} (f : P → Text) (g : P → List Row) (m : ArgMatches) (o : Option P) (p : P) → o ≡ Some p → option_map f o ≡ subcommand_name_of m
    → option_map g o ≡ option_map (λ p. p.1) (subcommand_rows_of m) → subcommand_rows_of m ≡ Some (f p, g p)
rows_met f g m o p is named given =
    both_parts (subcommand_rows_of m) (f p) (g p) (option_map_map _ _ (out-ArgMatches m).subcommand ∙ sym named ∙ ap (option_map f) is) (sym given ∙ ap (option_map g) is)

-- the argument is the name of the subcommand that it selects
pub named_back : (word : Text) (s : Subcommand) → subcommand_named word ≡ Some s → word ≡ name_of s
named_back word s e = (bytes_eq-Decides word (name_of s)).0 (found_passes (λ of. bytes_eq word (name_of of)) (λ _. true) subcommands s e refl).0

-- a flag is read as true if and only if its text is `true`
pub flag_is : (E : Type 0) (o : Option Text) (r : Option Bool) → (o ≡ None → r ≡ None) → ((t : Text) → o ≡ Some t → ReadsOne {E = E} ParsesBool t r)
    → unwrap_or r false ≡ is_true o
flag_is E None None none value = refl
flag_is E None (Some read) none value = let nothing = none refl in cc
flag_is E (Some t) None none value = sym (false_from_ne_true (bytes_eq t (codes "true")) (λ same. (value t refl).1.0 ((bytes_eq-Decides t (codes "true")).0 same)))
flag_is E (Some t) (Some true) none value = rw (value t refl) refl
flag_is E (Some t) (Some false) none value = rw (value t refl) refl

-- the number of bytes that a getter returns
pub count_is : (E : Type 0) (gives : List ℕ → Result ℕ E → Type 0) → ((t : Text) (r : Result ℕ E) → gives t r → ParsesUnsigned 64 10 t r) → (o : Option Text) (r : Option ℕ)
    → (o ≡ None → r ≡ None) → ((t : Text) → o ≡ Some t → ReadsOne gives t r) → IsCountOf o r
count_is E gives parses None r none value = none refl
count_is E gives parses (Some t) (Some number) none value = parses t (Ok number) (value t refl)
count_is E gives parses (Some t) None none value = let e = value t refl in parses t (Err e.0) e.1
