-- If `clap` accepts the arguments, they name a subcommand of the program.
use Rattle.cli_arguments.proofs.Prelude.{◌≡◌, ◌&&◌, ◌||◌, ◌∙◌, Bool, true, false, cond, List, [], ◌∷◌, Option, Some, None, ap, is_some, refl, subst, sym, bytes_eq, bytes_eq-Decides, clap_on_literals, subcommand_named, clim}
use Rattle.std.specs.Prelude.{IsSome, find, option_map, unwrap_or}
use Rattle.std.specs.List.{list_all}
use Rattle.clap.specs.Walk.{Row, Text, answers_to, nothing_held, stop_after}
use Rattle.clap.specs.Simple.{Shape, argument_words, built, entered, is_simple, label_of, names_of, rows_at, subcommand_of}
use Rattle.clap.specs.Faults.{fault_of, is_simple_and_free}
use Rattle.clap.proofs.WalkLemmas.{both}
use Rattle.cli_arguments.proofs.NoHelp.{StopsElsewhere, both_none, is_help, stops_elsewhere}

-- a subcommand has one name: that of a subcommand of the program, or `help`
abbrev is_known_label : Text → List Text → Bool
is_known_label name [] = is_help name || is_some (subcommand_named name)
is_known_label name (alias ∷ more) = false

abbrev is_known_shape : Shape → Bool
is_known_shape s = is_known_label s.name s.aliases

all_known : list_all is_known_shape (built clim).subs ≡ true
unfolding clap_on_literals clim
all_known = refl

pub clim_is_free : is_simple_and_free clim ≡ true
unfolding clap_on_literals clim
clim_is_free = refl

pub clim_is_simple : is_simple clim ≡ true
clim_is_simple = (both (is_simple clim) _ clim_is_free).0

has_help : (built clim).top.disable_help_subcommand ≡ false
unfolding clap_on_literals clim
has_help = refl

-- what is found passes the test, and what all elements pass
pub found_passes : {X : Type 0} (p q : X → Bool) (among : List X) (s : X) → find p among ≡ Some s → list_all q among ≡ true → (p s ≡ true) × (q s ≡ true)
found_passes p q [] s found all = cc
found_passes {X} p q (x ∷ xs) s found all = go (p x) (q x) refl refl found all (found_passes p q xs s)
  where
    go : (b c : Bool) → p x ≡ b → q x ≡ c → cond b (Some x) (find p xs) ≡ Some s → (c && list_all q xs) ≡ true
        → (find p xs ≡ Some s → list_all q xs ≡ true → (p s ≡ true) × (q s ≡ true)) → (p s ≡ true) × (q s ≡ true)
    go true true passes known is later tail = subst (λ (y : X). (p y ≡ true) × (q y ≡ true)) (ap (λ o. unwrap_or o x) is) (passes, known)
    go false true passes known is later tail = tail is later
    go true false passes known is later tail = cc
    go false false passes known is later tail = cc

-- a subcommand that an argument other than `help` selects is one of the program
selected_known : (word name : Text) (aliases : List Text) → is_help word ≡ false → answers_to word (name, aliases) ≡ true → is_known_label name aliases ≡ true
    → IsSome (subcommand_named name)
selected_known word name (alias ∷ more) other answers known = cc
selected_known word name [] other answers known = go (bytes_eq name word) (bytes_eq-Decides name word).0 (is_help name) refl answers known
  where
    go : (answered : Bool) → (answered ≡ true → name ≡ word) → (helps : Bool) → is_help name ≡ helps → (answered || false) ≡ true
        → (helps || is_some (subcommand_named name)) ≡ true → IsSome (subcommand_named name)
    go false same helps is answers known = cc
    go true same false is answers known = known
    go true same true is answers known = let bad : true ≡ false = sym is ∙ ap is_help (same refl) ∙ other in cc

-- where the walk over the program's own arguments stops
abbrev stop_in : List Text → Option (Text × List Text)
stop_in words = stop_after (built clim).top.rules (names_of (built clim)) (argument_words clim words)

entered_known : (stop : Option (Text × List Text)) (name : Text) (rows : List Row) → StopsElsewhere stop → entered (built clim) stop ≡ Some (name, rows)
    → IsSome (subcommand_named name)
entered_known None name rows elsewhere e = cc
entered_known (Some p) name rows elsewhere e = go (find (λ s. answers_to p.0 (label_of s)) (built clim).subs) refl e
  where
    go : (o : Option Shape) → find (λ s. answers_to p.0 (label_of s)) (built clim).subs ≡ o → option_map (λ s. rows_at s p.1) o ≡ Some (name, rows)
        → IsSome (subcommand_named name)
    go None found e = cc
    go (Some s) found e =
        let passes = found_passes (λ s. answers_to p.0 (label_of s)) is_known_shape (built clim).subs s found all_known in
        let named : s.name ≡ name = ap (λ (o : Option (Text × List Row)). (unwrap_or o (name, rows)).0) e in
        subst (λ (n : Text). IsSome (subcommand_named n)) named (selected_known p.0 s.name s.aliases elsewhere passes.0 passes.1)

pub is_known : (words : List Text) (name : Text) (rows : List Row) → fault_of clim words ≡ [] → subcommand_of clim words ≡ Some (name, rows)
    → IsSome (subcommand_named name)
is_known words name rows none is =
    entered_known (stop_in words) name rows
    (stops_elsewhere (built clim).top (names_of (built clim)) has_help nothing_held (argument_words clim words) (both_none _ _ none).0) is
