-- If `clap` accepts the arguments, they do not name the subcommand `help`.
use Rattle.cli_arguments.proofs.Prelude.{◌≡◌, ◌&&◌, ℕ, Bool, true, false, cond, not, List, [], ◌∷◌, Option, Some, None, is_some, refl, codes, bytes_eq}
use Rattle.std.specs.Prelude.{fold}
use Rattle.clap.specs.Lexer.{long_of, short_of}
use Rattle.clap.specs.Walk.{Held, Names, Outcome, Rule, Step, Text, Waiting, Walk, after_flag, after_step, arg_by_index, done, idle, long_or_other, next, option, plain, plain_word, positional, refused, short_or_plain, subcommand, subcommand_met, subcommand_or_other, to_positional, trailing, value, waits, walk, walk_from, walked, walked_from, word_met}
use Rattle.clap.specs.Simple.{Shape}
use Rattle.clap.specs.Kinds.{Kinds, or_else}
use Rattle.clap.specs.Faults.{other_fault, step_fault, turn_fault, walk_fault, word_fault}
use Rattle.clap.specs.declared.error.ErrorKind.TheVariants as kind

pub both_none : (a b : Kinds) → or_else a b ≡ [] → (a ≡ []) × (b ≡ [])
both_none [] b e = (refl, e)
both_none (k ∷ ks) b e = cc

abbrev pub is_help : Text → Bool
is_help name = bytes_eq name (codes "help")

-- the walk did not stop at `help`
abbrev pub StopsElsewhere : Option (Text × List Text) → Type 0
StopsElsewhere None = Unit {0}
StopsElsewhere (Some p) = is_help p.0 ≡ false

-- a step that enters a subcommand does not enter `help`
abbrev EntersElsewhere : Step → Type 0
EntersElsewhere (subcommand name) = is_help name ≡ false
EntersElsewhere _ = Unit {0}

module _ (c : List Rule) where
  plain_enters : (waiting : Waiting) (word : Text) (h : Held) → EntersElsewhere (plain_word c waiting word h).1
  plain_enters idle word h = tt
  plain_enters positional word h = tt
  plain_enters (option id) word h = tt

  after_enters : (waiting : Waiting) (word : Text) (h : Held) (o : Outcome) → EntersElsewhere (after_flag c waiting word h o).1
  after_enters waiting word h done = tt
  after_enters waiting word h (waits id) = tt
  after_enters waiting word h plain = plain_enters waiting word h
  after_enters waiting word h refused = plain_enters waiting word h

  short_enters : (waiting : Waiting) (word : Text) (o : Option Text) (h : Held) → EntersElsewhere (short_or_plain c waiting word o h).1
  short_enters waiting word None h = plain_enters waiting word h
  short_enters waiting word (Some flags) h = after_enters waiting word _ _

  flag_enters : (waiting : Waiting) (word : Text) (o : Option (Text × Option Text)) (h : Held) → EntersElsewhere (long_or_other c waiting word o h).1
  flag_enters waiting word None h = short_enters waiting word (short_of word) h
  flag_enters waiting word (Some p) h = after_enters waiting word _ _

  step_stops : (word : Text) (w : Walk) (h : Held) (step : Step) → EntersElsewhere step → StopsElsewhere w.stopped
      → StopsElsewhere (after_step c word w h step).stopped
  step_stops word w h (next waiting) enters stops = stops
  step_stops word w h (trailing position) enters stops = stops
  step_stops word w h (subcommand name) enters stops = enters
  step_stops word w h value enters stops = go (arg_by_index c w.position)
    where
      go : (o : Option Rule) → StopsElsewhere (to_positional c o word w h).stopped
      go None = stops
      go (Some a) = tt

-- a name is not `help`, since `clap` would answer that with the help
not_help : (found disabled : Bool) (k : Kinds) (tail : Kinds) → disabled ≡ false → cond (found && not disabled) (kind.DisplayHelp ∷ tail) [] ≡ [] → found ≡ false
not_help false disabled k tail is none = refl
not_help true false k tail is none = cc
not_help true true k tail is none = cc

module _ (s : Shape) (names : Names) (helps : s.disable_help_subcommand ≡ false) where
  other_enters : (o : Option Text) (waiting : Waiting) (position : ℕ) (word : Text) (h : Held) → other_fault s o word h ≡ []
      → EntersElsewhere (subcommand_or_other s.rules o waiting position word h).1
  other_enters (Some name) waiting position word h e = not_help (is_help name) s.disable_help_subcommand [] _ helps e
  other_enters None waiting position word h e = go (bytes_eq word (45 ∷ 45 ∷ []))
    where
      go : (is_end : Bool) → EntersElsewhere (cond is_end (h, trailing position) (long_or_other s.rules waiting word (long_of word) h)).1
      go true = tt
      go false = flag_enters s.rules waiting word (long_of word) h

  word_enters : (is_trailing : Bool) (waiting : Waiting) (position : ℕ) (word : Text) (h : Held)
      → word_fault s names is_trailing waiting word h ≡ [] → EntersElsewhere (word_met s.rules names is_trailing waiting position word h).1
  word_enters true waiting position word h e = tt
  word_enters false waiting position word h e = other_enters (subcommand_met names waiting word) waiting position word h e

  turn_stops : (w : Walk) (word : Text) → turn_fault s names w word ≡ [] → StopsElsewhere w.stopped
      → StopsElsewhere (walked s.rules names w word).stopped
  unfolding walked
  turn_stops w word e stops = go w.stopped e stops
    where
      go : (stopped : Option (Text × List Text))
          → cond (is_some stopped) [] (or_else (word_fault s names w.is_trailing w.waiting word w.held)
          (step_fault s w.position (word_met s.rules names w.is_trailing w.waiting w.position word w.held).0 (word_met s.rules names w.is_trailing w.waiting w.position word w.held).1)) ≡ []
          → StopsElsewhere stopped → StopsElsewhere (walked_from s.rules names stopped w word).stopped
      go None none f =
          step_stops s.rules word w (word_met s.rules names w.is_trailing w.waiting w.position word w.held).0
          (word_met s.rules names w.is_trailing w.waiting w.position word w.held).1
          (word_enters w.is_trailing w.waiting w.position word w.held (both_none _ _ none).0) stops
      go (Some p) none f = f

  walk_stops : (w : Walk) (words : List Text) → walk_fault s names w words ≡ [] → StopsElsewhere w.stopped
      → StopsElsewhere (fold (walked s.rules names) w words).stopped
  unfolding walk_fault
  walk_stops w [] e stops = stops
  walk_stops w (word ∷ tail) e stops =
      let none = both_none (turn_fault s names w word) _ e in walk_stops (walked s.rules names w word) tail none.1 (turn_stops w word none.0 stops)

  -- the walk over the arguments does not stop at `help`
  pub stops_elsewhere : (h : Held) (words : List Text) → walk_fault s names (walk_from h) words ≡ [] → StopsElsewhere (walk s.rules names h words).stopped
  stops_elsewhere h words e = walk_stops (walk_from h) words e tt
