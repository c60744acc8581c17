-- The actions of permission sets (ECMA-335 II.22.11).
use Rattle.std.specs.Prelude.{ℕ, ◌==◌, if◌then◌else◌, List, [], ◌∷◌, codes, decimal}

-- this word if the action has this number, else another
abbrev pub pick : ℕ → ℕ → List ℕ → List ℕ → List ℕ
pick action number word other = if action == number then word else other

-- the word of an action, none if it has no word
unfoldable pub action_word : ℕ → List ℕ
action_word action =
    pick action 1 (codes "request") (pick action 2 (codes "demand") (pick action 3 (codes "assert") (pick action 4 (codes "deny")
    (pick action 5 (codes "permitonly") (pick action 6 (codes "linkcheck") (pick action 7 (codes "inheritcheck") (pick action 8 (codes "reqmin")
    (pick action 9 (codes "reqopt") (pick action 10 (codes "reqrefuse") (pick action 11 (codes "prejitgrant") (pick action 12 (codes "prejitdeny")
    (pick action 13 (codes "noncasdemand") (pick action 14 (codes "noncaslinkdemand") (pick action 15 (codes "noncasinheritance") []))))))))))))))

-- a word, or a number in decimal if there is none
abbrev pub word_or_number : List ℕ → ℕ → List ℕ
word_or_number [] number = decimal number
word_or_number (first ∷ tail) number = first ∷ tail

abbrev pub action_text : ℕ → List ℕ
action_text action = word_or_number (action_word action) action
