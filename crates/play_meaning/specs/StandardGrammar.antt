-- The commands that every story understands, behind those of the author's.
use Rattle.std.specs.Prelude.{ℕ, List, [], ◌∷◌, codes}
use Rattle.play_meaning.specs.Grammar.{Direction, Line, Something, Word}
use Rattle.play_meaning.specs.StandardActions.{closing, dropping, examining, going, inserting, jumping, looking, opening, putting_on, switching_off, switching_on, taking, taking_inventory, taking_off, waiting, wearing}

abbrev pub alone : ℕ → List ℕ → Line
alone action word = record { action = action; tokens = Word word ∷ [] }

-- a verb and a thing
abbrev pub verb : ℕ → List ℕ → Line
verb action word = record { action = action; tokens = Word word ∷ Something ∷ [] }

abbrev pub verb_with : ℕ → List ℕ → List ℕ → Line
verb_with action word particle = record { action = action; tokens = Word word ∷ Word particle ∷ Something ∷ [] }

abbrev pub between : ℕ → List ℕ → List ℕ → Line
between action word preposition = record { action = action; tokens = Word word ∷ Something ∷ Word preposition ∷ Something ∷ [] }

unfoldable pub standard_lines : List Line
standard_lines =
    alone looking (codes "look") ∷ alone looking (codes "l")
    ∷ verb examining (codes "examine") ∷ verb examining (codes "x") ∷ verb_with examining (codes "look") (codes "at")
    ∷ verb taking (codes "take") ∷ verb taking (codes "get") ∷ verb_with taking (codes "pick") (codes "up")
    ∷ verb dropping (codes "drop") ∷ verb_with dropping (codes "put") (codes "down")
    ∷ between putting_on (codes "put") (codes "on")
    ∷ between inserting (codes "put") (codes "in") ∷ between inserting (codes "put") (codes "into") ∷ between inserting (codes "insert") (codes "into")
    ∷ verb opening (codes "open")
    ∷ verb closing (codes "close") ∷ verb closing (codes "shut")
    ∷ record { action = going; tokens = Direction ∷ [] } ∷ record { action = going; tokens = Word (codes "go") ∷ Direction ∷ [] }
    ∷ verb wearing (codes "wear") ∷ verb_with wearing (codes "put") (codes "on")
    ∷ verb_with taking_off (codes "take") (codes "off") ∷ verb taking_off (codes "remove")
    ∷ alone taking_inventory (codes "inventory") ∷ alone taking_inventory (codes "inv") ∷ alone taking_inventory (codes "i")
    ∷ alone waiting (codes "wait") ∷ alone waiting (codes "z")
    ∷ alone jumping (codes "jump")
    ∷ verb_with switching_on (codes "switch") (codes "on") ∷ verb_with switching_on (codes "turn") (codes "on")
    ∷ verb_with switching_off (codes "switch") (codes "off") ∷ verb_with switching_off (codes "turn") (codes "off")
    ∷ []
