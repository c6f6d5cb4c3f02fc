-- Whether a line asks for one thing and nothing else, found from left to right.
use Rattle.std.specs.Prelude.{Bool, true, false, not, ◌&&◌, List, [], ◌∷◌}
use Rattle.play_meaning.specs.Grammar.{Direction, Something, Token, Word}

-- whether a slot for a thing was found in front of these tokens
abbrev pub is_one_thing_behind : Bool → List Token → Bool
is_one_thing_behind found [] = found
is_one_thing_behind found (Word spelling ∷ tokens) = is_one_thing_behind found tokens
is_one_thing_behind found (Something ∷ tokens) = not found && is_one_thing_behind true tokens
is_one_thing_behind found (Direction ∷ tokens) = false
