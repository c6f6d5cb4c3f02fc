-- A line's slots, found one behind the other.
use Rattle.std.proofs.Common.{◌≡◌, Bool, true, false, List, [], ◌∷◌, refl, sym, ◌∙◌}
use Rattle.std.specs.Prelude.{filter}
use Rattle.play_meaning.specs.Commands.{is_one_thing}
use Rattle.play_meaning.specs.Grammar.{Direction, Something, Token, Word, is_slot}
use Rattle.command_parser.specs.Alls.{is_one_thing_behind}

abbrev is_none : List Token → Bool
is_none [] = true
is_none (token ∷ tokens) = false

none_behind : (tokens : List Token) → is_one_thing_behind true tokens ≡ is_none (filter is_slot tokens)
none_behind [] = refl
none_behind (Word spelling ∷ tokens) = none_behind tokens
none_behind (Something ∷ tokens) = refl
none_behind (Direction ∷ tokens) = refl

one_with : (slots : List Token) → is_one_thing (Something ∷ slots) ≡ is_none slots
one_with [] = refl
one_with (slot ∷ slots) = refl

pub one_thing_is : (tokens : List Token) → is_one_thing_behind false tokens ≡ is_one_thing (filter is_slot tokens)
one_thing_is [] = refl
one_thing_is (Word spelling ∷ tokens) = one_thing_is tokens
one_thing_is (Something ∷ tokens) = none_behind tokens ∙ sym (one_with (filter is_slot tokens))
one_thing_is (Direction ∷ tokens) = refl
