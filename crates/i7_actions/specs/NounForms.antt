-- The nouns of an action by its words: one place of the second part after the other is tried, from the left.
use Rattle.std.specs.Prelude.{ℕ, ◌+◌, Bool, false, ◌||◌, List, [], ◌∷◌, take, Option, Some, None, codes, if◌then◌else◌}
use Rattle.world_meaning.specs.Spelling.{is_spelled}
use Rattle.play_meaning.specs.Meant.{object_meant}
use Rattle.play_meaning.specs.Trees.{Nothing, Object}
use Rattle.i7_conditions.specs.Predicates.{object_said}
use Rattle.i7_conditions.specs.Readings.{or_else, two}
use Rattle.i7_conditions.specs.Scopes.{Scope}
use Rattle.i7_conditions.specs.Words.{Word}
use Rattle.i7_conditions.specs.declared.found.Found.{Found}
use Rattle.i7_conditions.specs.declared.found.Found.TheVariants.{Read, TooMany, Unread}
use Rattle.i7_actions.specs.Nouns.{Nouns}
use Rattle.i7_actions.specs.Parts.{behind, first_part, is_name, second_part}
use Rattle.i7_actions.specs.declared.action.Action.{Action}
use Rattle.i7_actions.specs.declared.action.NounCount.{NounCount}
use Rattle.i7_actions.specs.declared.action.NounCount.TheVariants.{Zero, One, Two}
use Rattle.i7_actions.specs.declared.nouns.Nouns.{Nouns as Kept}

abbrev pub nouns_meant : Kept → Nouns
nouns_meant nouns = (object_meant nouns.noun, object_meant nouns.second)

abbrev pub found_nouns : Found Kept → Found Nouns
found_nouns (Read nouns) = Read (nouns_meant nouns)
found_nouns TooMany = TooMany
found_nouns Unread = Unread

abbrev pub pair : Object → Object → Nouns
pair noun second = (noun, second)

-- `room` or `door`, which a place beyond another begins with, perhaps behind an article
unfoldable pub is_opening : Word → Bool
is_opening word = is_spelled word (codes "room") || is_spelled word (codes "door")

abbrev pub may_open : List Word → Bool
may_open [] = false
may_open (first ∷ []) = false
may_open (first ∷ second ∷ words) = is_opening first || is_opening second

abbrev pub noun_said : Scope → List Word → Found Object
noun_said s [] = Unread
noun_said s (word ∷ words) = object_said s (word ∷ words)

abbrev pub no_noun : List Word → Found Object
no_noun [] = Read Nothing
no_noun (word ∷ words) = Unread

abbrev pub last_said : Scope → NounCount → List Word → Found Object
last_said s Zero words = Unread
last_said s One words = no_noun words
last_said s Two words = noun_said s words

abbrev pub nouns_by : Scope → NounCount → List Word → Option (List Word) → Found Nouns
nouns_by s count noun None = Unread
nouns_by s count noun (Some last) = two pair (noun_said s noun) (last_said s count last)

-- the noun is the first n words, and the rest begins with the second part
abbrev pub nouns_at : Scope → NounCount → List Word → List Word → ℕ → List Word → Found Nouns
nouns_at s count second words n rest = nouns_by s count (take n words) (behind second rest)

-- the noun has n words or more
abbrev pub nouns_from : Scope → NounCount → List Word → List Word → ℕ → List Word → Found Nouns
nouns_from s count second words n [] = nouns_at s count second words n []
nouns_from s count second words n (word ∷ rest) = or_else (nouns_at s count second words n (word ∷ rest)) (nouns_from s count second words (n + 1) rest)

abbrev pub alone_said : List Word → List Word → Found Nouns
alone_said name words = if is_name name words then Read (Nothing, Nothing) else Unread

abbrev pub nouns_behind : Scope → NounCount → List Word → Option (List Word) → Found Nouns
nouns_behind s count second None = Unread
nouns_behind s count second (Some rest) = nouns_from s count second rest 0 rest

abbrev pub nouns_of : Scope → NounCount → List Word → List Word → Found Nouns
nouns_of s Zero name words = alone_said name words
nouns_of s One name words = nouns_behind s One (second_part name) (behind (first_part name) words)
nouns_of s Two name words = nouns_behind s Two (second_part name) (behind (first_part name) words)

unfoldable pub nouns_said : Scope → Action → List Word → Found Nouns
nouns_said s a words = nouns_of s a.nouns a.name words
