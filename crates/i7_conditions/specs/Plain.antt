-- Objects that words name without `from`.
use Rattle.std.specs.Prelude.{ℕ, ◌+◌, nat_lt, List, [], ◌∷◌, length, Option, Some, None, codes, if◌then◌else◌}
use Rattle.std.specs.Option.{option_or}
use Rattle.world_meaning.specs.Spelling.{is_spelled}
use Rattle.i7_conditions.specs.Scopes.{Scope}
use Rattle.i7_conditions.specs.Words.{Word, key_of, without_article}
use Rattle.i7_conditions.specs.declared.mark.Mark.{Mark}
use Rattle.i7_conditions.specs.declared.mark.Mark.TheVariants.{The, Noun, SecondNoun, Location, Nothing, Turning}
use Rattle.i7_conditions.specs.declared.meaning.Meaning.{Meaning}
use Rattle.i7_conditions.specs.declared.meaning.Meaning.TheVariants as meaning

-- an object by its number
abbrev pub in_meaning : Meaning → Option Mark
in_meaning (meaning.Object o) = Some (The o)
in_meaning _ = None

abbrev pub in_meanings : Option Meaning → Option Mark
in_meanings None = None
in_meanings (Some meaning) = in_meaning meaning

-- what no source can declare
abbrev pub fixed : List ℕ → Option Mark
fixed key =
    if is_spelled key (codes "player") then Some (The 0)
    else (if is_spelled key (codes "noun") then Some Noun
    else (if is_spelled key (codes "second noun") then Some SecondNoun
    else (if is_spelled key (codes "location") then Some Location
    else (if is_spelled key (codes "nothing") then Some Nothing else None))))

-- the innermost of the repeats, the first having this number, that gives its object this name
abbrev pub turning : ℕ → List (List ℕ) → List ℕ → Option Mark
turning number [] key = None
turning number (name ∷ names) key = option_or (turning (number + 1) names key) (if is_spelled name key then Some (Turning number) else None)

-- a tale's object, else a fixed word, else the object of a repeat
abbrev pub known_as : Scope → List ℕ → Option Mark
known_as s key = option_or (in_meanings (s.meanings key)) (option_or (fixed key) (turning 0 s.repeats key))

-- a name has at most 32 words
abbrev pub of_words : Scope → List Word → Option Mark
of_words s words = if nat_lt 32 (length words) then None else known_as s (key_of words)

-- the object that words name, one article in front being free
unfoldable pub plainly_named : Scope → List Word → Option Mark
plainly_named s words = of_words s (without_article words)
