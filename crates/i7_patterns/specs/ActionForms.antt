-- What words ask of an action's nouns and of the place, by going over the words from the left.
use Rattle.std.specs.Prelude.{ℕ, Bool, List, [], ◌∷◌, take, Option, Some, None, is_some, if◌then◌else◌}
use Rattle.std.specs.Option.{option_map}
use Rattle.play_meaning.specs.Patterns.{aspect_meant}
use Rattle.play_meaning.specs.Rules.{Anything, Aspect}
use Rattle.i7_actions.specs.Parts.{behind, first_part, is_name, second_part}
use Rattle.i7_actions.specs.declared.action.Action.{Action}
use Rattle.i7_actions.specs.declared.action.NounCount.{NounCount}
use Rattle.i7_actions.specs.declared.action.NounCount.TheVariants.{Zero, One, Two}
use Rattle.i7_conditions.specs.Scopes.{Scope}
use Rattle.i7_conditions.specs.Words.{Word}
use Rattle.i7_patterns.specs.Actions.{Aspects, Nouns, is_in}
use Rattle.i7_patterns.specs.AspectForms.{noun_asked, one_asked}
use Rattle.i7_patterns.specs.Lowest.{lowest_from}
use Rattle.i7_patterns.specs.declared.aspects.Aspects.{Aspects as KeptAspects}
use Rattle.i7_patterns.specs.declared.nouns.Nouns.{Nouns as KeptNouns}

-- what is made of two that are there
abbrev pub with_both : {A B C : Type 0} → (A → B → C) → Option A → Option B → Option C
with_both make None second = None
with_both make (Some x) second = option_map (make x) second

-- ---- nouns

abbrev pub nouns_meant : KeptNouns → Nouns
nouns_meant nouns = (aspect_meant nouns.noun, aspect_meant nouns.second)

abbrev pub pair : Aspect → Aspect → Nouns
pair noun second = (noun, second)

abbrev pub omitted_or_asked : Scope → List Word → Option Aspect
omitted_or_asked s [] = Some Anything
omitted_or_asked s (word ∷ words) = noun_asked s (word ∷ words)

abbrev pub without_second : Aspect → Nouns
without_second noun = (noun, Anything)

-- nothing stands behind the one noun
abbrev pub one_noun : Scope → List Word → List Word → Option Nouns
one_noun s noun [] = option_map without_second (omitted_or_asked s noun)
one_noun s noun (word ∷ last) = None

abbrev pub two_nouns : Scope → List Word → List Word → Option Nouns
two_nouns s noun last = with_both pair (noun_asked s noun) (noun_asked s last)

abbrev pub nouns_around : Scope → NounCount → List Word → List Word → Option Nouns
nouns_around s Zero noun last = None
nouns_around s One noun last = one_noun s noun last
nouns_around s Two noun last = two_nouns s noun last

abbrev pub nouns_by : Scope → NounCount → List Word → Option (List Word) → Option Nouns
nouns_by s count noun None = None
nouns_by s count noun (Some last) = nouns_around s count noun last

-- the noun is the first n words, and the rest begins with the second part
abbrev pub nouns_at : Scope → NounCount → List Word → List Word → ℕ → List Word → Option Nouns
nouns_at s count second words n rest = nouns_by s count (take n words) (behind second rest)

abbrev pub nouns_behind : Scope → NounCount → List Word → Option (List Word) → Option Nouns
nouns_behind s count second None = None
nouns_behind s count second (Some rest) = lowest_from (nouns_at s count second rest) 0 rest

abbrev pub alone_asked : List Word → List Word → Option Nouns
alone_asked name words = if is_name name words then Some (Anything, Anything) else None

abbrev pub nouns_of : Scope → NounCount → List Word → List Word → Option Nouns
nouns_of s Zero name words = alone_asked name words
nouns_of s One name words = nouns_behind s One (second_part name) (behind (first_part name) words)
nouns_of s Two name words = nouns_behind s Two (second_part name) (behind (first_part name) words)

unfoldable pub nouns_asked : Scope → Action → List Word → Option Nouns
nouns_asked s a words = nouns_of s a.nouns a.name words

-- ---- the place

abbrev pub place_asked : Scope → List Word → Option Aspect
place_asked s [] = Some Anything
place_asked s (word ∷ words) = if is_in word then one_asked s words else None

-- ---- both

abbrev pub aspects_meant : KeptAspects → Aspects
aspects_meant x = record { nouns = nouns_meant x.nouns; place = aspect_meant x.place }

abbrev pub in_place : Aspect → Nouns → Aspects
in_place place nouns = record { nouns = nouns; place = place }

abbrev pub aspects_around : Scope → Action → List Word → List Word → Option Aspects
aspects_around s a front place = with_both in_place (one_asked s place) (nouns_asked s a front)

-- the action is the first n words, and the rest is nothing, or the place
abbrev pub aspects_at : Scope → Action → List Word → ℕ → List Word → Option Aspects
aspects_at s a words n [] = option_map (in_place Anything) (nouns_asked s a (take n words))
aspects_at s a words n (word ∷ rest) = if is_in word then aspects_around s a (take n words) rest else None

abbrev pub begins : List Word → List Word → Bool
begins part words = is_some (behind part words)

-- words that don't begin with the first part of an action's name aren't read further
unfoldable pub aspects_asked : Scope → Action → List Word → Option Aspects
aspects_asked s a words = if begins (first_part a.name) words then lowest_from (aspects_at s a words) 0 words else None
