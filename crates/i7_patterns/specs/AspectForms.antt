-- What words ask of a noun, or of the place, by their words.
use Rattle.std.specs.Prelude.{List, Option, Some, None, map, if◌then◌else◌}
use Rattle.std.specs.List.{list_all}
use Rattle.std.specs.Option.{option_or}
use Rattle.play_meaning.specs.Meant.{adjective_meant}
use Rattle.play_meaning.specs.Rules.{Anything, Aspect, Exactly, OfKind}
use Rattle.play_meaning.specs.Trees.{Object, The}
use Rattle.i7_actions.specs.NounForms.{noun_said}
use Rattle.i7_conditions.specs.Fronts.{front_said}
use Rattle.i7_conditions.specs.Scopes.{Scope}
use Rattle.i7_conditions.specs.Words.{Word, without_article}
use Rattle.i7_conditions.specs.declared.found.Found.{Found}
use Rattle.i7_conditions.specs.declared.found.Found.TheVariants.{Read, TooMany, Unread}
use Rattle.i7_conditions.specs.declared.front.Front.{Front}
use Rattle.i7_patterns.specs.Aspects.{is_own, is_something}

-- ---- objects

abbrev pub exactly : Object → Option Aspect
exactly (The o) = Some (Exactly o)
exactly _ = None

abbrev pub object_asked : Found Object → Option Aspect
object_asked (Read o) = exactly o
object_asked TooMany = None
object_asked Unread = None

-- ---- descriptions

abbrev pub with_kind : Front → Aspect
with_kind front = OfKind front.kind (map adjective_meant front.adjectives)

abbrev pub kind_asked : Option Front → Option Aspect
kind_asked None = None
kind_asked (Some front) = if list_all is_own front.adjectives then Some (with_kind front) else None

-- ---- both

abbrev pub one_asked : Scope → List Word → Option Aspect
one_asked s words = option_or (object_asked (noun_said s words)) (kind_asked (front_said s (without_article words)))

abbrev pub nothing_asked : List Word → Option Aspect
nothing_asked words = if is_something words then Some Anything else None

abbrev pub noun_asked : Scope → List Word → Option Aspect
noun_asked s words = option_or (nothing_asked words) (one_asked s words)
