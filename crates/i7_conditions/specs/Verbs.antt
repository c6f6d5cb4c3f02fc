-- What clauses without an `is` ask, by their words: `has a description`, or a verb between two objects.
use Rattle.std.specs.Prelude.{◌-◌, List, length, take, drop, if◌then◌else◌}
use Rattle.play_meaning.specs.Trees as tree
use Rattle.i7_conditions.specs.Between.{parted_said}
use Rattle.i7_conditions.specs.Clauses.{asked_of, is_a_description, spelling}
use Rattle.i7_conditions.specs.Predicates.{object_said}
use Rattle.i7_conditions.specs.Readings.{one, or_else}
use Rattle.i7_conditions.specs.Scopes.{Scope}
use Rattle.i7_conditions.specs.Words.{Word}
use Rattle.i7_conditions.specs.declared.found.Found.{Found}
use Rattle.i7_conditions.specs.declared.found.Found.TheVariants.{Unread}
use Rattle.i7_conditions.specs.declared.verb.Verb.{Verb}
use Rattle.i7_conditions.specs.declared.verb.Verb.TheVariants.{Carries, Encloses, Has, Wears}

abbrev pub verb_said : Scope → Verb → List Word → Found tree.Condition
verb_said s verb words = one (asked_of verb) (parted_said s (spelling verb) words)

-- `O has a description`, whose last three words are these
abbrev pub text_said : Scope → List Word → Found tree.Condition
text_said s words =
    if is_a_description (drop (length words - 3) words) then one tree.HasDescription (object_said s (take (length words - 3) words)) else Unread

abbrev pub from_has : Scope → List Word → Found tree.Condition
from_has s words = or_else (verb_said s Has words) (verb_said s Encloses words)

abbrev pub from_wears : Scope → List Word → Found tree.Condition
from_wears s words = or_else (verb_said s Wears words) (from_has s words)

abbrev pub from_carries : Scope → List Word → Found tree.Condition
from_carries s words = or_else (verb_said s Carries words) (from_wears s words)

unfoldable pub by_verb : Scope → List Word → Found tree.Condition
by_verb s words = or_else (text_said s words) (from_carries s words)
