-- What phrases that change the world do, by their words: one form after the other is tried.
use Rattle.std.specs.Prelude.{ℕ, Bool, List, Option, None, Some, codes, if◌then◌else◌}
use Rattle.world_meaning.specs.declared.place.Rel.{Rel}
use Rattle.world_meaning.specs.declared.place.Rel.TheVariants.{Carried, Worn}
use Rattle.play_meaning.specs.Meant.{by_operator, simple_meant}
use Rattle.play_meaning.specs.Trees as tree
use Rattle.play_meaning.specs.declared.tree.number.Operator.{Operator}
use Rattle.play_meaning.specs.declared.tree.phrase.Simple.{Simple}
use Rattle.i7_conditions.specs.Adjectives.{adjective_named, quality_named}
use Rattle.i7_conditions.specs.Between.{parted_said}
use Rattle.i7_conditions.specs.Clauses.{split_is}
use Rattle.i7_conditions.specs.Joining.{number_said}
use Rattle.i7_conditions.specs.Predicates.{object_said}
use Rattle.i7_conditions.specs.Readings.{one, or_else, two}
use Rattle.i7_conditions.specs.Relations.{relation_at}
use Rattle.i7_conditions.specs.Scopes.{Scope}
use Rattle.i7_conditions.specs.Values.{value_said}
use Rattle.i7_conditions.specs.Words.{Word, without_article}
use Rattle.i7_conditions.specs.declared.found.Found.{Found}
use Rattle.i7_conditions.specs.declared.found.Found.TheVariants.{Read, TooMany, Unread}
use Rattle.i7_phrases.specs.CellForms.{cell_said}
use Rattle.i7_phrases.specs.Cells.{Cell, read, set}
use Rattle.i7_phrases.specs.Changes.{flag_of, given, given_so, is_nowhere, moved_so, value_of}

abbrev pub found_simple : Found Simple → Found tree.Phrase
found_simple (Read phrase) = Read (simple_meant phrase)
found_simple TooMany = TooMany
found_simple Unread = Unread

-- what is done with an object
abbrev pub made_so : ℕ × Bool → tree.Object → tree.Phrase
made_so flag o = tree.NowIs o flag.0 flag.1

abbrev pub held_so : Rel → tree.Object → tree.Object → tree.Phrase
held_so relation o holder = tree.NowHeld o relation holder

abbrev pub made_valued : ℕ × ℕ → tree.Object → tree.Phrase
made_valued value o = tree.NowValued o value.0 value.1

-- what is done with what holds a number
abbrev pub added : Operator → Cell → tree.Number → tree.Phrase
added operator cell n = set cell (by_operator operator (read cell) n)

-- ---- `now OBJECT is ..`

abbrev pub so_said : Scope → List Word → Option (ℕ × Bool) → Found tree.Phrase
so_said s subject None = Unread
so_said s subject (Some flag) = one (made_so flag) (object_said s subject)

abbrev pub put_said : Scope → List Word → Option (Rel × List Word) → Found tree.Phrase
put_said s subject None = Unread
put_said s subject (Some place) = two (held_so place.0) (object_said s subject) (object_said s place.1)

abbrev pub away_said : Scope → List Word → List Word → Found tree.Phrase
away_said s subject behind = if is_nowhere behind then one tree.NowNowhere (object_said s subject) else Unread

abbrev pub set_said : Scope → List Word → List Word → Found tree.Phrase
set_said s subject behind = two set (cell_said s subject) (number_said s behind)

abbrev pub value_given : Scope → List Word → List Word → Found tree.Phrase
value_given s subject behind = one given (value_said s subject behind)

abbrev pub valued_said : Scope → List Word → Option (ℕ × ℕ) → Found tree.Phrase
valued_said s subject None = Unread
valued_said s subject (Some value) = one (made_valued value) (object_said s subject)

-- the forms from one of the list on
unfoldable pub from_value : Scope → List Word → List Word → Found tree.Phrase
from_value s subject behind = or_else (value_given s subject behind) (valued_said s subject (value_of (quality_named s (without_article behind))))

abbrev pub from_set : Scope → List Word → List Word → Found tree.Phrase
from_set s subject behind = or_else (set_said s subject behind) (from_value s subject behind)

abbrev pub from_away : Scope → List Word → List Word → Found tree.Phrase
from_away s subject behind = or_else (away_said s subject behind) (from_set s subject behind)

abbrev pub from_put : Scope → List Word → List Word → Found tree.Phrase
from_put s subject behind = or_else (put_said s subject (relation_at behind)) (from_away s subject behind)

unfoldable pub becomes_said : Scope → List Word → List Word → Found tree.Phrase
becomes_said s subject behind = or_else (so_said s subject (flag_of (adjective_named s behind))) (from_put s subject behind)

-- ---- the others

abbrev pub becomes_in : Scope → Option (List Word × List Word) → Found tree.Phrase
becomes_in s None = Unread
becomes_in s (Some parts) = becomes_said s parts.0 parts.1

abbrev pub gives_said : Rel → List ℕ → Scope → List Word → Found tree.Phrase
gives_said relation verb s words = one (given_so relation) (parted_said s verb words)

abbrev pub from_gives : Scope → List Word → Found tree.Phrase
from_gives s words = or_else (gives_said Carried (codes "carries") s words) (gives_said Worn (codes "wears") s words)

unfoldable pub now_said : Scope → List Word → Found tree.Phrase
now_said s words = or_else (becomes_in s (split_is words)) (from_gives s words)

unfoldable pub moves_said : Scope → List Word → Found tree.Phrase
moves_said s words = one moved_so (parted_said s (codes "to") words)

unfoldable pub adds_said : Operator → Scope → List Word → List Word → Found tree.Phrase
adds_said operator s value amount = two (added operator) (cell_said s value) (number_said s amount)
