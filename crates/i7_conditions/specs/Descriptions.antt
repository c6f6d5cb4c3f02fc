-- Descriptions by their words: adjectives and a kind, then perhaps what holds the objects.
use Rattle.std.specs.Prelude.{nat_lt, List, length, map, take, drop, Option, Some, None, if◌then◌else◌}
use Rattle.world_meaning.specs.declared.place.Rel.{Rel}
use Rattle.play_meaning.specs.Meant.{adjective_meant, description_meant, object_meant}
use Rattle.play_meaning.specs.Trees as tree
use Rattle.play_meaning.specs.declared.tree.object.Description.{Description}
use Rattle.play_meaning.specs.declared.tree.object.Held.{Held}
use Rattle.i7_conditions.specs.Fronts.{front_said}
use Rattle.i7_conditions.specs.Marks.{marks_of}
use Rattle.i7_conditions.specs.Parts.{put_together}
use Rattle.i7_conditions.specs.Relations.{before_relation, relation_at}
use Rattle.i7_conditions.specs.Scopes.{Scope}
use Rattle.i7_conditions.specs.Words.{Word, without_article}
use Rattle.i7_conditions.specs.declared.found.Found.{Found}
use Rattle.i7_conditions.specs.declared.found.Found.TheVariants.{Read, TooMany, Unread}
use Rattle.i7_conditions.specs.declared.front.Front.{Front}

-- how, and by what, objects are held
abbrev pub Holding : Type 0
Holding = Rel × tree.Object

abbrev pub held_in : Option Held → Option Holding
held_in None = None
held_in (Some held) = Some (held.relation, object_meant held.holder)

abbrev pub description_of : Front → Option Holding → tree.Description
description_of front None = tree.Those (map adjective_meant front.adjectives) (Some front.kind)
description_of front (Some held) = tree.ThoseHeld (map adjective_meant front.adjectives) (Some front.kind) held.0 held.1

-- at most 9 adjectives
abbrev pub described : Front → Option Holding → Found tree.Description
described front held = if nat_lt 9 (length front.adjectives) then TooMany else Read (description_of front held)

abbrev pub with_holder : Front → Rel → Found tree.Object → Found tree.Description
with_holder front relation (Read holder) = described front (Some (relation, holder))
with_holder front relation TooMany = TooMany
with_holder front relation Unread = Unread

abbrev pub said_behind : Scope → Front → Option (Rel × List Word) → Found tree.Description
said_behind s front None = described front None
said_behind s front (Some parts) = with_holder front parts.0 (put_together (marks_of s parts.1))

abbrev pub with_front : Scope → Front → List Word → Found tree.Description
with_front s front behind = said_behind s front (relation_at behind)

abbrev pub front_and : Scope → Option Front → List Word → Found tree.Description
front_and s None behind = Unread
front_and s (Some front) behind = with_front s front behind

-- what stands in front of the first relation is adjectives and a kind, what stands behind it is an object
unfoldable pub bare_said : Scope → List Word → Found tree.Description
bare_said s words = front_and s (front_said s (take (before_relation words) words)) (drop (before_relation words) words)

-- one article in front is free
unfoldable pub description_said : Scope → List Word → Found tree.Description
description_said s words = bare_said s (without_article words)

abbrev pub found_described : Found Description → Found tree.Description
found_described (Read d) = Read (description_meant d)
found_described TooMany = TooMany
found_described Unread = Unread
