-- What is said of an object behind `is`: an adjective, a description, an object, or what holds it.
use Rattle.std.specs.Prelude.{◌≡◌, Bool, false, ◌||◌, nat_lt, List, Option, Some, None}
use Rattle.world_meaning.specs.declared.place.Rel.{Rel}
use Rattle.play_meaning.specs.Meant.{adjective_meant, description_meant, object_meant, quality_meant}
use Rattle.play_meaning.specs.Trees as tree
use Rattle.play_meaning.specs.declared.tree.object.Quality.{Quality}
use Rattle.i7_conditions.specs.Adjectives.{quality_named}
use Rattle.i7_conditions.specs.Describing.{Describes, adjectives_in, froms_in}
use Rattle.i7_conditions.specs.Descriptions.{description_said}
use Rattle.i7_conditions.specs.Marks.{marks_of}
use Rattle.i7_conditions.specs.Objects.{Means, froms}
use Rattle.i7_conditions.specs.Parts.{put_together}
use Rattle.i7_conditions.specs.Readings.{FirstOf, one, or_else}
use Rattle.i7_conditions.specs.Relations.{relation_at}
use Rattle.i7_conditions.specs.Scopes.{Scope}
use Rattle.i7_conditions.specs.Words.{Word}
use Rattle.i7_conditions.specs.declared.found.Found.{Found}
use Rattle.i7_conditions.specs.declared.found.Found.TheVariants.{Read, TooMany, Unread}
use Rattle.i7_conditions.specs.declared.predicate.Predicate.{Predicate as Kept}
use Rattle.i7_conditions.specs.declared.predicate.Predicate.TheVariants as kept

pub data Predicate : Type 0 where
  So : tree.Adjective → Predicate
  One : tree.Description → Predicate
  Same : tree.Object → Predicate
  Held : Rel → tree.Object → Predicate
  HeldByOne : Rel → tree.Description → Predicate

abbrev pub said_of : tree.Object → Predicate → tree.Condition
said_of o (So adjective) = tree.IsSo o adjective
said_of o (One description) = tree.IsOne o description
said_of o (Same other) = tree.IsSame o other
said_of o (Held relation holder) = tree.IsHeld o relation holder
said_of o (HeldByOne relation description) = tree.IsHeldByOne o relation description

-- more than 8 `from`s within one another
abbrev pub is_deep : tree.Object → Bool
is_deep o = nat_lt 8 (froms o)

-- the same, or more than 9 adjectives
abbrev pub is_long : tree.Description → Bool
is_long d = nat_lt 9 (adjectives_in d) || nat_lt 8 (froms_in d)

abbrev pub is_over : Predicate → Bool
is_over (So adjective) = false
is_over (One description) = is_long description
is_over (Same other) = is_deep other
is_over (Held relation holder) = is_deep holder
is_over (HeldByOne relation description) = is_long description

-- ---- which of them words are

-- an adjective has no article, and a `not` in front of it denies what is asked, so that of nothing it is true
abbrev pub SaysSo : Scope → List Word → Predicate → Type 0
SaysSo s words p = (q : Quality) × (quality_named s words ≡ Some q) × (p ≡ So (quality_meant q))

abbrev pub SaysOne : Scope → List Word → Predicate → Type 0
SaysOne s words p = (d : tree.Description) × Describes s words d × (p ≡ One d)

abbrev pub SaysSame : Scope → List Word → Predicate → Type 0
SaysSame s words p = (o : tree.Object) × Means s words o × (p ≡ Same o)

abbrev pub SaysHeld : Scope → List Word → Predicate → Type 0
SaysHeld s words p = (parts : Rel × List Word) × (relation_at words ≡ Some parts) × ((o : tree.Object) × Means s parts.1 o × (p ≡ Held parts.0 o))

abbrev pub SaysHeldByOne : Scope → List Word → Predicate → Type 0
SaysHeldByOne s words p = (parts : Rel × List Word) × (relation_at words ≡ Some parts) × ((d : tree.Description) × Describes s parts.1 d × (p ≡ HeldByOne parts.0 d))

abbrev pub Says : Scope → List Word → Predicate → Type 0
Says s words = FirstOf (SaysSo s words) (FirstOf (SaysOne s words) (FirstOf (SaysSame s words) (FirstOf (SaysHeld s words) (SaysHeldByOne s words))))

-- ---- by their words

abbrev pub object_said : Scope → List Word → Found tree.Object
object_said s words = put_together (marks_of s words)

abbrev pub so_by : Option Quality → Found Predicate
so_by None = Unread
so_by (Some q) = Read (So (quality_meant q))

abbrev pub held_said : Scope → Option (Rel × List Word) → Found Predicate
held_said s None = Unread
held_said s (Some parts) = one (Held parts.0) (object_said s parts.1)

abbrev pub held_by_one_said : Scope → Option (Rel × List Word) → Found Predicate
held_by_one_said s None = Unread
held_by_one_said s (Some parts) = one (HeldByOne parts.0) (description_said s parts.1)

abbrev pub from_held : Scope → Option (Rel × List Word) → Found Predicate
from_held s parts = or_else (held_said s parts) (held_by_one_said s parts)

abbrev pub from_same : Scope → List Word → Found Predicate
from_same s words = or_else (one Same (object_said s words)) (from_held s (relation_at words))

abbrev pub from_one : Scope → List Word → Found Predicate
from_one s words = or_else (one One (description_said s words)) (from_same s words)

unfoldable pub predicate_said : Scope → List Word → Found Predicate
predicate_said s words = or_else (so_by (quality_named s words)) (from_one s words)

-- ---- as they are kept

abbrev pub predicate_meant : Kept → Predicate
predicate_meant (kept.So adjective) = So (adjective_meant adjective)
predicate_meant (kept.One description) = One (description_meant description)
predicate_meant (kept.Same o) = Same (object_meant o)
predicate_meant (kept.Held relation holder) = Held relation (object_meant holder)
predicate_meant (kept.HeldByOne relation description) = HeldByOne relation (description_meant description)

abbrev pub found_predicate : Found Kept → Found Predicate
found_predicate (Read p) = Read (predicate_meant p)
found_predicate TooMany = TooMany
found_predicate Unread = Unread
