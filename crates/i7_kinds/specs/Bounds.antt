-- The numbers of a tale that is small enough.
use Rattle.std.specs.Prelude.{ℕ, ◌≤◌, ⊤, Option, Some, None, List, [], ◌∷◌}
use Rattle.world_meaning.specs.declared.place.Place.{Place}
use Rattle.i7_kinds.specs.Demands.{target_of}
use Rattle.i7_kinds.specs.Knowns.{kind_of}
use Rattle.i7_kinds.specs.declared.knowns.Known.{Known}
use Rattle.i7_claims.specs.declared.statements.Numbered.{Numbered}
use Rattle.i7_claims.specs.declared.statements.Numbered.TheVariants as numbered
use Rattle.i7_claims.specs.declared.statements.NumberedSentence.{NumberedSentence}
use Rattle.i7_kinds.specs.declared.ways.Target.{Target}

-- the number of an object of a story, if there is one
abbrev pub IsSmall : Option ℕ → Type 0
IsSmall None = ⊤
IsSmall (Some number) = number ≤ 1000

abbrev pub IsSmallTarget : Option Target → Type 0
IsSmallTarget None = ⊤
IsSmallTarget (Some target) = (target.room ≤ 1000) × IsSmall target.door

-- each exit leads to an object of a story, by another
abbrev pub LeadWithin : List NumberedSentence → Type 0
LeadWithin statements = (room direction : ℕ) → IsSmallTarget (target_of statements room direction)

-- the numbers of a way and of a door are at most this
abbrev pub IsWithin : ℕ → Numbered → Type 0
IsWithin most numbered.Aside = ⊤
IsWithin most (numbered.Description text) = ⊤
IsWithin most (numbered.Describes o text) = ⊤
IsWithin most (numbered.Being o) = ⊤
IsWithin most (numbered.Way way) = (way.subject ≤ most) × (way.room ≤ most)
IsWithin most (numbered.Door d) = (d.door ≤ most) × (d.first.room ≤ most) × (d.second.room ≤ most)

-- and so of all statements
abbrev pub AreWithin : ℕ → List NumberedSentence → Type 0
AreWithin most [] = ⊤
AreWithin most (statement ∷ statements) = IsWithin most statement.said × AreWithin most statements

-- kinds are few
abbrev pub AreSmallKnowns : List Known → Type 0
AreSmallKnowns [] = ⊤
AreSmallKnowns (known ∷ knowns) = (kind_of known ≤ 100) × AreSmallKnowns knowns

abbrev pub IsSmallPlace : Option Place → Type 0
IsSmallPlace None = ⊤
IsSmallPlace (Some place) = place.holder ≤ 1000

-- what holds is an object of a story
abbrev pub AreSmallPlaces : List (Option Place) → Type 0
AreSmallPlaces [] = ⊤
AreSmallPlaces (place ∷ places) = IsSmallPlace place × AreSmallPlaces places
