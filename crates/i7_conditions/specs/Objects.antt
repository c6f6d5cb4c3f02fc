-- Which object words mean.
use Rattle.std.specs.Prelude.{◌≡◌, ℕ, ◌+◌, ◌<◌, ◌≤◌, max, List, [], ◌∷◌, ◌++◌}
use Rattle.play_meaning.specs.Meant.{object_meant}
use Rattle.play_meaning.specs.Trees.{Object, The, Noun, SecondNoun, Location, Nothing, Turning, RoomFrom, DoorFrom}
use Rattle.play_meaning.specs.declared.tree.object.Referent.{Referent}
use Rattle.i7_conditions.specs.Marks.{marks_of}
use Rattle.i7_conditions.specs.Scopes.{Scope}
use Rattle.i7_conditions.specs.Words.{Word}
use Rattle.i7_conditions.specs.declared.found.Found.{Found}
use Rattle.i7_conditions.specs.declared.found.Found.TheVariants.{Read, TooMany, Unread}
use Rattle.i7_conditions.specs.declared.mark.Mark.{Mark}
use Rattle.i7_conditions.specs.declared.mark.Mark.TheVariants as mark

-- an object's openings and names, as words tell them: what opens, then the direction, then the room
abbrev pub told : Object → List Mark
told (The o) = mark.The o ∷ []
told Noun = mark.Noun ∷ []
told SecondNoun = mark.SecondNoun ∷ []
told Location = mark.Location ∷ []
told Nothing = mark.Nothing ∷ []
told (Turning number) = mark.Turning number ∷ []
told (RoomFrom direction room) = mark.Room ∷ told direction ++ told room
told (DoorFrom direction room) = mark.Door ∷ told direction ++ told room

-- words mean the object whose openings and names theirs are
unfoldable pub Means : Scope → List Word → Object → Type 0
Means s words o = marks_of s words ≡ told o

-- how many `from`s stand within one another
abbrev pub froms : Object → ℕ
froms (The o) = 0
froms Noun = 0
froms SecondNoun = 0
froms Location = 0
froms Nothing = 0
froms (Turning number) = 0
froms (RoomFrom direction room) = max (froms direction) (froms room) + 1
froms (DoorFrom direction room) = max (froms direction) (froms room) + 1

-- at most 8 may
abbrev pub IsObjectFound : Scope → List Word → Found Object → Type 0
IsObjectFound s words (Read o) = Means s words o × (froms o ≤ 8)
IsObjectFound s words TooMany = (o : Object) × Means s words o × (8 < froms o)
IsObjectFound s words Unread = (o : Object) → Means s words o → ⊥

abbrev pub found_meant : Found Referent → Found Object
found_meant (Read o) = Read (object_meant o)
found_meant TooMany = TooMany
found_meant Unread = Unread
