-- Objects put together from the last mark to the first: a name is a part, and an opening takes the two parts in front.
use Rattle.std.specs.Prelude.{◌≡◌, ℕ, ◌+◌, max, nat_lt, Bool, false, true, List, [], ◌∷◌, map, reverse, Option, Some, None, if◌then◌else◌}
use Rattle.play_meaning.specs.Meant.{object_meant}
use Rattle.play_meaning.specs.Trees.{Object, The, Noun, SecondNoun, Location, Nothing, Turning, RoomFrom, DoorFrom}
use Rattle.i7_conditions.specs.declared.found.Found.{Found}
use Rattle.i7_conditions.specs.declared.found.Found.TheVariants.{Read, TooMany, Unread}
use Rattle.i7_conditions.specs.declared.mark.Mark.{Mark}
use Rattle.i7_conditions.specs.declared.mark.Mark.TheVariants as mark
use Rattle.i7_conditions.specs.declared.part.Part.{Part as Kept}
use Rattle.i7_conditions.specs.declared.part.Part.TheVariants as kept

-- an object with so many `from`s within one another, or one with more than 8
pub data Part : Type 0 where
  Built : Object → ℕ → Part
  Deep : Part

abbrev pub part_of : Kept → Part
part_of (kept.Built o froms) = Built (object_meant o) froms
part_of kept.Deep = Deep

-- the last that was put there stands first
abbrev pub stack_of : List Kept → List Part
stack_of parts = reverse (map part_of parts)

abbrev pub beyond : Bool → Object → Object → Object
beyond false direction room = RoomFrom direction room
beyond true direction room = DoorFrom direction room

abbrev pub deepened : Object → ℕ → Part
deepened o froms = if nat_lt froms 8 then Built o (froms + 1) else Deep

abbrev pub joined : Bool → Part → Part → Part
joined is_door (Built direction m) (Built room n) = deepened (beyond is_door direction room) (max m n)
joined is_door (Built direction m) Deep = Deep
joined is_door Deep second = Deep

abbrev pub on_two : Bool → List Part → Option (List Part)
on_two is_door [] = None
on_two is_door (first ∷ []) = None
on_two is_door (first ∷ second ∷ parts) = Some (joined is_door first second ∷ parts)

abbrev pub IsShort : List Part → Type 0
IsShort parts = (is_door : Bool) → on_two is_door parts ≡ None

abbrev pub leaf_of : Mark → Option Object
leaf_of mark.Room = None
leaf_of mark.Door = None
leaf_of (mark.The o) = Some (The o)
leaf_of mark.Noun = Some Noun
leaf_of mark.SecondNoun = Some SecondNoun
leaf_of mark.Location = Some Location
leaf_of mark.Nothing = Some Nothing
leaf_of (mark.Turning number) = Some (Turning number)
leaf_of mark.Unknown = None

abbrev pub with_leaf : Option Object → List Part → Option (List Part)
with_leaf None parts = None
with_leaf (Some o) parts = Some (Built o 0 ∷ parts)

abbrev pub step : Mark → List Part → Option (List Part)
step mark.Room parts = on_two false parts
step mark.Door parts = on_two true parts
step mark parts = with_leaf (leaf_of mark) parts

abbrev pub stepped : Mark → Option (List Part) → Option (List Part)
stepped mark None = None
stepped mark (Some parts) = step mark parts

-- what marks make, in front of parts
abbrev pub parts_on : Option (List Part) → List Mark → Option (List Part)
parts_on start [] = start
parts_on start (mark ∷ marks) = stepped mark (parts_on start marks)

abbrev pub found_in_part : Part → Found Object
found_in_part (Built o froms) = Read o
found_in_part Deep = TooMany

-- the one object that there is
abbrev pub the_one : List Part → Found Object
the_one [] = Unread
the_one (part ∷ []) = found_in_part part
the_one (part ∷ other ∷ parts) = Unread

abbrev pub found_in : Option (List Part) → Found Object
found_in None = Unread
found_in (Some parts) = the_one parts

unfoldable pub put_together : List Mark → Found Object
put_together marks = found_in (parts_on (Some []) marks)
