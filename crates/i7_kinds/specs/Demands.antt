-- What the sentences may not say together: each refusal's line is that of the first statement that
-- shows it together with those before it.
use Rattle.std.specs.Prelude.{ℕ, Bool, true, false, not, ◌&&◌, ◌||◌, ◌==◌, List, [], ◌∷◌, ◌++◌, flat_map, find, Option, Some, None, option_map, bytes_eq, if◌then◌else◌}
use Rattle.std.specs.List.{list_any}
use Rattle.world_meaning.specs.Directions.{direction_number, opposite_of}
use Rattle.world_meaning.specs.declared.direction.Direction.{Direction}
use Rattle.world_meaning.specs.Kinds.{door_kind, room_kind}
use Rattle.i7_claims.specs.Firsts.{first_of}
use Rattle.i7_kinds.specs.Knowns.{is_of, is_parted_at}
use Rattle.i7_kinds.specs.declared.knowns.Known.{Known}
use Rattle.i7_claims.specs.Statements.{NameAt}
use Rattle.i7_kinds.specs.declared.descriptions.Description.{Description}
use Rattle.i7_claims.specs.declared.statements.Numbered.{Numbered}
use Rattle.i7_claims.specs.declared.statements.Numbered.TheVariants as numbered
use Rattle.i7_claims.specs.declared.statements.NumberedSentence.{NumberedSentence}
use Rattle.i7_claims.specs.declared.statements.NumberedSide.{NumberedSide}
use Rattle.i7_claims.specs.declared.statements.NumberedWay.{NumberedWay}
use Rattle.i7_kinds.specs.declared.ways.Lead.{Lead}
use Rattle.i7_kinds.specs.declared.ways.Target.{Target}

abbrev pub line_at : NameAt → ℕ
line_at at = at.line

-- the numbers below this are the player's and the directions'
abbrev pub first_of_author : ℕ
first_of_author = 13

-- the object that a statement is about
abbrev pub subject_of : Numbered → Option ℕ
subject_of numbered.Aside = None
subject_of (numbered.Description text) = None
subject_of (numbered.Describes o text) = None
subject_of (numbered.Being o) = Some o
subject_of (numbered.Way way) = Some way.subject
subject_of (numbered.Door door) = Some door.door

abbrev pub is_room : List (Option ℕ) → List Known → ℕ → Bool
is_room parents knowns o = is_of parents knowns room_kind o

abbrev pub is_door : List (Option ℕ) → List Known → ℕ → Bool
is_door parents knowns o = is_of parents knowns door_kind o

abbrev pub is_no_room : List (Option ℕ) → List Known → ℕ → Bool
is_no_room parents knowns o = not (is_parted_at knowns o) && not (is_room parents knowns o)

-- a text alone needs a room before it
abbrev pub is_wrong_subject : List (Option ℕ) → List Known → Option ℕ → Bool
is_wrong_subject parents knowns None = true
is_wrong_subject parents knowns (Some o) = is_no_room parents knowns o

-- a way leads between rooms
abbrev pub is_wrong_way : List (Option ℕ) → List Known → ℕ → ℕ → Bool
is_wrong_way parents knowns subject room =
    not (is_parted_at knowns subject || is_parted_at knowns room) && not (is_room parents knowns subject && is_room parents knowns room)

-- a door stands between rooms
abbrev pub is_wrong_door : List (Option ℕ) → List Known → ℕ → ℕ → ℕ → Bool
is_wrong_door parents knowns door first second =
    not (is_parted_at knowns door || (is_parted_at knowns first || is_parted_at knowns second))
    && not (is_door parents knowns door && (is_room parents knowns first && is_room parents knowns second))

-- C8: what the kinds don't allow, where they are known
abbrev pub is_wrong : List (Option ℕ) → List Known → Option ℕ → Numbered → Bool
is_wrong parents knowns before numbered.Aside = false
is_wrong parents knowns before (numbered.Description text) = is_wrong_subject parents knowns before
is_wrong parents knowns before (numbered.Describes o text) = false
is_wrong parents knowns before (numbered.Being o) = false
is_wrong parents knowns before (numbered.Way way) = is_wrong_way parents knowns way.subject way.room
is_wrong parents knowns before (numbered.Door d) = is_wrong_door parents knowns d.door d.first.room d.second.room

abbrev pub wrong_after : List (Option ℕ) → List Known → Option ℕ → List NumberedSentence → Option ℕ
wrong_after parents knowns before [] = None
wrong_after parents knowns before (statement ∷ statements) =
    if is_wrong parents knowns before statement.said then Some statement.line else wrong_after parents knowns (subject_of statement.said) statements

abbrev pub wrong_kind : List (Option ℕ) → List Known → List NumberedSentence → Option ℕ
wrong_kind parents knowns statements = wrong_after parents knowns None statements

-- a text alone describes the room that the statement before it is about, at its line
abbrev pub told_alone : List (Option ℕ) → List Known → Option ℕ → List ℕ → ℕ → List Description
told_alone parents knowns None text line = []
told_alone parents knowns (Some o) text line = if is_room parents knowns o then record { object = o; text = text; line = line } ∷ [] else []

-- what a statement says that describes an object
abbrev pub told_in : List (Option ℕ) → List Known → Option ℕ → Numbered → ℕ → List Description
told_in parents knowns before numbered.Aside line = []
told_in parents knowns before (numbered.Description text) line = told_alone parents knowns before text line
told_in parents knowns before (numbered.Describes o text) line = record { object = o; text = text; line = line } ∷ []
told_in parents knowns before (numbered.Being o) line = []
told_in parents knowns before (numbered.Way way) line = []
told_in parents knowns before (numbered.Door door) line = []

abbrev pub described_by : List (Option ℕ) → List Known → Option ℕ → NumberedSentence → List Description
described_by parents knowns before statement = told_in parents knowns before statement.said statement.line

abbrev pub described_after : List (Option ℕ) → List Known → Option ℕ → List NumberedSentence → List Description
described_after parents knowns before [] = []
described_after parents knowns before (statement ∷ statements) =
    described_by parents knowns before statement ++ described_after parents knowns (subject_of statement.said) statements

-- what describes objects, in order
abbrev pub descriptions_of : List (Option ℕ) → List Known → List NumberedSentence → List Description
descriptions_of parents knowns statements = described_after parents knowns None statements

-- an object's description: the first text that describes it
abbrev pub description_of : List Description → ℕ → Option (List ℕ)
description_of descriptions o = option_map (λ d. d.text) (find (λ d. d.object == o) descriptions)

abbrev pub says : List ℕ → Option (List ℕ) → Bool
says text None = false
says text (Some first) = bytes_eq text first

abbrev pub is_second : List Description → Description → Bool
is_second descriptions d = not (says d.text (description_of descriptions d.object))

abbrev pub line_of_description : Description → ℕ
line_of_description d = d.line

-- C9 of a text: the first that describes an object otherwise than its description
abbrev pub second_description : List Description → Option ℕ
second_description descriptions = option_map line_of_description (find (is_second descriptions) descriptions)

-- ---- ways

-- an exit, a direction out of a room, leads to a room, perhaps by a door
abbrev pub lead_to : ℕ → Direction → ℕ → Option ℕ → Lead
lead_to room direction target door = record { exit = record { room = room; direction = direction_number direction }; target = record { room = target; door = door } }

-- the subject lies in the direction of the room
abbrev pub way_there : NumberedWay → Lead
way_there way = lead_to way.room way.direction way.subject None

abbrev pub way_back : NumberedWay → Lead
way_back way = lead_to way.subject (opposite_of way.direction) way.room None

-- from one side of a door to the other
abbrev pub way_through : ℕ → NumberedSide → NumberedSide → Lead
way_through door here beyond = lead_to here.room here.direction beyond.room (Some door)

-- the ways that a statement states
abbrev pub stated_in : Numbered → List Lead
stated_in numbered.Aside = []
stated_in (numbered.Description text) = []
stated_in (numbered.Describes o text) = []
stated_in (numbered.Being o) = []
stated_in (numbered.Way way) = way_there way ∷ []
stated_in (numbered.Door d) = way_through d.door d.first d.second ∷ way_through d.door d.second d.first ∷ []

-- the ways back that it implies; a door has both its ways
abbrev pub implied_in : Numbered → List Lead
implied_in numbered.Aside = []
implied_in (numbered.Description text) = []
implied_in (numbered.Describes o text) = []
implied_in (numbered.Being o) = []
implied_in (numbered.Way way) = way_back way ∷ []
implied_in (numbered.Door d) = []

abbrev pub stated_by_one : NumberedSentence → List Lead
stated_by_one statement = stated_in statement.said

abbrev pub implied_by_one : NumberedSentence → List Lead
implied_by_one statement = implied_in statement.said

abbrev pub stated_leads : List NumberedSentence → List Lead
stated_leads statements = flat_map stated_by_one statements

abbrev pub implied_leads : List NumberedSentence → List Lead
implied_leads statements = flat_map implied_by_one statements

abbrev pub is_exit : ℕ → ℕ → Lead → Bool
is_exit room direction lead = (lead.exit.room == room) && (lead.exit.direction == direction)

abbrev pub target_led : Lead → Target
target_led lead = lead.target

-- where an exit is led first
abbrev pub first_target : List Lead → ℕ → ℕ → Option Target
first_target leads room direction = option_map target_led (find (is_exit room direction) leads)

-- where an exit leads: where a sentence says, else where the first that implies it does
abbrev pub target_of : List NumberedSentence → ℕ → ℕ → Option Target
target_of statements room direction = first_of (first_target (stated_leads statements) room direction) (first_target (implied_leads statements) room direction)

-- ---- C10: an exit's second target

abbrev pub is_same_door : Option ℕ → Option ℕ → Bool
is_same_door None None = true
is_same_door None (Some other) = false
is_same_door (Some door) None = false
is_same_door (Some door) (Some other) = door == other

abbrev pub is_target : Target → Target → Bool
is_target a b = (a.room == b.room) && is_same_door a.door b.door

abbrev pub leads_to : Target → Option Target → Bool
leads_to target None = false
leads_to target (Some first) = is_target target first

abbrev pub is_elsewhere : List Lead → Lead → Bool
is_elsewhere leads lead = not (leads_to lead.target (first_target leads lead.exit.room lead.exit.direction))

-- an exit that a statement leads has another target among these
abbrev pub leads_elsewhere : List Lead → Numbered → Bool
leads_elsewhere leads said = list_any (is_elsewhere leads) (stated_in said)

abbrev pub shows_elsewhere : List Lead → NumberedSentence → Bool
shows_elsewhere leads statement = leads_elsewhere leads statement.said

abbrev pub line_of_statement : NumberedSentence → ℕ
line_of_statement statement = statement.line

-- the first statement that leads an exit to a second target
abbrev pub second_target : List NumberedSentence → Option ℕ
second_target statements = option_map line_of_statement (find (shows_elsewhere (stated_leads statements)) statements)
