-- Small stories about rooms, doors, light and what the player does with things.
use Rattle.std.specs.Prelude.{ℕ, List, [], ◌∷◌, Option, None, Some, codes}
use Rattle.world_meaning.specs.declared.article.Article.TheVariants as article
use Rattle.world_meaning.specs.declared.place.Place.{Place}
use Rattle.world_meaning.specs.declared.place.Rel.TheVariants.{In, Carried, Part}
use Rattle.play_meaning.specs.Rows.{at, blank, bright, here, in_hall, item, with_rules}
use Rattle.play_meaning.specs.Settings.{container_kind, described_flag, device_kind, door_kind, fixed_in_place_flag, lit_flag, open_flag, openable_flag, person_kind, room_kind, supporter_kind, thing_kind, transparent_flag, wearable_flag}
use Rattle.play_meaning.specs.Sketches.{Exit, Item, Sketch}
use Rattle.play_meaning.specs.StandardRules.{plain, standard_rules}

abbrev pub leads : ℕ → ℕ → ℕ → Option ℕ → Exit
leads from direction to door = record { from = from; direction = direction; to = to; door = door }

-- a garden north of a hall that is described
unfoldable pub hall_and_garden : Sketch
hall_and_garden = record (with_rules (record (bright (codes "Hall")) { description = Some (plain (codes "A bare hall.")) } ∷ bright (codes "Garden") ∷ []) standard_rules) {
  exits = leads 13 1 14 None ∷ leads 14 4 13 None ∷ [];
}

-- a yard behind a gate, which a knob is part of
abbrev pub behind_gate : List ℕ → Sketch
behind_gate flags = record (with_rules
    (bright (codes "Hall") ∷ bright (codes "Yard") ∷ item door_kind (codes "gate") article.A None (openable_flag ∷ fixed_in_place_flag ∷ described_flag ∷ flags)
    ∷ here thing_kind (codes "ball") [] ∷ item thing_kind (codes "knob") article.A (at Part 15) (described_flag ∷ []) ∷ []) standard_rules) {
      exits = leads 13 1 14 (Some 15) ∷ leads 14 4 13 (Some 15) ∷ [];
    }

unfoldable pub closed_gate : Sketch
closed_gate = behind_gate []

-- ---- light

abbrev pub in_cave : List Item → Sketch
in_cave items = with_rules (item room_kind (codes "Cave") article.A None [] ∷ items) standard_rules

abbrev pub lit_in : Place → List ℕ → Item
lit_in place name = item thing_kind name article.A (Some place) (lit_flag ∷ described_flag ∷ [])

abbrev pub by_relation : ℕ → Place
by_relation holder = record { relation = In; holder = holder }

unfoldable pub dark_cave : Sketch
dark_cave = in_cave (here thing_kind (codes "ball") [] ∷ [])

unfoldable pub lamp_here : Sketch
lamp_here = in_cave (here thing_kind (codes "lamp") (lit_flag ∷ []) ∷ [])

-- a lamp in number 15, which may let light through
abbrev pub lamp_within : List Item → Sketch
lamp_within items = in_cave (lit_in (by_relation 15) (codes "lamp") ∷ items)

unfoldable pub lamp_in_closed_box : Sketch
lamp_in_closed_box = lamp_within (here container_kind (codes "box") [] ∷ [])

unfoldable pub lamp_in_jar : Sketch
lamp_in_jar = lamp_within (here container_kind (codes "jar") (transparent_flag ∷ []) ∷ [])

unfoldable pub open_box_in_closed_sack : Sketch
open_box_in_closed_sack = lamp_within (item container_kind (codes "box") article.A (at In 16) (open_flag ∷ described_flag ∷ []) ∷ here container_kind (codes "sack") [] ∷ [])

unfoldable pub jar_in_tank : Sketch
jar_in_tank = lamp_within (item container_kind (codes "jar") article.A (at In 16) (transparent_flag ∷ described_flag ∷ []) ∷ here container_kind (codes "tank") (transparent_flag ∷ []) ∷ [])

unfoldable pub bulb_of_closed_box : Sketch
bulb_of_closed_box = in_cave (item thing_kind (codes "bulb") article.A (at Part 15) (lit_flag ∷ described_flag ∷ []) ∷ here container_kind (codes "box") [] ∷ [])

unfoldable pub lamp_of_bob : Sketch
lamp_of_bob = in_cave (item person_kind (codes "Bob") article.None (at In 13) (described_flag ∷ []) ∷ item thing_kind (codes "lamp") article.A (at Carried 14) (lit_flag ∷ described_flag ∷ []) ∷ [])

-- ---- things

-- a hat, a table, a box, a ball, a lamp to switch on, and sand
unfoldable pub many_things : Sketch
many_things = in_hall
    (here thing_kind (codes "hat") (wearable_flag ∷ []) ∷ here supporter_kind (codes "table") (fixed_in_place_flag ∷ []) ∷ here container_kind (codes "box") (open_flag ∷ [])
    ∷ here thing_kind (codes "ball") [] ∷ here device_kind (codes "lamp") [] ∷ record (here thing_kind (codes "sand") []) { article = article.Some } ∷ [])
    []

-- ---- what is shown

unfoldable pub hall_and_garden_shown : List (List ℕ)
hall_and_garden_shown =
    codes "Hall" ∷ codes "A bare hall." ∷ blank
    ∷ codes ">n" ∷ codes "Garden" ∷ blank
    ∷ codes ">look" ∷ codes "Garden" ∷ blank
    ∷ codes ">s" ∷ codes "Hall" ∷ codes "A bare hall." ∷ blank ∷ codes ">" ∷ []

unfoldable pub hall_and_garden_nowhere_shown : List (List ℕ)
hall_and_garden_nowhere_shown =
    codes "Hall" ∷ codes "A bare hall." ∷ blank
    ∷ codes ">e" ∷ codes "You can't go that way." ∷ blank
    ∷ codes ">go lamp" ∷ codes "You can't see any such thing." ∷ blank
    ∷ codes ">go" ∷ codes "I didn't understand that sentence." ∷ blank
    ∷ codes ">xyzzy" ∷ codes "I don't know that verb." ∷ blank
    ∷ codes ">" ∷ codes "I beg your pardon?" ∷ blank
    ∷ codes ">quit" ∷ blank ∷ []

unfoldable pub closed_gate_shown : List (List ℕ)
closed_gate_shown =
    codes "Hall" ∷ codes "You can see a ball here." ∷ blank
    ∷ codes ">n" ∷ codes "The gate is closed." ∷ blank ∷ codes ">" ∷ []

unfoldable pub closed_gate_opened_shown : List (List ℕ)
closed_gate_opened_shown =
    codes "Hall" ∷ codes "You can see a ball here." ∷ blank
    ∷ codes ">open gate" ∷ codes "You open the gate." ∷ blank
    ∷ codes ">n" ∷ codes "Yard" ∷ blank
    ∷ codes ">s" ∷ codes "Hall" ∷ codes "You can see a ball here." ∷ blank
    ∷ codes ">take knob" ∷ codes "You can't see any such thing." ∷ blank ∷ codes ">" ∷ []

unfoldable pub dark_cave_shown : List (List ℕ)
dark_cave_shown =
    codes "Darkness" ∷ codes "It is pitch dark, and you can't see a thing." ∷ blank
    ∷ codes ">look" ∷ codes "Darkness" ∷ codes "It is pitch dark, and you can't see a thing." ∷ blank ∷ codes ">" ∷ []

unfoldable pub lamp_here_shown : List (List ℕ)
lamp_here_shown =
    codes "Cave" ∷ codes "You can see a lamp here." ∷ blank ∷ codes ">" ∷ []

unfoldable pub lamp_in_closed_box_shown : List (List ℕ)
lamp_in_closed_box_shown =
    codes "Darkness" ∷ codes "It is pitch dark, and you can't see a thing." ∷ blank ∷ codes ">" ∷ []

unfoldable pub lamp_in_jar_shown : List (List ℕ)
lamp_in_jar_shown =
    codes "Cave" ∷ codes "You can see a jar here." ∷ blank ∷ codes ">" ∷ []

unfoldable pub open_box_in_closed_sack_shown : List (List ℕ)
open_box_in_closed_sack_shown =
    codes "Darkness" ∷ codes "It is pitch dark, and you can't see a thing." ∷ blank ∷ codes ">" ∷ []

unfoldable pub jar_in_tank_shown : List (List ℕ)
jar_in_tank_shown =
    codes "Cave" ∷ codes "You can see a tank here." ∷ blank ∷ codes ">" ∷ []

unfoldable pub bulb_of_closed_box_shown : List (List ℕ)
bulb_of_closed_box_shown =
    codes "Cave" ∷ codes "You can see a box here." ∷ blank ∷ codes ">" ∷ []

unfoldable pub lamp_of_bob_shown : List (List ℕ)
lamp_of_bob_shown =
    codes "Cave" ∷ codes "You can see Bob here." ∷ blank ∷ codes ">" ∷ []

unfoldable pub many_things_shown : List (List ℕ)
many_things_shown =
    codes "Hall" ∷ codes "You can see a hat, a table, a box, a ball, a lamp and some sand here." ∷ blank
    ∷ codes ">wear hat" ∷ codes "(first taking the hat)" ∷ codes "You put on the hat." ∷ blank
    ∷ codes ">i" ∷ codes "You are carrying nothing." ∷ codes "You are wearing a hat." ∷ blank
    ∷ codes ">take off hat" ∷ codes "You take off the hat." ∷ blank
    ∷ codes ">put hat on table" ∷ codes "You put the hat on the table." ∷ blank
    ∷ codes ">x table" ∷ codes "You see nothing special about the table." ∷ codes "On the table is a hat." ∷ blank ∷ codes ">" ∷ []

unfoldable pub many_things_put_shown : List (List ℕ)
many_things_put_shown =
    codes "Hall" ∷ codes "You can see a hat, a table, a box, a ball, a lamp and some sand here." ∷ blank
    ∷ codes ">insert ball into box" ∷ codes "(first taking the ball)" ∷ codes "You put the ball into the box." ∷ blank
    ∷ codes ">drop ball" ∷ codes "You don't have that." ∷ blank
    ∷ codes ">open box" ∷ codes "You can't open that." ∷ blank
    ∷ codes ">take table" ∷ codes "That is fixed in place." ∷ blank
    ∷ codes ">take me" ∷ codes "You can't take yourself." ∷ blank ∷ codes ">" ∷ []

unfoldable pub many_things_switched_shown : List (List ℕ)
many_things_switched_shown =
    codes "Hall" ∷ codes "You can see a hat, a table, a box, a ball, a lamp and some sand here." ∷ blank
    ∷ codes ">switch on lamp" ∷ codes "You switch the lamp on." ∷ blank
    ∷ codes ">x lamp" ∷ codes "You see nothing special about the lamp." ∷ codes "The lamp is switched on." ∷ blank
    ∷ codes ">turn off lamp" ∷ codes "You switch the lamp off." ∷ blank
    ∷ codes ">turn off lamp" ∷ codes "That is already off." ∷ blank
    ∷ codes ">drop sand" ∷ codes "You don't have that." ∷ blank ∷ codes ">" ∷ []
