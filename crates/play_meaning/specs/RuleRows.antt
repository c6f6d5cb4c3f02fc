-- Small stories about the order of rules and what they decide.
use Rattle.std.specs.Prelude.{ℕ, pos, List, [], ◌∷◌, ◌++◌, Option, None, Some, codes, slice_set, slice_get}
use Rattle.world_meaning.specs.declared.place.Rel.TheVariants.{In}
use Rattle.play_meaning.specs.Consulting.{after_book, before_book, instead_book}
use Rattle.play_meaning.specs.Rows.{blank, bright, here, in_hall, listing, rule_of, say_and_go_on, says, with_rules}
use Rattle.play_meaning.specs.Rules.{Anything, Aspect, Exactly, InOrder, Listed, ListedFirst, ListedLast, OfKind, Rule, Unlisted}
use Rattle.play_meaning.specs.Settings.{container_kind, open_flag, openable_flag, room_kind, scenery_flag, supporter_kind, thing_kind}
use Rattle.play_meaning.specs.Sketches.{Item, Sketch}
use Rattle.play_meaning.specs.StandardActions.{jumping, putting_on, taking}
use Rattle.play_meaning.specs.StandardRules.{only, standard_rules}
use Rattle.play_meaning.specs.Trees.{Body, Equals, First, Literal, NowHeld, Quality, The, TurnCount}

abbrev pub instead_of_taking : Aspect → Body → Rule
instead_of_taking noun body = rule_of instead_book (Some taking) noun Anything None body

-- a box in the hall, and three rules instead of taking it, the most general first
unfoldable pub three_rules : Sketch
three_rules = in_hall (here container_kind (codes "box") (open_flag ∷ []) ∷ [])
    (instead_of_taking Anything (say_and_go_on (codes "One."))
    ∷ instead_of_taking (OfKind container_kind []) (say_and_go_on (codes "Two."))
    ∷ instead_of_taking (Exactly 14) (say_and_go_on (codes "Three."))
    ∷ [])

-- six rules, of which two may be listed otherwise
abbrev pub six_rules : Listed → Listed → List Rule
six_rules ash cedar =
    listing ash (rule_of instead_book None Anything Anything None (say_and_go_on (codes "ash.")))
    ∷ instead_of_taking Anything (say_and_go_on (codes "birch."))
    ∷ listing cedar (instead_of_taking (OfKind container_kind []) (say_and_go_on (codes "cedar.")))
    ∷ rule_of instead_book (Some taking) (OfKind container_kind (Quality open_flag First ∷ [])) (Exactly 13) None (say_and_go_on (codes "elm."))
    ∷ instead_of_taking (Exactly 14) (say_and_go_on (codes "fir."))
    ∷ rule_of instead_book (Some taking) (Exactly 14) Anything (Some (Equals TurnCount (Literal (pos 1)))) (say_and_go_on (codes "oak."))
    ∷ []

unfoldable pub closed_box : Sketch
closed_box = in_hall (here container_kind (codes "box") (openable_flag ∷ []) ∷ []) (six_rules InOrder InOrder)

unfoldable pub open_box : Sketch
open_box = in_hall (here container_kind (codes "box") (open_flag ∷ openable_flag ∷ []) ∷ []) (six_rules InOrder InOrder)

-- the latest listing sentence stands in front
unfoldable pub listed_first : Sketch
listed_first = in_hall (here container_kind (codes "box") (open_flag ∷ openable_flag ∷ []) ∷ []) (six_rules (ListedFirst 2) (ListedFirst 1))

unfoldable pub unlisted : Sketch
unlisted = in_hall (here container_kind (codes "box") (open_flag ∷ openable_flag ∷ []) ∷ []) (six_rules Unlisted (ListedFirst 1))

-- a statue that is scenery
abbrev pub statue : List Item
statue = bright (codes "Hall") ∷ here thing_kind (codes "statue") (scenery_flag ∷ []) ∷ []

unfoldable pub scenery_stays : Sketch
scenery_stays = with_rules statue standard_rules

-- a rule instead of an action goes before the checks of the action
unfoldable pub statue_spoken_for : Sketch
statue_spoken_for = with_rules statue (standard_rules ++ instead_of_taking (Exactly 14) (says (codes "It is at home here.")) ∷ [])

abbrev pub unlisted_at : List Rule → ℕ → Option Rule → List Rule
unlisted_at rules n None = rules
unlisted_at rules n (Some rule) = slice_set rules n (listing Unlisted rule)

-- the thirteenth standard rule, that scenery can't be taken, is not listed
unfoldable pub scenery_goes : Sketch
scenery_goes = with_rules statue (unlisted_at standard_rules 12 (slice_get standard_rules 12))

-- after taking a ball
abbrev pub after_taking : Body → Sketch
after_taking body = in_hall (here thing_kind (codes "ball") [] ∷ []) (rule_of after_book (Some taking) (Exactly 14) Anything None body ∷ [])

unfoldable pub got_it : Sketch
got_it = after_taking (says (codes "Got it."))

unfoldable pub got_it_and_goes_on : Sketch
got_it_and_goes_on = after_taking (say_and_go_on (codes "Got it."))

-- a kitchen from which a rule takes the player to a yard
abbrev pub before_jumping : ℕ → Body → Rule
before_jumping place body = rule_of before_book (Some jumping) Anything (Exactly place) None body

abbrev pub to_the_yard : Body
to_the_yard = only (NowHeld (The 0) In (The 14))

abbrev pub kitchen_and_yard : List Rule → Sketch
kitchen_and_yard rules = with_rules (bright (codes "Kitchen") ∷ bright (codes "Yard") ∷ []) (standard_rules ++ rules)

unfoldable pub left_behind : Sketch
left_behind = kitchen_and_yard (before_jumping 13 to_the_yard ∷ before_jumping 13 (says (codes "Hot.")) ∷ [])

unfoldable pub met_on_the_way : Sketch
met_on_the_way = kitchen_and_yard (before_jumping 13 to_the_yard ∷ before_jumping 14 (says (codes "Cold.")) ∷ [])

-- rules of as many aspects, the less particular first, and three that are listed
abbrev pub in_place : Aspect → Aspect → List ℕ → Rule
in_place noun place text = rule_of instead_book (Some taking) noun place None (say_and_go_on text)

unfoldable pub graded : Sketch
graded = in_hall (here container_kind (codes "box") (open_flag ∷ []) ∷ [])
    (listing (ListedLast 2) (in_place (Exactly 14) (Exactly 13) (codes "last."))
    ∷ listing (ListedLast 1) (in_place (Exactly 14) (Exactly 13) (codes "last but one."))
    ∷ in_place (OfKind thing_kind []) (OfKind room_kind []) (codes "thing.")
    ∷ in_place (OfKind container_kind []) (OfKind room_kind []) (codes "container.")
    ∷ in_place (OfKind container_kind (Quality open_flag First ∷ [])) (OfKind room_kind []) (codes "open container.")
    ∷ in_place (OfKind container_kind (Quality open_flag First ∷ [])) (Exactly 13) (codes "here.")
    ∷ in_place (Exactly 14) (OfKind room_kind []) (codes "box.")
    ∷ listing (ListedFirst 3) (in_place Anything Anything (codes "first."))
    ∷ [])

-- rules about two nouns: the first noun's grade goes before the second's
abbrev pub instead_of_putting : Aspect → Aspect → List ℕ → Rule
instead_of_putting noun second text = record (rule_of instead_book (Some putting_on) noun Anything None (say_and_go_on text)) { second = second }

unfoldable pub two_nouns : Sketch
two_nouns = in_hall (here thing_kind (codes "ball") [] ∷ here supporter_kind (codes "table") [] ∷ [])
    (instead_of_putting (OfKind thing_kind []) (Exactly 15) (codes "on the table.")
    ∷ instead_of_putting (OfKind thing_kind []) (OfKind supporter_kind []) (codes "on a supporter.")
    ∷ instead_of_putting (Exactly 14) (OfKind thing_kind []) (codes "the ball.")
    ∷ [])

-- ---- what is shown

unfoldable pub three_rules_shown : List (List ℕ)
three_rules_shown =
    codes "Hall" ∷ codes "You can see a box here." ∷ blank
    ∷ codes ">take box" ∷ codes "Three." ∷ codes "Two." ∷ codes "One." ∷ codes "Taken." ∷ blank ∷ codes ">" ∷ []

unfoldable pub closed_box_shown : List (List ℕ)
closed_box_shown =
    codes "ash." ∷ codes "Hall" ∷ codes "You can see a box here." ∷ blank
    ∷ codes ">take box" ∷ codes "oak." ∷ codes "fir." ∷ codes "cedar." ∷ codes "birch." ∷ codes "ash." ∷ codes "Taken." ∷ blank ∷ codes ">" ∷ []

unfoldable pub open_box_shown : List (List ℕ)
open_box_shown =
    codes "ash." ∷ codes "Hall" ∷ codes "You can see a box here." ∷ blank
    ∷ codes ">take box" ∷ codes "oak." ∷ codes "elm." ∷ codes "fir." ∷ codes "cedar." ∷ codes "birch." ∷ codes "ash." ∷ codes "Taken." ∷ blank
    ∷ codes ">" ∷ []

unfoldable pub listed_first_shown : List (List ℕ)
listed_first_shown =
    codes "ash." ∷ codes "Hall" ∷ codes "You can see a box here." ∷ blank
    ∷ codes ">take box" ∷ codes "ash." ∷ codes "cedar." ∷ codes "oak." ∷ codes "elm." ∷ codes "fir." ∷ codes "birch." ∷ codes "Taken." ∷ blank
    ∷ codes ">" ∷ []

unfoldable pub unlisted_shown : List (List ℕ)
unlisted_shown =
    codes "Hall" ∷ codes "You can see a box here." ∷ blank
    ∷ codes ">take box" ∷ codes "cedar." ∷ codes "oak." ∷ codes "elm." ∷ codes "fir." ∷ codes "birch." ∷ codes "Taken." ∷ blank ∷ codes ">" ∷ []

unfoldable pub graded_shown : List (List ℕ)
graded_shown =
    codes "Hall" ∷ codes "You can see a box here." ∷ blank
    ∷ codes ">take box" ∷ codes "first." ∷ codes "box." ∷ codes "here." ∷ codes "open container." ∷ codes "container." ∷ codes "thing."
    ∷ codes "last but one." ∷ codes "last." ∷ codes "Taken." ∷ blank ∷ codes ">" ∷ []

unfoldable pub two_nouns_shown : List (List ℕ)
two_nouns_shown =
    codes "Hall" ∷ codes "You can see a ball and a table here." ∷ blank
    ∷ codes ">put ball on table" ∷ codes "(first taking the ball)" ∷ codes "the ball." ∷ codes "on the table." ∷ codes "on a supporter."
    ∷ codes "You put the ball on the table." ∷ blank ∷ codes ">" ∷ []

unfoldable pub statue_spoken_for_shown : List (List ℕ)
statue_spoken_for_shown =
    codes "Hall" ∷ blank
    ∷ codes ">take statue" ∷ codes "It is at home here." ∷ blank ∷ codes ">" ∷ []

unfoldable pub scenery_stays_shown : List (List ℕ)
scenery_stays_shown =
    codes "Hall" ∷ blank
    ∷ codes ">take statue" ∷ codes "That is hardly portable." ∷ blank ∷ codes ">" ∷ []

unfoldable pub scenery_goes_shown : List (List ℕ)
scenery_goes_shown =
    codes "Hall" ∷ blank
    ∷ codes ">take statue" ∷ codes "Taken." ∷ blank ∷ codes ">" ∷ []

unfoldable pub got_it_shown : List (List ℕ)
got_it_shown =
    codes "Hall" ∷ codes "You can see a ball here." ∷ blank
    ∷ codes ">take ball" ∷ codes "Got it." ∷ blank ∷ codes ">" ∷ []

unfoldable pub got_it_and_goes_on_shown : List (List ℕ)
got_it_and_goes_on_shown =
    codes "Hall" ∷ codes "You can see a ball here." ∷ blank
    ∷ codes ">take ball" ∷ codes "Got it." ∷ codes "Taken." ∷ blank ∷ codes ">" ∷ []

unfoldable pub left_behind_shown : List (List ℕ)
left_behind_shown =
    codes "Kitchen" ∷ blank
    ∷ codes ">jump" ∷ codes "You jump on the spot." ∷ blank
    ∷ codes ">look" ∷ codes "Yard" ∷ blank ∷ codes ">" ∷ []

unfoldable pub met_on_the_way_shown : List (List ℕ)
met_on_the_way_shown =
    codes "Kitchen" ∷ blank
    ∷ codes ">jump" ∷ codes "Cold." ∷ codes "You jump on the spot." ∷ blank ∷ codes ">" ∷ []
