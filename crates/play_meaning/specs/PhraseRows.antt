-- What phrases do in a furnished hall and in a pantry.
use Rattle.std.specs.Prelude.{List, None, Ok, Some, [], codes, false, neg_ℤ, pos, true, ℕ, ◌∷◌, ◌≡◌}
use Rattle.play_meaning.specs.Attempts.{Attempt, next}
use Rattle.world_meaning.specs.declared.article.Article.TheVariants as article
use Rattle.world_meaning.specs.declared.place.Rel.{Rel}
use Rattle.world_meaning.specs.declared.place.Rel.TheVariants.{In, On, Carried, Worn, Part}
use Rattle.play_meaning.specs.Acting.{top}
use Rattle.play_meaning.specs.Codes.{body_done}
use Rattle.play_meaning.specs.Doing.{do_body}
use Rattle.play_meaning.specs.Progress.{Done, fresh}
use Rattle.play_meaning.specs.Rows.{at, bright, here, item, with_rules}
use Rattle.play_meaning.specs.Scripts.{scope_of, telling_of}
use Rattle.play_meaning.specs.Settings.{container_kind, described_flag, fixed_in_place_flag, lit_flag, man_kind, open_flag, openable_flag, person_kind, room_kind, supporter_kind, thing_kind, wearable_flag}
use Rattle.play_meaning.specs.Sketches.{Item, Sketch, game_of_sketch, script_of, start_in}
use Rattle.play_meaning.specs.StandardActions.{dropping, taking}
use Rattle.play_meaning.specs.StandardRules.{line, only, plain, standard_rules, the_player}
use Rattle.play_meaning.specs.Translation.{translated}
use Rattle.play_meaning.specs.Trees.{And, Body, Bytes, CapitalDefinite, CapitalIndefinite, Condition, CountOf, Definite, Description, DescriptionOf, Encloses, End, Equals, Figure, First, Has, If, IfSaid, Indefinite, Instead, IsAtMost, IsHeld, IsHeldByOne, IsLess, IsOne, IsSame, IsSo, Leave, Listing, Literal, Location, Minus, Move, Name, Naming, Not, Nothing, Noun, NowHeld, NowIs, NowNowhere, NowNumber, Number, Object, Or, Phrase, Plain, Plus, PropertyOf, Quality, Repeat, RoomFrom, Say, Second, SecondNoun, Silence, Text, The, Then, Those, ThoseHeld, Times, Touchable, Try, TurnCount, Turning, Variable, Visible}
use Rattle.play_meaning.specs.Turns.{no_action}
use Rattle.play_meaning.specs.declared.outcome.Flow.{Flow}
use Rattle.play_meaning.specs.declared.outcome.Flow.TheVariants.{NoDecision, Decides}
use Rattle.play_meaning.specs.declared.outcome.Outcome.TheVariants.{Success, Failure}

-- ---- the hall and the pantry

abbrev pub thing_at : List ℕ → Rel → ℕ → Item
thing_at name relation holder = item thing_kind name article.A (at relation holder) (described_flag ∷ [])

abbrev pub coat_at : List ℕ → ℕ → Item
coat_at name holder = item thing_kind name article.A (at Worn holder) (wearable_flag ∷ described_flag ∷ [])

abbrev pub bob : Item
bob = item man_kind (codes "Bob") article.None (at In 13) (described_flag ∷ [])

-- 13 the hall, 14 a closed box with a ball, 16 a desk with a cup and a knob, 18 Bob with a coin and a hat, 21 a lamp
-- and 22 a coat of the player's, 24 a yard to the north with a rock; a score and a level of 5; weights
unfoldable pub furnished_hall : Sketch
furnished_hall = record (with_rules
    (bright (codes "Hall") ∷ here container_kind (codes "box") (openable_flag ∷ []) ∷ thing_at (codes "ball") In 14
    ∷ here supporter_kind (codes "desk") (fixed_in_place_flag ∷ []) ∷ thing_at (codes "cup") On 16 ∷ bob ∷ thing_at (codes "coin") Carried 18 ∷ coat_at (codes "hat") 18
    ∷ thing_at (codes "lamp") Carried 0 ∷ coat_at (codes "coat") 0 ∷ thing_at (codes "knob") Part 16 ∷ bright (codes "Yard") ∷ thing_at (codes "rock") In 24 ∷ [])
    standard_rules) {
      exits = record { from = 13; direction = 1; to = 24; door = None } ∷ record { from = 24; direction = 4; to = 13; door = None } ∷ [];
      variables = pos 0 ∷ pos 5 ∷ [];
      numbers = (thing_kind ∷ []) ∷ [];
    }

abbrev pub saying : List ℕ → Item → Item
saying text described = record described { description = Some (plain text) }

-- things of each article in a hall, some of them described
unfoldable pub pantry : Sketch
pantry = with_rules
    (bright (codes "Hall") ∷ saying (codes "Round.") (here thing_kind (codes "ball") []) ∷ saying (codes "Big") (record (here thing_kind (codes "apple") []) { article = article.An })
    ∷ record (here thing_kind (codes "sand") []) { article = article.Some } ∷ bob
    ∷ here thing_kind (codes "lamp") (lit_flag ∷ []) ∷ here container_kind (codes "box") (open_flag ∷ []) ∷ [])
    standard_rules

-- ---- what is said

-- `y` or `n` for each condition
abbrev pub answers : List Condition → Text
answers [] = Silence
answers (condition ∷ []) = IfSaid condition (plain (codes "y")) (plain (codes "n")) Silence
answers (condition ∷ next ∷ more) = IfSaid condition (plain (codes "y")) (plain (codes "n")) (Bytes (codes " ") (answers (next ∷ more)))

abbrev pub things_there : Rel → Object → Text → Text
things_there relation holder more = Listing Plain (ThoseHeld [] (Some thing_kind) relation holder) more

abbrev pub then_things : Rel → Object → Text → Text
then_things relation holder more = Bytes (codes "; ") (things_there relation holder more)

-- the things in the hall, in the box, of Bob, of the player, of the desk
abbrev pub everywhere : Text
everywhere =
    things_there In (The 13) (then_things In (The 14) (then_things Carried (The 18) (then_things Worn (The 18)
    (then_things Carried (The 0) (then_things Part (The 16) (then_things On (The 16) Silence))))))

abbrev pub LeavesOff : Attempt Done → List ℕ → Flow → Type 0
LeavesOff attempt text flow = next {B = List ℕ × Flow} attempt (λ done. Ok (done.progress.text, done.flow)) ≡ Ok (text, flow)

-- in a story a body says this and leaves off so, told by its tree and by the run of its code
abbrev pub does : Body → List ℕ → Flow → Sketch → Type 0
does body text flow k =
    LeavesOff (do_body (telling_of (script_of k)) (top (game_of_sketch k)) body (scope_of no_action) (fresh (start_in k))) text flow
    × LeavesOff (body_done (translated body) (telling_of (script_of k)) (top (game_of_sketch k)) 0 no_action (fresh (start_in k))) text flow

-- ---- words of the bodies

abbrev pub to_the_north : Object
to_the_north = The 1

abbrev pub upwards : Object
upwards = The 9

abbrev pub the_hall : Object
the_hall = The 13

abbrev pub the_box : Object
the_box = The 14

abbrev pub the_ball : Object
the_ball = The 15

abbrev pub the_desk : Object
the_desk = The 16

abbrev pub the_cup : Object
the_cup = The 17

abbrev pub bob_himself : Object
bob_himself = The 18

abbrev pub the_coin : Object
the_coin = The 19

abbrev pub the_hat : Object
the_hat = The 20

abbrev pub the_lamp : Object
the_lamp = The 21

abbrev pub the_coat : Object
the_coat = The 22

abbrev pub the_knob : Object
the_knob = The 23

abbrev pub the_yard : Object
the_yard = The 24

abbrev pub the_rock : Object
the_rock = The 25

abbrev pub things_here : Description
things_here = ThoseHeld [] (Some thing_kind) In the_hall

abbrev pub body : List Phrase → Body
body [] = End
body (phrase ∷ phrases) = Then phrase (body phrases)

-- numbers, parted by blanks
abbrev pub figures : List Number → Text
figures [] = Silence
figures (number ∷ []) = Figure number Silence
figures (number ∷ next ∷ more) = Figure number (Bytes (codes " ") (figures (next ∷ more)))

-- an object named in each of these ways
abbrev pub namings : Object → List Naming → Text
namings o [] = Silence
namings o (naming ∷ []) = Name naming o Silence
namings o (naming ∷ next ∷ more) = Name naming o (Bytes (codes " ") (namings o (next ∷ more)))

abbrev pub literal : ℕ → Number
literal n = Literal (pos n)

abbrev pub below_zero : ℕ → Number
below_zero n = Literal (neg_ℤ (pos n))

abbrev pub score : Number
score = Variable 0

abbrev pub level : Number
level = Variable 1

abbrev pub five_ways : List Naming
five_ways = Plain ∷ Definite ∷ CapitalDefinite ∷ Indefinite ∷ CapitalIndefinite ∷ []

-- `y` or `n` for each condition is said
abbrev pub asked : List Condition → Body
asked conditions = only (Say (answers conditions))

-- ---- bodies

unfoldable pub of_nothing : Body
of_nothing = asked
    (IsSo Noun (Quality open_flag First) ∷ IsSo Noun (Quality open_flag Second) ∷ Not (IsSo Nothing (Quality open_flag First))
    ∷ IsSo Nothing (Quality lit_flag First) ∷ Not (IsSo SecondNoun (Quality lit_flag First)) ∷ IsSo Nothing Visible ∷ Not (IsSo Nothing Visible) ∷ [])

unfoldable pub descriptions : Body
descriptions = asked
    (IsOne the_box (Those (Quality open_flag Second ∷ []) (Some container_kind))
    ∷ IsOne the_box (Those (Quality open_flag First ∷ []) (Some container_kind))
    ∷ IsOne the_box (Those (Quality open_flag Second ∷ Quality lit_flag Second ∷ []) (Some thing_kind))
    ∷ IsOne the_ball (Those (Quality open_flag Second ∷ []) (Some container_kind))
    ∷ IsOne the_box (Those (Quality open_flag Second ∷ []) (Some supporter_kind))
    ∷ IsOne the_hat (Those (Quality wearable_flag First ∷ Quality fixed_in_place_flag Second ∷ []) (Some thing_kind)) ∷ [])

unfoldable pub not_held : Body
not_held = asked
    (Not (IsHeld the_ball In the_box) ∷ Not (IsHeld the_ball In the_hall) ∷ Not (IsHeld the_coat Worn the_player) ∷ Not (IsHeld the_knob Part the_box)
    ∷ Not (IsHeld Nothing In the_hall) ∷ [])

unfoldable pub held_by_one : Body
held_by_one = asked
    (IsHeldByOne the_ball In (Those (Quality open_flag Second ∷ []) (Some container_kind))
    ∷ IsHeldByOne the_ball In (Those (Quality open_flag First ∷ []) (Some container_kind)) ∷ IsHeldByOne the_ball In (Those [] (Some thing_kind))
    ∷ IsHeldByOne the_rock In (Those [] (Some thing_kind)) ∷ IsHeldByOne the_rock In (Those [] (Some room_kind))
    ∷ IsHeldByOne the_cup On (Those [] (Some supporter_kind)) ∷ IsHeldByOne the_coin Carried (Those [] (Some man_kind))
    ∷ IsHeldByOne the_coin Worn (Those [] (Some man_kind)) ∷ IsHeldByOne the_knob Part (ThoseHeld [] (Some supporter_kind) In the_hall)
    ∷ Not (IsHeldByOne the_cup On (Those (Quality lit_flag First ∷ []) (Some supporter_kind)))
    ∷ Not (IsHeldByOne the_lamp Carried (Those [] (Some person_kind))) ∷ IsHeldByOne Nothing In (Those [] (Some room_kind)) ∷ [])

unfoldable pub same : Body
same = asked
    (IsSame the_ball the_ball ∷ IsSame the_ball the_box ∷ Not (IsSame the_ball the_box) ∷ IsSame Noun Nothing ∷ IsSame Nothing Nothing
    ∷ IsSame Noun SecondNoun ∷ IsSame Location the_hall ∷ Not (IsSame Location the_hall) ∷ IsSame the_player the_player ∷ IsSame the_player Noun
    ∷ IsSame bob_himself Nothing ∷ Not (IsSame bob_himself Nothing) ∷ [])

-- what lies beyond is asked of a direction and a room alone
unfoldable pub no_direction : Body
no_direction = asked
    (IsSame (RoomFrom the_player the_hall) Nothing ∷ IsSame (RoomFrom to_the_north the_box) Nothing ∷ IsSame (RoomFrom to_the_north the_hall) Nothing
    ∷ IsSame (RoomFrom Nothing the_hall) Nothing ∷ [])

unfoldable pub has : Body
has = asked
    (IsHeld the_coin Carried bob_himself ∷ IsHeld the_hat Worn bob_himself ∷ IsHeld the_hat Carried bob_himself ∷ Has bob_himself the_hat
    ∷ Has bob_himself the_coin ∷ Has bob_himself the_lamp ∷ Has the_player the_coat ∷ IsHeld the_lamp Worn the_player ∷ Has the_box the_ball
    ∷ Has bob_himself Nothing ∷ Has Noun the_coin ∷ IsHeld Nothing Worn Nothing ∷ [])

unfoldable pub encloses : Body
encloses = asked
    (Encloses the_hall the_ball ∷ Encloses the_box the_ball ∷ Encloses the_desk the_knob ∷ Encloses bob_himself the_hat ∷ Encloses the_hall the_coin
    ∷ Encloses the_yard the_ball ∷ Encloses the_ball the_box ∷ Encloses the_ball the_ball ∷ Encloses the_hall the_player ∷ Encloses the_player the_lamp
    ∷ Encloses Noun the_ball ∷ Encloses the_hall Nothing ∷ Encloses the_hall the_hall ∷ [])

unfoldable pub carries_and_wears : Body
carries_and_wears = body
    (NowHeld the_ball Carried the_player ∷ NowHeld the_coin Worn bob_himself ∷ NowHeld the_hat Carried bob_himself ∷ Say everywhere ∷ [])

unfoldable pub nowhere : Body
nowhere = body (NowNowhere the_cup ∷ NowNowhere the_box ∷ Say everywhere ∷ [])

unfoldable pub cannot_hold : Body
cannot_hold = body
    (NowHeld the_ball On the_hall ∷ NowHeld the_ball In bob_himself ∷ NowHeld the_ball Carried the_box ∷ NowHeld the_ball Worn the_desk
    ∷ NowHeld the_ball Part the_hall ∷ NowHeld the_ball On the_box ∷ NowHeld the_ball In the_desk ∷ NowHeld the_ball In to_the_north
    ∷ NowHeld the_ball Carried the_desk ∷ Say everywhere ∷ [])

unfoldable pub nothing_held : Body
nothing_held = body
    (NowHeld Nothing In the_hall ∷ NowHeld the_ball In Nothing ∷ NowHeld Noun Carried bob_himself ∷ NowHeld the_cup Carried SecondNoun
    ∷ NowHeld Nothing Worn bob_himself ∷ NowHeld the_ball In (RoomFrom upwards the_hall) ∷ Say everywhere ∷ [])

unfoldable pub player_in_rooms : Body
player_in_rooms = body
    (NowHeld the_player In the_box ∷ NowHeld the_player On the_desk ∷ NowHeld the_player Carried bob_himself ∷ NowHeld the_player Part the_desk
    ∷ NowHeld the_player Worn bob_himself ∷ NowNowhere the_player ∷ NowHeld the_player Carried the_player ∷ Say everywhere ∷ [])

unfoldable pub in_itself : Body
in_itself = body
    (NowHeld the_box In the_box ∷ NowHeld the_desk On the_desk ∷ NowHeld the_desk Part the_desk ∷ NowHeld bob_himself Carried bob_himself ∷ Say everywhere
    ∷ [])

unfoldable pub moved : Body
moved = body (Move the_coin the_hall ∷ Move the_lamp the_box ∷ Move the_hat the_desk ∷ Move the_cup bob_himself ∷ Say everywhere ∷ [])

unfoldable pub moved_to_player : Body
moved_to_player = body (Move the_ball the_player ∷ Move the_cup Location ∷ Say everywhere ∷ [])

unfoldable pub repeated : Body
repeated = only (Repeat (ThoseHeld [] (Some thing_kind) In the_hall) (only (Say (Name Plain (Turning 0) (plain (codes " "))))))

unfoldable pub repeat_and_move : Body
repeat_and_move = body
    (Repeat (ThoseHeld [] (Some thing_kind) In the_hall) (only (NowHeld (Turning 0) In the_yard))
    ∷ Say (Listing Plain (ThoseHeld [] (Some thing_kind) In the_hall) (Bytes (codes "; ") (Listing Plain (ThoseHeld [] (Some thing_kind) In the_yard) Silence)))
    ∷ [])

unfoldable pub repeat_in_repeat : Body
repeat_in_repeat = only (Repeat (Those [] (Some room_kind)) (body
    (Repeat (Those [] (Some person_kind)) (only (Say (Name Plain (Turning 1) (plain (codes " ")))))
    ∷ Say (Name Plain (Turning 0) (plain (codes "; "))) ∷ [])))

unfoldable pub succeeds : Body
succeeds = body (Say (plain (codes "a")) ∷ Leave (Decides Success) ∷ Say (plain (codes "b")) ∷ [])

unfoldable pub fails : Body
fails = body (Say (plain (codes "a")) ∷ Leave (Decides Failure) ∷ Say (plain (codes "b")) ∷ [])

unfoldable pub no_decision : Body
no_decision = body (Say (plain (codes "a")) ∷ Leave NoDecision ∷ Say (plain (codes "b")) ∷ [])

unfoldable pub instead : Body
instead = body
    (If (Equals (Variable 0) (Literal (pos 1))) (only (Say (plain (codes "a")))) (only (Instead (Say (plain (codes "b"))))) ∷ Say (plain (codes "c")) ∷ [])

unfoldable pub instead_behind_end : Body
instead_behind_end = only (Instead (Leave (Decides Success)))

unfoldable pub sums : Body
sums = only (Say (figures
    (Plus level (literal 2) ∷ Minus level (literal 7) ∷ Times level level ∷ Plus level score ∷ Times (below_zero 3) (below_zero 4)
    ∷ Minus (literal 0) level ∷ [])))

unfoldable pub compared : Body
compared = asked
    (IsLess (literal 4) level ∷ IsLess (literal 5) level ∷ IsLess level (literal 5) ∷ IsLess level (literal 6)
    ∷ IsAtMost (literal 5) level ∷ IsAtMost (literal 6) level ∷ IsAtMost level (literal 5) ∷ IsAtMost level (literal 4)
    ∷ IsLess level (Plus level (literal 1)) ∷ IsLess (below_zero 2147483648) (literal 2147483647) ∷ IsAtMost (literal 2147483647) (below_zero 2147483648) ∷ [])

unfoldable pub weights : Body
weights = body
    (NowNumber 0 the_ball (Literal (pos 7)) ∷ NowNumber 0 the_ball (Plus (PropertyOf 0 the_ball) (Literal (pos 3)))
    ∷ NowNumber 0 the_player (Minus (PropertyOf 0 the_player) (Literal (pos 5)))
    ∷ NowNumber 0 the_ball (Plus (PropertyOf 0 the_ball) (PropertyOf 0 the_player))
    ∷ Say (Figure (PropertyOf 0 the_ball) (Bytes (codes " ") (Figure (PropertyOf 0 the_player) Silence))) ∷ [])

unfoldable pub names : Body
names = only (Say (namings (The 14) five_ways))

unfoldable pub names_with_an : Body
names_with_an = only (Say (namings (The 15) five_ways))

unfoldable pub lists : Body
lists = only (Say (Listing Plain things_here (Bytes (codes "; ") (Listing Indefinite things_here (Bytes (codes "; ") (Listing Definite things_here (line (codes "."))))))))

unfoldable pub descriptions_said : Body
descriptions_said = only (Say (Bytes (codes "<") (DescriptionOf (The 14) (Bytes (codes "><") (DescriptionOf (The 15)
    (Bytes (codes "><") (DescriptionOf (The 16) (plain (codes ">")))))))))

unfoldable pub at_the_bounds : Body
at_the_bounds = only (Say (figures (Minus (below_zero 2147483647) (literal 1) ∷ Plus (literal 2147483646) (literal 1) ∷ [])))

unfoldable pub either_and_both : Body
either_and_both = asked
    (Or (IsHeld the_ball In the_box) (IsHeld the_ball In the_hall) ∷ And (IsHeld the_ball In the_box) (IsHeld the_ball In the_hall)
    ∷ Or (IsHeld the_ball On the_box) (IsHeld the_ball In the_hall) ∷ [])

-- in a closed box a thing is neither seen nor touched, in an open one both
unfoldable pub seen_and_touched : Body
seen_and_touched = body
    (Say (answers (IsSo the_ball Visible ∷ IsSo the_ball Touchable ∷ [])) ∷ NowIs the_box open_flag true
    ∷ Say (answers (IsSo the_ball Visible ∷ IsSo the_ball Touchable ∷ [])) ∷ [])

-- the turn count, and the number of things in the hall
unfoldable pub counted : Body
counted = only (Say (figures (TurnCount ∷ CountOf things_here ∷ [])))

-- a silent action says nothing of itself
unfoldable pub silently : Body
silently = body (Try true taking the_cup Nothing ∷ Try false dropping the_cup Nothing ∷ [])
