-- The rules that every story has, by number, as any author's rule would be written (the Standard Rules).
use Rattle.std.specs.Prelude.{ℕ, pos, true, false, List, [], ◌∷◌, ◌++◌, None, Some, codes}
use Rattle.world_meaning.specs.Texts.{said}
use Rattle.world_meaning.specs.declared.place.Rel.{Rel}
use Rattle.world_meaning.specs.declared.place.Rel.TheVariants.{In, On, Carried, Worn, Part}
use Rattle.play_meaning.specs.Acting.{dark_text}
use Rattle.play_meaning.specs.Consulting.{carry_out_book, check_book, report_book}
use Rattle.play_meaning.specs.Rules.{Anything, InOrder, Rule}
use Rattle.play_meaning.specs.Settings.{container_kind, described_flag, device_kind, fixed_in_place_flag, open_flag, openable_flag, person_kind, scenery_flag, supporter_kind, switched_on_flag, thing_kind, visited_flag, wearable_flag}
use Rattle.play_meaning.specs.StandardActions.{closing, dropping, examining, going, inserting, jumping, looking, opening, putting_on, switching_off, switching_on, taking, taking_inventory, taking_off, waiting, wearing}
use Rattle.play_meaning.specs.Trees.{And, Body, Bytes, CapitalDefinite, Condition, CountOf, Definite, Description, DescriptionOf, DoorFrom, Encloses, End, First, Has, HasDescription, If, IfSaid, InDarkness, Indefinite, Instead, IsAtMost, IsHeld, IsHeldByOne, IsOne, IsSame, IsSo, Listing, Literal, Location, Name, Naming, Not, NotSo, Nothing, Noun, NowHeld, NowIs, Object, Phrase, Plain, Quality, RoomFrom, Say, Second, SecondNoun, Silence, Text, The, Then, Those, ThoseHeld, Try, Visible}

-- ---- words of the rules

abbrev pub the_player : Object
the_player = The 0

abbrev pub rule : ℕ → ℕ → Body → Rule
rule book action body = record { book = book; action = Some action; noun = Anything; second = Anything; place = Anything; scene = None; condition = None; body = body; listed = InOrder }

abbrev pub check : ℕ → Body → Rule
check action body = rule check_book action body

abbrev pub carry_out : ℕ → Body → Rule
carry_out action body = rule carry_out_book action body

abbrev pub report : ℕ → Body → Rule
report action body = rule report_book action body

abbrev pub only : Phrase → Body
only phrase = Then phrase End

abbrev pub plain : List ℕ → Text
plain text = Bytes text Silence

-- a text that ends with a full stop, and so with a line break
abbrev pub line : List ℕ → Text
line text = plain (said text)

abbrev pub with_name : List ℕ → Naming → Object → List ℕ → Text
with_name front naming o behind = Bytes front (Name naming o (line behind))

-- `if CONDITION, say TEXT instead`
abbrev pub refuse : Condition → Text → Body
refuse condition text = only (If condition (only (Instead (Say text))) End)

abbrev pub refuse_in : Condition → List ℕ → Body
refuse_in condition text = refuse condition (line text)

abbrev pub is_kind : Object → ℕ → Condition
is_kind o kind = IsOne o (Those [] (Some kind))

abbrev pub is : Object → ℕ → Condition
is o property = IsSo o (Quality property First)

-- by its second name
abbrev pub is_un : Object → ℕ → Condition
is_un o property = IsSo o (Quality property Second)

abbrev pub at_least_one : Description → Condition
at_least_one description = IsAtMost (Literal (pos 1)) (CountOf description)

abbrev pub with_list : List ℕ → Description → List ℕ → Text
with_list front description behind = Bytes front (Listing Indefinite description (line behind))

-- ---- looking and examining

-- `described not scenery things in the location`
abbrev pub room_contents : Description
room_contents = ThoseHeld (Quality described_flag First ∷ NotSo (Quality scenery_flag First) ∷ []) (Some thing_kind) In Location

abbrev pub visible_things : Rel → Description
visible_things relation = ThoseHeld (Visible ∷ []) (Some thing_kind) relation Noun

unfoldable pub rules_of_looking : List Rule
rules_of_looking =
    carry_out looking (only (If InDarkness (only (Say (plain (said (codes "Darkness"))))) (only (Say (Name Plain Location (plain (10 ∷ [])))))))
    ∷ carry_out looking (only (If InDarkness (only (Say (plain dark_text))) (only (Say (DescriptionOf Location Silence)))))
    ∷ carry_out looking (only (If (And (Not InDarkness) (at_least_one room_contents)) (only (Say (with_list (codes "You can see ") room_contents (codes " here.")))) End))
    ∷ carry_out looking (only (If (Not InDarkness) (only (NowIs Location visited_flag true)) End))
    ∷ []

abbrev pub device_text : Text
device_text = Name CapitalDefinite Noun (Bytes (codes " is switched ") (IfSaid (is Noun switched_on_flag) (plain (codes "on")) (plain (codes "off")) (line (codes "."))))

unfoldable pub rules_of_examining : List Rule
rules_of_examining =
    carry_out examining (only (If (HasDescription Noun) (only (Say (DescriptionOf Noun Silence))) (only (Say (with_name (codes "You see nothing special about ") Definite Noun (codes "."))))))
    ∷ carry_out examining (only (If (at_least_one (visible_things In)) (only (Say (Bytes (codes "In ") (Name Definite Noun (with_list (codes " is ") (visible_things In) (codes ".")))))) End))
    ∷ carry_out examining (only (If (at_least_one (visible_things On)) (only (Say (Bytes (codes "On ") (Name Definite Noun (with_list (codes " is ") (visible_things On) (codes ".")))))) End))
    ∷ carry_out examining (only (If (is_kind Noun device_kind) (only (Say device_text)) End))
    ∷ []

-- ---- taking, dropping and putting

abbrev pub is_with_player : Rel → Condition
is_with_player relation = IsHeld Noun relation the_player

unfoldable pub rules_of_taking : List Rule
rules_of_taking =
    check taking (refuse_in (IsSame Noun the_player) (codes "You can't take yourself."))
    ∷ check taking (refuse (is_kind Noun person_kind) (with_name [] CapitalDefinite Noun (codes " wouldn't like that.")))
    ∷ check taking (refuse_in (IsHeldByOne Noun Part (Those [] (Some thing_kind))) (codes "That is part of something else."))
    ∷ check taking (refuse_in (Has the_player Noun) (codes "You already have that."))
    ∷ check taking (refuse_in (is Noun scenery_flag) (codes "That is hardly portable."))
    ∷ check taking (refuse_in (is Noun fixed_in_place_flag) (codes "That is fixed in place."))
    ∷ carry_out taking (only (NowHeld Noun Carried the_player))
    ∷ report taking (only (Say (line (codes "Taken."))))
    ∷ []

unfoldable pub rules_of_dropping : List Rule
rules_of_dropping =
    check dropping (refuse_in (And (Not (is_with_player Carried)) (Not (is_with_player Worn))) (codes "You don't have that."))
    ∷ carry_out dropping (only (NowHeld Noun In Location))
    ∷ report dropping (only (Say (line (codes "Dropped."))))
    ∷ []

unfoldable pub rules_of_putting : List Rule
rules_of_putting =
    check putting_on (refuse_in (IsSame Noun SecondNoun) (codes "You can't put something on itself."))
    ∷ check putting_on (refuse (Not (is_kind SecondNoun supporter_kind)) (with_name (codes "You can't put things on ") Definite SecondNoun (codes ".")))
    ∷ check putting_on (refuse_in (Encloses Noun SecondNoun) (codes "You can't put something on what it holds."))
    ∷ carry_out putting_on (only (NowHeld Noun On SecondNoun))
    ∷ report putting_on (only (Say (Bytes (codes "You put ") (Name Definite Noun (with_name (codes " on ") Definite SecondNoun (codes "."))))))
    ∷ []

unfoldable pub rules_of_inserting : List Rule
rules_of_inserting =
    check inserting (refuse_in (IsSame Noun SecondNoun) (codes "You can't put something into itself."))
    ∷ check inserting (refuse (Not (is_kind SecondNoun container_kind)) (with_name (codes "You can't put things into ") Definite SecondNoun (codes ".")))
    ∷ check inserting (refuse_in (Encloses Noun SecondNoun) (codes "You can't put something into what it holds."))
    ∷ check inserting (refuse (is_un SecondNoun open_flag) (with_name [] CapitalDefinite SecondNoun (codes " is closed.")))
    ∷ carry_out inserting (only (NowHeld Noun In SecondNoun))
    ∷ report inserting (only (Say (Bytes (codes "You put ") (Name Definite Noun (with_name (codes " into ") Definite SecondNoun (codes "."))))))
    ∷ []

-- ---- opening and closing, going, wearing

unfoldable pub rules_of_opening : List Rule
rules_of_opening =
    check opening (refuse_in (Not (is Noun openable_flag)) (codes "You can't open that."))
    ∷ check opening (refuse_in (is Noun open_flag) (codes "That is already open."))
    ∷ carry_out opening (only (NowIs Noun open_flag true))
    ∷ report opening (only (Say (with_name (codes "You open ") Definite Noun (codes "."))))
    ∷ []

unfoldable pub rules_of_closing : List Rule
rules_of_closing =
    check closing (refuse_in (Not (is Noun openable_flag)) (codes "You can't close that."))
    ∷ check closing (refuse_in (is_un Noun open_flag) (codes "That is already closed."))
    ∷ carry_out closing (only (NowIs Noun open_flag false))
    ∷ report closing (only (Say (with_name (codes "You close ") Definite Noun (codes "."))))
    ∷ []

abbrev pub door_there : Object
door_there = DoorFrom Noun Location

abbrev pub room_there : Object
room_there = RoomFrom Noun Location

unfoldable pub rules_of_going : List Rule
rules_of_going =
    check going (refuse (is_un door_there open_flag) (with_name [] CapitalDefinite door_there (codes " is closed.")))
    ∷ check going (refuse_in (IsSame room_there Nothing) (codes "You can't go that way."))
    ∷ carry_out going (only (NowHeld the_player In room_there))
    ∷ report going (only (Try false looking Nothing Nothing))
    ∷ []

unfoldable pub rules_of_wearing : List Rule
rules_of_wearing =
    check wearing (refuse_in (Not (is Noun wearable_flag)) (codes "You can't wear that."))
    ∷ check wearing (refuse_in (is_with_player Worn) (codes "You are already wearing that."))
    ∷ carry_out wearing (only (NowHeld Noun Worn the_player))
    ∷ report wearing (only (Say (with_name (codes "You put on ") Definite Noun (codes "."))))
    ∷ check taking_off (refuse_in (Not (is_with_player Worn)) (codes "You aren't wearing that."))
    ∷ carry_out taking_off (only (NowHeld Noun Carried the_player))
    ∷ report taking_off (only (Say (with_name (codes "You take off ") Definite Noun (codes "."))))
    ∷ []

-- ---- what the player has, and the rest

abbrev pub things_with_player : Rel → Description
things_with_player relation = ThoseHeld [] (Some thing_kind) relation the_player

unfoldable pub rules_of_inventory : List Rule
rules_of_inventory =
    carry_out taking_inventory (only (Say (with_list (codes "You are carrying ") (things_with_player Carried) (codes "."))))
    ∷ carry_out taking_inventory (only (If (at_least_one (things_with_player Worn)) (only (Say (with_list (codes "You are wearing ") (things_with_player Worn) (codes ".")))) End))
    ∷ report waiting (only (Say (line (codes "Time passes."))))
    ∷ report jumping (only (Say (line (codes "You jump on the spot."))))
    ∷ []

unfoldable pub rules_of_switching : List Rule
rules_of_switching =
    check switching_on (refuse_in (Not (is_kind Noun device_kind)) (codes "You can't switch that."))
    ∷ check switching_on (refuse_in (is Noun switched_on_flag) (codes "That is already on."))
    ∷ carry_out switching_on (only (NowIs Noun switched_on_flag true))
    ∷ report switching_on (only (Say (with_name (codes "You switch ") Definite Noun (codes " on."))))
    ∷ check switching_off (refuse_in (Not (is_kind Noun device_kind)) (codes "You can't switch that."))
    ∷ check switching_off (refuse_in (is_un Noun switched_on_flag) (codes "That is already off."))
    ∷ carry_out switching_off (only (NowIs Noun switched_on_flag false))
    ∷ report switching_off (only (Say (with_name (codes "You switch ") Definite Noun (codes " off."))))
    ∷ []

-- the sixty-one rules, in the order of their numbers, from 1
unfoldable pub standard_rules : List Rule
standard_rules =
    rules_of_looking ++ rules_of_examining ++ rules_of_taking ++ rules_of_dropping ++ rules_of_putting ++ rules_of_inserting
    ++ rules_of_opening ++ rules_of_closing ++ rules_of_going ++ rules_of_wearing ++ rules_of_inventory ++ rules_of_switching
