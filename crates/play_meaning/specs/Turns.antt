-- A scene pass, a turn and the opening: their parts in order (*Writing with Inform*, chapters 9 and 10).
use Rattle.std.specs.Prelude.{ℕ, ◌+◌, ◌*◌, ◌==◌, nat_lt, Bool, true, false, not, ◌&&◌, ◌||◌, List, [], ◌∷◌, ◌++◌, codes, map, Option, None, Some, Ok, Err, if◌then◌else◌}
use Rattle.play_meaning.specs.Attempts.{Attempt, next}
use Rattle.world_meaning.specs.declared.session.Abandon.TheVariants.{NumberOutOfRange}
use Rattle.play_meaning.specs.Acting.{act, progress_of, top}
use Rattle.play_meaning.specs.Consulting.{consult, every_turn_book, play_begins_book}
use Rattle.play_meaning.specs.Games.{Game}
use Rattle.play_meaning.specs.Progress.{Progress, change, say}
use Rattle.play_meaning.specs.StandardActions.{looking}
use Rattle.play_meaning.specs.Worlds.{next_turn, scene_of, set_scene}
use Rattle.play_meaning.specs.declared.action.ActionNow.{ActionNow}
use Rattle.play_meaning.specs.declared.scene.SceneNow.{SceneNow}
use Rattle.play_meaning.specs.declared.standard_books.TheConstants.{SCENE_BEGINS, SCENE_ENDS}

-- outside an action
abbrev pub no_action : ActionNow
no_action = record { action = 255; noun = None; second = None; silent = false }

abbrev pub look_round : ActionNow
look_round = record { action = looking; noun = None; second = None; silent = false }

-- a rulebook outside an action: its decision is dropped
abbrev pub follow : Game → ℕ → Progress → Attempt Progress
follow g book p = progress_of (consult g (top g) book no_action p)

abbrev pub perform : Game → ActionNow → Progress → Attempt Progress
perform g now p = progress_of (act g (top g) now p)

-- steps one behind the other
abbrev pub in_order : List (Progress → Attempt Progress) → Progress → Attempt Progress
in_order [] p = Ok p
in_order (step ∷ steps) p = next (step p) (in_order steps)

-- ---- scenes

abbrev pub begins_book : ℕ → ℕ
begins_book scene = SCENE_BEGINS + 2 * scene

abbrev pub ends_book : ℕ → ℕ
ends_book scene = SCENE_ENDS + 2 * scene

abbrev pub set_and_follow : Bool → Game → ℕ → SceneNow → ℕ → Progress → Attempt Progress
set_and_follow false g scene now book p = Ok p
set_and_follow true g scene now book p = follow g book (change (set_scene scene now) p)

-- a scene that happens ends where its condition holds
unfoldable pub ending_of : Game → ℕ → Progress → Attempt Progress
ending_of g scene p =
    next (if (scene_of p.world scene).happens then g.ends scene p.world else Ok false)
    (λ ends. set_and_follow ends g scene (record { happens = false; has_begun = true }) (ends_book scene) p)

abbrev pub begins_now : Bool → Bool → Bool
begins_now begins may = begins && may

-- one that doesn't begins where its condition holds and it recurs or never began: a condition out of range abandons
-- also where it can't begin again
unfoldable pub beginning_of : Game → Bool → ℕ → Progress → Attempt Progress
beginning_of g recurs scene p =
    next (if (scene_of p.world scene).happens then Ok false else g.begins scene p.world)
    (λ begins. set_and_follow (begins_now begins (recurs || not (scene_of p.world scene).has_begun)) g scene (record { happens = true; has_begun = true }) (begins_book scene) p)

abbrev pub scene_steps : Game → ℕ → List Bool → List (Progress → Attempt Progress)
scene_steps g scene [] = []
scene_steps g scene (recurs ∷ more) = ending_of g scene ∷ beginning_of g recurs scene ∷ scene_steps g (scene + 1) more

-- each scene once, in the order of the source
unfoldable pub pass : Game → Progress → Attempt Progress
pass g = in_order (scene_steps g 0 g.scenes)

-- ---- turns

abbrev pub unless_over : Option (List ℕ) → (Progress → Attempt Progress) → Progress → Attempt Progress
unless_over None part p = part p
unless_over (Some ending) part p = Ok p

-- parts one behind the other; those behind the story's end are skipped
abbrev pub parts : List (Progress → Attempt Progress) → Progress → Attempt Progress
parts [] p = Ok p
parts (part ∷ more) p = next (unless_over p.world.ended part p) (parts more)

-- the highest turn count
abbrev pub most_turns : ℕ
most_turns = 2147483647

abbrev pub count_turn : Progress → Attempt Progress
count_turn p = if nat_lt p.world.turns most_turns then Ok (change next_turn p) else Err NumberOutOfRange

-- what of a turn follows its action
abbrev pub behind_action : Game → List (Progress → Attempt Progress)
behind_action g = pass g ∷ follow g every_turn_book ∷ count_turn ∷ pass g ∷ []

unfoldable pub turn : Game → ActionNow → Progress → Attempt Progress
turn g now = parts (perform g now ∷ behind_action g)

-- ---- an action on all of several things

abbrev pub ends_in_break : List ℕ → Bool
ends_in_break [] = false
ends_in_break (byte ∷ []) = byte == 10
ends_in_break (byte ∷ next ∷ more) = ends_in_break (next ∷ more)

-- a text that says anything ends with a line break
abbrev pub completed : List ℕ → List ℕ
completed [] = []
completed (byte ∷ bytes) = if ends_in_break (byte ∷ bytes) then byte ∷ bytes else (byte ∷ bytes) ++ 10 ∷ []

abbrev pub upon : ℕ → ℕ → ActionNow
upon action o = record { action = action; noun = Some o; second = None; silent = false }

-- `ball: `
abbrev pub name_first : Game → ℕ → List ℕ
name_first g o = g.telling.setting.name o ++ codes ": "

-- the action on one of them, behind its name, on lines of its own
abbrev pub perform_upon : Game → ℕ → ℕ → Progress → Attempt Progress
perform_upon g action o p = next (perform g (upon action o) (say (name_first g o) p)) (λ q. Ok (record q { text = completed q.text }))

-- one turn, whose action is done on each of them
unfoldable pub turn_upon : Game → ℕ → List ℕ → Progress → Attempt Progress
turn_upon g action objects = parts (map (perform_upon g action) objects ++ behind_action g)

unfoldable pub opening : Game → Progress → Attempt Progress
opening g = parts (pass g ∷ follow g play_begins_book ∷ perform g look_round ∷ [])
