-- What looking and going come to in a plain story: a description may abandon them.
use Rattle.std.specs.Prelude.{ℕ, ◌+◌, true, false, Bool, ◌&&◌, List, [], ◌∷◌, ◌++◌, filter, Option, None, Some, Ok, codes, if◌then◌else◌}
use Rattle.world_meaning.specs.Texts.{no_way_text, said}
use Rattle.world_meaning.specs.declared.place.Rel.TheVariants.{In}
use Rattle.play_meaning.specs.Acting.{dark_text}
use Rattle.play_meaning.specs.Attempts.{Attempt, next}
use Rattle.play_meaning.specs.Changes.{make_so, put}
use Rattle.play_meaning.specs.PlainStories.{PlainStory, plain_telling}
use Rattle.play_meaning.specs.Progress.{Progress}
use Rattle.play_meaning.specs.Saying.{description_in, listed, name_in}
use Rattle.play_meaning.specs.Seeing.{has_light}
use Rattle.play_meaning.specs.Settings.{Setting, described_flag, objects_of, open_flag, scenery_flag, thing_kind, visited_flag}
use Rattle.play_meaning.specs.StandardActions.{going}
use Rattle.play_meaning.specs.Trees.{CapitalDefinite, First, Indefinite, NotSo, Plain, Quality, Second}
use Rattle.play_meaning.specs.Truth.{of_some}
use Rattle.play_meaning.specs.Turns.{look_round}
use Rattle.play_meaning.specs.Values.{beyond, has_quality, is_among, is_held}
use Rattle.play_meaning.specs.Worlds.{World, location_of}
use Rattle.play_meaning.specs.declared.action.ActionNow.{ActionNow}

-- ---- looking

-- the room's name, or that it is dark
abbrev pub heading : PlainStory → World → List ℕ
heading k w = if has_light k.setting w then name_in k.setting Plain (location_of w) ++ 10 ∷ [] else said (codes "Darkness")

-- the room's description, or that nothing is seen
abbrev pub body_text : PlainStory → World → Attempt (List ℕ)
body_text k w = if has_light k.setting w then description_in (plain_telling k) look_round w (location_of w) else Ok dark_text

-- a described thing in the player's room that is no scenery
abbrev pub is_on_view : Setting → World → ℕ → Bool
is_on_view s w o = is_among s w (Quality described_flag First ∷ NotSo (Quality scenery_flag First) ∷ []) (Some thing_kind) o && is_held w In (location_of w) o

-- what can be seen here, by rising number
abbrev pub on_view : Setting → World → List ℕ
on_view s w = filter (is_on_view s w) (objects_of s)

abbrev pub view_text : Setting → List ℕ → List ℕ
view_text s [] = []
view_text s (o ∷ objects) = codes "You can see " ++ listed s Indefinite (o ∷ objects) ++ said (codes " here.")

-- in light what can be seen here
abbrev pub contents_text : PlainStory → World → List ℕ
contents_text k w = if has_light k.setting w then view_text k.setting (on_view k.setting w) else []

-- what a look says
abbrev pub look_text : PlainStory → World → Attempt (List ℕ)
look_text k w = next (body_text k w) (λ body. Ok (heading k w ++ body ++ contents_text k w))

-- a room that was seen is visited
abbrev pub visit : Setting → World → World
visit s w = if has_light s w then make_so s (location_of w) visited_flag true w else w

-- behind what it says
abbrev pub looked : PlainStory → Progress → List ℕ → Progress
looked k p text = record { world = visit k.setting p.world; text = p.text ++ text; work = p.work + 4 }

-- four rules have their say
abbrev pub look : PlainStory → Progress → Attempt Progress
look k p = next (look_text k p.world) (λ text. Ok (looked k p text))

-- ---- going

-- the player goes that way
abbrev pub going_to : ℕ → ActionNow
going_to direction = record { action = going; noun = Some direction; second = None; silent = false }

-- the door on the way is there, and closed
abbrev pub is_closed : Setting → World → Option ℕ → Bool
is_closed s w door = of_some door (has_quality s w open_flag Second)

abbrev pub closed_text : Setting → Option ℕ → List ℕ
closed_text s door = name_in s CapitalDefinite door ++ said (codes " is closed.")

-- the player comes to a room
abbrev pub come_to : PlainStory → ℕ → Progress → Progress
come_to k room p = record p { world = put k.setting (Some 0) In (Some room) p.world; work = p.work + 4 }

-- and looks round
abbrev pub arrive : PlainStory → Progress → Option ℕ → Attempt Progress
arrive k p None = Ok (record p { text = p.text ++ no_way_text; work = p.work + 2 })
arrive k p (Some room) = look k (come_to k room p)

abbrev pub go_by : PlainStory → Option ℕ → Option ℕ → Progress → Attempt Progress
go_by k door room p =
    if is_closed k.setting p.world door then Ok (record p { text = p.text ++ closed_text k.setting door; work = p.work + 1 }) else arrive k p room

-- a closed door on the way, no way, or the room beyond
abbrev pub go : PlainStory → ℕ → Progress → Attempt Progress
go k direction p =
    go_by k (beyond k.setting k.setting.door_beyond (Some direction) (location_of p.world)) (beyond k.setting k.setting.room_beyond (Some direction) (location_of p.world)) p
