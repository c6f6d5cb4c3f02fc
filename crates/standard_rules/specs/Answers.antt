-- What a function answers that does a standard rule, and when that is the rule's effect.
use Rattle.std.specs.Prelude.{◌≡◌, ℕ, Bool, true, false, List, [], ◌∷◌, Option, None, Some, Ok, Err}
use Rattle.play_meaning.specs.Attempts.{Attempt}
use Rattle.play_meaning.specs.Effects.{Answer, ByItself, Ends, Fails, HasEffectOf, OutOfRange, Succeeds, changing, refusing, saying, silence}
use Rattle.play_meaning.specs.PlainStories.{plain_telling}
use Rattle.play_meaning.specs.Saying.{Telling, listed, name_in}
use Rattle.play_meaning.specs.declared.action.ActionNow.{ActionNow}
use Rattle.play_meaning.specs.declared.change.Change.TheVariants.{Put, SetFlag}
use Rattle.standard_rules.specs.declared.answer.HostAnswer.{HostAnswer}
use Rattle.standard_rules.specs.declared.answer.HostOutcome.{HostOutcome}
use Rattle.standard_rules.specs.declared.answer.HostOutcome.TheVariants as outcome
use Rattle.story_format.specs.declared.tables.Tables.{Tables}
use Rattle.world_meaning.specs.declared.place.Rel.{Rel}
use Rattle.world_meaning.specs.declared.session.Abandon.TheVariants.{NumberOutOfRange}
use Rattle.world_store.specs.StoryGames.{plain_story}
use Rattle.world_store.specs.StoryWorlds.{StoryWorld}
use Rattle.play_meaning.specs.Scripts.{scope_of}
use Rattle.play_meaning.specs.Seeing.{has_light}
use Rattle.play_meaning.specs.Settings.{thing_kind}
use Rattle.play_meaning.specs.Trees.{Those}
use Rattle.play_meaning.specs.Values.{those}
use Rattle.play_meaning.specs.declared.naming.Naming.{Naming}
use Rattle.world_store.specs.StorySettings.{setting_of}

abbrev pub ends_of : HostOutcome → Ends
ends_of outcome.ByEnd = ByItself
ends_of outcome.Success = Succeeds
ends_of outcome.Failure = Fails
ends_of outcome.OutOfRange = OutOfRange

abbrev pub answer_of : HostAnswer → Answer
answer_of a = record { changes = a.changes.items; text = a.text; tries = a.tries; ends = ends_of a.outcome }

-- what words are read against in a loaded story
abbrev pub telling_in : Tables → Telling
telling_in t = plain_telling (plain_story t)

-- in this story and world, and in this action, the answer does what the standard rule of this number does, counted from 1
abbrev pub DoesRule : ℕ → StoryWorld → ActionNow → HostAnswer → Type 0
DoesRule id s now answer = HasEffectOf id (telling_in s.tables) s.world now (answer_of answer)

-- the same, as one fact
unfoldable pub HasEffect : ℕ → StoryWorld → ActionNow → HostAnswer → Type 0
HasEffect = DoesRule

-- ---- what is said and asked in this story and world

-- an object's name, or nothing's
abbrev pub name_of : StoryWorld → Naming → Option ℕ → List ℕ
name_of s naming object = name_in (setting_of s.tables) naming object

-- the names of objects
abbrev pub names_of : StoryWorld → Naming → List ℕ → List ℕ
names_of s naming objects = listed (setting_of s.tables) naming objects

-- it is light where the player is
abbrev pub is_lit : StoryWorld → Bool
is_lit s = has_light (setting_of s.tables) s.world

-- all things
abbrev pub things_in : StoryWorld → ActionNow → List ℕ
things_in s now = those (setting_of s.tables) (scope_of now) s.world (Those [] (Some thing_kind))

-- ---- answers by what was asked

abbrev pub out_of_range : Answer
out_of_range = record silence { ends = OutOfRange }

abbrev pub refused_if : Bool → List ℕ → Answer
refused_if true text = refusing text
refused_if false text = silence

abbrev pub said_if : Bool → List ℕ → Answer
said_if true text = saying text
said_if false text = silence

-- nothing is put nowhere
abbrev pub putting : Option ℕ → Rel → Option ℕ → Answer
putting None relation holder = silence
putting (Some o) relation None = silence
putting (Some o) relation (Some holder) = changing (Put o relation holder)

abbrev pub making : Option ℕ → ℕ → Bool → Answer
making None property value = silence
making (Some o) property value = changing (SetFlag o property value)

abbrev pub are_any : List ℕ → Bool
are_any [] = false
are_any (o ∷ objects) = true

-- a full stop and a line break
abbrev pub stop : List ℕ
stop = 46 ∷ 10 ∷ []

-- a text is said, or a number is out of range
abbrev pub IsTold : Attempt (List ℕ) → Answer → Type 0
IsTold (Ok text) answer = answer ≡ saying text
IsTold (Err reason) answer = (reason ≡ NumberOutOfRange) × (answer ≡ out_of_range)
