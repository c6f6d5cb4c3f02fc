-- What an instruction does, and the run of a code, instruction by instruction.
use Rattle.std.specs.Prelude.{ℕ, zero, suc, ◌+◌, ◌-◌, ◌==◌, nat_lt, ℤ, ◌+ℤ◌, ◌-ℤ◌, ◌*ℤ◌, pos, negsuc, int_le, int_lt, Bool, true, false, not, ◌&&◌, ◌||◌, List, [], ◌∷◌, ◌++◌, length, take, Option, None, Some, Ok, Err, slice_index_or, if◌then◌else◌}
use Rattle.std.specs.Fmt.{signed_decimal}
use Rattle.std.specs.Ordering.{int_eq}
use Rattle.play_meaning.specs.Attempts.{Attempt, next}
use Rattle.world_meaning.specs.declared.session.Abandon.{Abandon}
use Rattle.play_meaning.specs.Changes.{make_number, make_so, make_value, move, put, take_away}
use Rattle.play_meaning.specs.Doing.{Inner}
use Rattle.play_meaning.specs.Instructions.{Add, And, Answer, Asked, AtMost, Away, Begin, Count, Dark, Description, Done, Door, Encloses, EndStory, Eq, Figure, Flag, Follow, Happens, HasDescription, Held, Holder, IfZero, Instruction, IsFirst, IsNotFirst, IsNotSecond, IsSecond, Jump, Kind, Less, Location, Loop, Move, Mul, Name, Names, Next, NoDecision, Not, Noun, Num, Or, Prop, PutAt, Room, Say, Second, SetFlag, SetProp, SetValue, SetVar, Sub, Success, Failure, Touchable, Try, Turns, Valued, ValueName, Var, Visible, at_place, size_of}
use Rattle.play_meaning.specs.Progress.{Progress, change, say, spend}
use Rattle.play_meaning.specs.Saying.{Telling, description_in, listed, name_in, value_name}
use Rattle.play_meaning.specs.Seeing.{encloses, has_light, is_touchable, is_visible}
use Rattle.play_meaning.specs.Settings.{Setting, objects_of}
use Rattle.play_meaning.specs.Trees.{First, NotSo, Quality, Second as SecondName, Valued as ValuedSo}
use Rattle.play_meaning.specs.Truth.{of_both, of_some}
use Rattle.play_meaning.specs.Values.{beyond, in_range, is_held, is_so, number_at, value_at}
use Rattle.world_meaning.specs.Relations.{relation_number}
use Rattle.play_meaning.specs.Worlds.{World, end_with, location_of, place_of, scene_of, set_variable, variable_of}
use Rattle.world_meaning.specs.declared.place.Place.{Place}
use Rattle.world_meaning.specs.declared.place.Rel.{Rel}
use Rattle.play_meaning.specs.declared.action.ActionNow.{ActionNow}
use Rattle.play_meaning.specs.declared.outcome.Flow.{Flow}
use Rattle.play_meaning.specs.declared.outcome.Flow.TheVariants.{GoesOn, NoDecision as Undecided, Decides}
use Rattle.play_meaning.specs.declared.outcome.Outcome.TheVariants.{Success as Succeeds, Failure as Fails}

-- what a code is run against
pub record Frame : Type 0 where
  pub telling : Telling
  pub strings : ℕ → List ℕ
  -- what a test code answers, with these open loops' objects
  pub tests : ℕ → List (Option ℕ) → World → Attempt Bool
  pub inner : Inner
  pub now : ActionNow

-- where a run has come to
pub record State : Type 0 where
  pub place : ℕ
  -- the last pushed first
  pub operands : List ℤ
  -- the objects of the open loops, the outermost first
  pub loops : List (Option ℕ)
  pub progress : Progress

-- what comes of an instruction
pub data Step : Type 0 where
  Goes : State → Step
  Leaves : Flow → Progress → Step
  Answers : Bool → Step
  Abandons : Abandon → Step
  -- there is no instruction, or an operand lacks, which soundness is to exclude
  Stuck : Step

-- ---- operands

abbrev pub object_at : ℤ → Option ℕ
object_at (pos n) = Some n
object_at (negsuc n) = None

abbrev pub object_number : Option ℕ → ℤ
object_number None = negsuc 0
object_number (Some o) = pos o

abbrev pub is_true : ℤ → Bool
is_true a = not (int_eq a (pos 0))

abbrev pub truth_number : Bool → ℤ
truth_number false = pos 0
truth_number true = pos 1

abbrev pub with_one : List ℤ → (ℤ → List ℤ → Step) → Step
with_one [] does = Stuck
with_one (a ∷ rest) does = does a rest

abbrev pub with_two : List ℤ → (ℤ → ℤ → List ℤ → Step) → Step
with_two [] does = Stuck
with_two (b ∷ []) does = Stuck
with_two (b ∷ a ∷ rest) does = does a b rest

abbrev pub unless_abandoned : {A : Type 0} → Attempt A → (A → Step) → Step
unless_abandoned (Ok a) does = does a
unless_abandoned (Err reason) does = Abandons reason

-- ---- going on behind an instruction

abbrev pub behind : Instruction → State → State
behind i s = record s { place = s.place + size_of i }

abbrev pub pushes : Instruction → State → List ℤ → ℤ → Step
pushes i s rest a = Goes (record (behind i s) { operands = a ∷ rest })

abbrev pub then_at : Instruction → State → List ℤ → Progress → Step
then_at i s rest p = Goes (record (behind i s) { operands = rest; progress = p })

-- of one operand, of two
abbrev pub of_one : Instruction → State → (ℤ → ℤ) → Step
of_one i s f = with_one s.operands (λ a rest. pushes i s rest (f a))

abbrev pub of_two : Instruction → State → (ℤ → ℤ → ℤ) → Step
of_two i s f = with_two s.operands (λ a b rest. pushes i s rest (f a b))

abbrev pub of_object : Instruction → State → (ℕ → Bool) → Step
of_object i s holds = of_one i s (λ a. truth_number (of_some (object_at a) holds))

abbrev pub calculates : Instruction → State → (ℤ → ℤ → ℤ) → Step
calculates i s f = with_two s.operands (λ a b rest. unless_abandoned (in_range (f a b)) (pushes i s rest))

-- a change by one operand, by two
abbrev pub changes : Instruction → State → (ℤ → World → World) → Step
changes i s f = with_one s.operands (λ a rest. then_at i s rest (change (f a) s.progress))

abbrev pub changes_two : Instruction → State → (ℤ → ℤ → World → World) → Step
changes_two i s f = with_two s.operands (λ a b rest. then_at i s rest (change (f a b) s.progress))

abbrev pub says : Instruction → State → List ℤ → List ℕ → Step
says i s rest text = then_at i s rest (say text s.progress)

-- ---- what is asked

-- nothing has a property in neither sense, and so what denies one of it is true
abbrev pub is_asked : Setting → World → ℕ → Asked → Option ℕ → Bool
is_asked s w p IsFirst o = of_some o (is_so s w (Quality p First))
is_asked s w p IsSecond o = of_some o (is_so s w (Quality p SecondName))
is_asked s w p IsNotFirst o = not (of_some o (is_so s w (Quality p First)))
is_asked s w p IsNotSecond o = not (of_some o (is_so s w (Quality p SecondName)))

-- a holder of this relation; one that is no object of the story, which stands in no world of a story, is none
abbrev pub holder_at : Setting → Rel → Option Place → Option ℕ
holder_at s r None = None
holder_at s r (Some place) = if (relation_number place.relation == relation_number r) && nat_lt place.holder s.count then Some place.holder else None

-- what holds an object so; nothing where nothing does
abbrev pub holder_by : Setting → World → Rel → Option ℕ → Option ℕ
holder_by s w r None = None
holder_by s w r (Some o) = holder_at s r (place_of w o)

-- ---- objects that pass a test

abbrev pub with_object : List (Option ℕ) → ℕ → ℕ → List (Option ℕ)
with_object loops k o = take k loops ++ Some o ∷ []

abbrev pub joined_if : Bool → ℕ → List ℕ → List ℕ
joined_if true o passed = o ∷ passed
joined_if false o passed = passed

-- those of these objects of which a test is true, each tested in its turn
abbrev pub passing : (ℕ → Attempt Bool) → List ℕ → Attempt (List ℕ)
passing test [] = Ok []
passing test (o ∷ objects) = next (test o) (λ is. next (passing test objects) (λ passed. Ok (joined_if is o passed)))

abbrev pub passing_in : Frame → State → ℕ → ℕ → Attempt (List ℕ)
passing_in frame s k test = passing (λ o. frame.tests test (with_object s.loops k o) s.progress.world) (objects_of frame.telling.setting)

abbrev pub or_later : Bool → ℕ → Attempt (Option ℕ) → Attempt (Option ℕ)
or_later true o later = Ok (Some o)
or_later false o later = later

-- the first of so many objects from this number on of which a test is true
abbrev pub first_passing : (ℕ → Attempt Bool) → ℕ → ℕ → Attempt (Option ℕ)
first_passing test zero o = Ok None
first_passing test (suc left) o = next (test o) (λ is. or_later is o (first_passing test left (o + 1)))

-- the number of the object behind that of a loop's turn, and of the first before any turn
abbrev pub number_behind : Option ℕ → ℕ
number_behind None = 0
number_behind (Some o) = o + 1

abbrev pub next_object : Frame → State → ℕ → ℕ → Attempt (Option ℕ)
next_object frame s k test =
    first_passing (λ o. frame.tests test (with_object s.loops k o) s.progress.world)
    (frame.telling.setting.count - number_behind (slice_index_or s.loops k None)) (number_behind (slice_index_or s.loops k None))

-- a turn is one unit of work; with no object left the loop is closed
abbrev pub turns_to : Instruction → State → ℕ → ℕ → Option ℕ → Step
turns_to i s k exit None = Goes (record s { place = exit; loops = take k s.loops })
turns_to i s k exit (Some o) = unless_abandoned (spend s.progress) (λ p. Goes (record (behind i s) { loops = with_object s.loops k o; progress = p }))

-- ---- ways

abbrev pub goes_to : State → List ℤ → ℕ → Step
goes_to s rest place = Goes (record s { place = place; operands = rest })

abbrev pub tried_with : Bool → ℕ → ℤ → ℤ → ActionNow
tried_with silent action noun second = record { action = action; noun = object_at noun; second = object_at second; silent = silent }

unfoldable pub does : Frame → State → Instruction → Step
does f s (Num n) = pushes (Num n) s s.operands n
does f s (Var v) = pushes (Var v) s s.operands (variable_of s.progress.world v)
does f s (Prop p) = of_one (Prop p) s (λ a. number_at f.telling.setting s.progress.world p (object_at a))
does f s Turns = pushes Turns s s.operands (pos s.progress.world.turns)
does f s Add = calculates Add s (λ a b. a +ℤ b)
does f s Sub = calculates Sub s (λ a b. a -ℤ b)
does f s Mul = calculates Mul s (λ a b. a *ℤ b)
does f s Eq = of_two Eq s (λ a b. truth_number (int_eq a b))
does f s Less = of_two Less s (λ a b. truth_number (int_lt a b))
does f s AtMost = of_two AtMost s (λ a b. truth_number (int_le a b))
does f s Not = of_one Not s (λ a. truth_number (not (is_true a)))
does f s And = of_two And s (λ a b. truth_number (is_true a && is_true b))
does f s Or = of_two Or s (λ a b. truth_number (is_true a || is_true b))
does f s Noun = pushes Noun s s.operands (object_number f.now.noun)
does f s Second = pushes Second s s.operands (object_number f.now.second)
does f s Location = pushes Location s s.operands (object_number (location_of s.progress.world))
does f s (Loop k) = pushes (Loop k) s s.operands (object_number (slice_index_or s.loops k None))
does f s (Flag p asked) = of_one (Flag p asked) s (λ a. truth_number (is_asked f.telling.setting s.progress.world p asked (object_at a)))
does f s (Kind kind) = of_object (Kind kind) s (λ o. f.telling.setting.is_of o kind)
does f s (Held r) = of_two (Held r) s (λ o holder. truth_number (of_some (object_at o) (is_held s.progress.world r (object_at holder))))
does f s (Holder r) = of_one (Holder r) s (λ o. object_number (holder_by f.telling.setting s.progress.world r (object_at o)))
does f s Encloses = of_two Encloses s (λ a b. truth_number (of_both (object_at a) (object_at b) (encloses s.progress.world)))
does f s Visible = of_object Visible s (is_visible f.telling.setting s.progress.world)
does f s Touchable = of_object Touchable s (is_touchable f.telling.setting s.progress.world)
does f s Dark = pushes Dark s s.operands (truth_number (not (has_light f.telling.setting s.progress.world)))
does f s (Happens scene) = pushes (Happens scene) s s.operands (truth_number (scene_of s.progress.world scene).happens)
does f s HasDescription = of_object HasDescription s f.telling.setting.has_description
does f s Room = of_two Room s (λ d room. object_number (beyond f.telling.setting f.telling.setting.room_beyond (object_at d) (object_at room)))
does f s Door = of_two Door s (λ d room. object_number (beyond f.telling.setting f.telling.setting.door_beyond (object_at d) (object_at room)))
does f s (Valued q value) = of_object (Valued q value) s (is_so f.telling.setting s.progress.world (ValuedSo q value))
does f s (Count k test) = unless_abandoned (passing_in f s k test) (λ objects. pushes (Count k test) s s.operands (pos (length objects)))
does f s (Names naming k test) = unless_abandoned (passing_in f s k test) (λ objects. says (Names naming k test) s s.operands (listed f.telling.setting naming objects))
does f s (Say string) = says (Say string) s s.operands (f.strings string)
does f s (Name naming) = with_one s.operands (λ o rest. says (Name naming) s rest (name_in f.telling.setting naming (object_at o)))
does f s Figure = with_one s.operands (λ n rest. says Figure s rest (signed_decimal n))
does f s Description = with_one s.operands (λ o rest. unless_abandoned (description_in f.telling f.now s.progress.world (object_at o)) (says Description s rest))
does f s (SetFlag p value) = changes (SetFlag p value) s (λ o. make_so f.telling.setting (object_at o) p value)
does f s (SetProp p) = changes_two (SetProp p) s (λ o a. make_number f.telling.setting (object_at o) p a)
does f s (SetVar v) = changes (SetVar v) s (λ a. set_variable v a)
does f s (PutAt r) = changes_two (PutAt r) s (λ o holder. put f.telling.setting (object_at o) r (object_at holder))
does f s Move = changes_two Move s (λ o holder. move f.telling.setting (object_at o) (object_at holder))
does f s Away = changes Away s (λ o. take_away f.telling.setting (object_at o))
does f s (ValueName q) = with_one s.operands (λ o rest. says (ValueName q) s rest (value_name f.telling.setting q (value_at f.telling.setting s.progress.world q (object_at o))))
does f s (SetValue q value) = changes (SetValue q value) s (λ o. make_value f.telling.setting (object_at o) q value)
does f s (Try silent action) = with_two s.operands (λ noun second rest. unless_abandoned (f.inner.tries (tried_with silent action noun second) s.progress) (then_at (Try silent action) s rest))
does f s (Follow book) = unless_abandoned (f.inner.follows book f.now s.progress) (then_at (Follow book) s s.operands)
does f s (IfZero place) = with_one s.operands (λ a rest. goes_to s rest (if is_true a then s.place + 3 else place))
does f s (Jump place) = goes_to s s.operands place
does f s (Begin k) = Goes (record (behind (Begin k) s) { loops = s.loops ++ None ∷ [] })
does f s (Next k test exit) = unless_abandoned (next_object f s k test) (turns_to (Next k test exit) s k exit)
does f s (EndStory string) = then_at (EndStory string) s s.operands (change (end_with (f.strings string)) s.progress)
does f s Done = Leaves GoesOn s.progress
does f s NoDecision = Leaves Undecided s.progress
does f s Success = Leaves (Decides Succeeds) s.progress
does f s Failure = Leaves (Decides Fails) s.progress
does f s Answer = with_one s.operands (λ a rest. Answers (is_true a))

-- ---- runs

abbrev pub does_at : Frame → State → Option Instruction → Step
does_at f s None = Stuck
does_at f s (Some i) = does f s i

-- one instruction of a code
abbrev pub step : Frame → List Instruction → State → Step
step f code s = does_at f s (at_place code s.place)

abbrev pub goes_further : (State → Step) → Step → Step
goes_further more (Goes s) = more s
goes_further more step = step

-- so many instructions at most
unfoldable pub run : Frame → List Instruction → ℕ → State → Step
run f code zero s = Goes s
run f code (suc n) s = goes_further (run f code n) (step f code s)
