-- Runs of a story's codes over a ground: how they stand, and what a step of them comes to.
use Rattle.std.specs.Prelude.{◌≡◌, ◌≢◌, ℕ, zero, suc, ℤ, ◌+◌, ◌-◌, ◌<◌, ◌≤◌, Bool, true, false, List, [], ◌∷◌, ◌++◌, map, length, MatchResult, Option, None, Result, Some, Ok, Err, is_some, slice_get, slice_index_or, take}
use Rattle.std.specs.List.{range_with_len}
use Rattle.play_meaning.specs.Attempts.{Attempt, next}
use Rattle.play_meaning.specs.Codes.{Codes, frame_of, test_within}
use Rattle.play_meaning.specs.Doing.{Inner}
use Rattle.play_meaning.specs.Grounds.{Fixed}
use Rattle.play_meaning.specs.Instructions.{at_place, row_of, size_of}
use Rattle.play_meaning.specs.Machines.{Abandons, Answers, Frame, Goes, Leaves, State, Step, does, first_passing, number_behind, passing}
use Rattle.play_meaning.specs.Progress.{Progress}
use Rattle.play_meaning.specs.Saying.{Telling}
use Rattle.play_meaning.specs.SoundCodes.{IsSound}
use Rattle.play_meaning.specs.Stands.{HasOnTop, StandsBy, is_body, taken_by}
use Rattle.play_meaning.specs.Worlds.{World}
use Rattle.play_meaning.specs.declared.action.ActionNow.{ActionNow}
use Rattle.play_meaning.specs.declared.instruction.Instruction.{Instruction}
use Rattle.play_meaning.specs.declared.instruction.Instruction.TheVariants.{Begin, Count, Names, Next, Num}
use Rattle.play_meaning.specs.declared.operand.Use.TheVariants.{Body, Describing, Test}
use Rattle.play_meaning.specs.declared.outcome.Flow.TheVariants.{GoesOn}
use Rattle.world_meaning.specs.declared.session.Abandon.{Abandon}
use Rattle.world_meaning.specs.declared.session.Abandon.TheVariants.{Memory}
use Rattle.story_code.specs.Fronts.{code_in}
use Rattle.story_code.specs.Soundness.{IsSoundCode, Judged}
use Rattle.story_code.specs.declared.came.Came.{Came}
use Rattle.story_code.specs.declared.came.Came.TheVariants.{Answered, Left, On}

-- ---- codes

abbrev pub code_or_none : Option (List Instruction) → List Instruction
code_or_none None = []
code_or_none (Some code) = code

-- the code that bytes spell
abbrev pub code_told : Judged → List Instruction
code_told j = code_or_none (code_in j.bytes)

abbrev pub codes_of : Fixed → List Judged → Codes
codes_of fixed judged = record { strings = fixed.strings; codes = map code_told judged }

-- a test inside so many loops
abbrev pub IsTestAt : List Judged → ℕ → ℕ → Type 0
IsTestAt judged n loops = (j : Judged) × ((slice_get judged n ≡ Some j) × (j.sizes.role ≡ Test loops))

-- the loop that a test of an instruction is inside, innermost, and the test
abbrev pub test_named : Instruction → Option (ℕ × ℕ)
test_named (Count k test) = Some (k, test)
test_named (Names naming k test) = Some (k, test)
test_named (Next k test exit) = Some (k, test)
test_named i = None

abbrev pub IsTestOf : List Judged → Option (ℕ × ℕ) → Type 0
IsTestOf judged None = Unit {0}
IsTestOf judged (Some named) = IsTestAt judged named.1 (named.0 + 1)

-- the test that an instruction names is one, inside one loop more than are open
abbrev pub NamesItsTest : List Judged → Instruction → Type 0
NamesItsTest judged i = IsTestOf judged (test_named i)

-- a code that stands rightly among others: it is sound, judged by its own number among all of them and by no more objects than
-- have numbers, and names tests for what they are
pub record IsOneOf (judged : List Judged) (n : ℕ) (j : Judged) : Type 0 where
  pub sound : IsSoundCode j.sizes j.bytes
  pub few : j.sizes.counts.objects < 65536
  pub own : j.sizes.counts.own ≡ n
  pub all : j.sizes.counts.codes ≡ length judged
  pub tests : (place : ℕ) (i : Instruction) → at_place (code_told j) place ≡ Some i → NamesItsTest judged i

-- codes that are sound together
abbrev pub AreSoundTogether : List Judged → Type 0
AreSoundTogether judged = (n : ℕ) (j : Judged) → slice_get judged n ≡ Some j → IsOneOf judged n j

abbrev pub IsBody : List Judged → ℕ → Type 0
IsBody judged n = (j : Judged) × ((slice_get judged n ≡ Some j) × (j.sizes.role ≡ Body))

abbrev pub IsDescription : List Judged → ℕ → Type 0
IsDescription judged n = (j : Judged) × ((slice_get judged n ≡ Some j) × (j.sizes.role ≡ Describing))

-- what describes an object, whatever its number of two bytes, is a description's code
abbrev pub AreDescribedBy : List Judged → Fixed → Type 0
AreDescribedBy judged fixed = (o n : ℕ) → o < 65536 → fixed.descriptions o ≡ Some n → IsDescription judged n

-- ---- states

pub record Standing : Type 0 where
  pub code : ℕ
  pub place : ℕ
  pub operands : List ℤ
  pub loops : List (Option ℕ)
  pub work : ℕ

-- a run that stands so, over a world and behind what it said
abbrev pub state_in : Standing → World → List ℕ → State
state_in s w text = record { place = s.place; operands = s.operands; loops = s.loops; progress = record { world = w; text = text; work = s.work } }

abbrev pub over : ℤ → Standing → Standing
over a s = record s { operands = a ∷ s.operands }

abbrev pub behind : Instruction → Standing → Standing
behind i s = record s { place = s.place + size_of i }

-- ---- frames

abbrev pub Describes : Type 0
Describes = ℕ → ActionNow → World → Attempt (List ℕ)

abbrev pub telling_in : Fixed → Describes → Telling
telling_in fixed describes = record { setting = fixed.setting; describes = describes }

-- tests that name each other are run so deep at most
abbrev pub frame_in : Fixed → List Judged → ActionNow → ℕ → Describes → Inner → Frame
frame_in fixed judged now depth describes inner =
    frame_of (codes_of fixed judged) (telling_in fixed describes) inner (test_within depth (codes_of fixed judged) (telling_in fixed describes) now) now

-- ---- what an instruction finds

abbrev pub gives_one : Instruction → Bool
gives_one (Num n) = true
gives_one i = is_some (row_of i).gives

-- what it takes is there, and room for what it gives
pub record IsServed (i : Instruction) (s : Standing) : Type 0 where
  pub place : s.place < 65536
  pub many : length (taken_by i) ≤ length s.operands
  pub operands : HasOnTop (taken_by i) s.operands
  pub room : gives_one i ≡ true → length s.operands < 64 + length (taken_by i)

-- ---- instructions that read

abbrev pub step_to : Came → State → Step
step_to On s = Goes s
step_to Left s = Leaves GoesOn s.progress
step_to (Answered truth) s = Answers truth

-- what an instruction does, whatever describes and whatever is tried, with tests run deep enough for those that the code
-- names
abbrev pub DoesSo : Fixed → List Judged → ActionNow → World → Instruction → Standing → List ℕ → Step → Type 0
DoesSo fixed judged now w i s text step =
    (depth : ℕ) (describes : Describes) (inner : Inner) → length judged ≤ s.code + suc depth → does (frame_in fixed judged now depth describes inner) (state_in s w text) i ≡ step

-- an instruction led there
abbrev pub Leads : Fixed → List Judged → ActionNow → World → Instruction → Standing → List ℕ → Came → Standing → List ℕ → Type 0
Leads fixed judged now w i s text came t said = DoesSo fixed judged now w i s text (step_to came (state_in t w said))

-- it broke play off, unless memory lacked
abbrev pub BreaksOff : Fixed → List Judged → ActionNow → World → Instruction → Standing → List ℕ → Abandon → Type 0
BreaksOff fixed judged now w i s text reason = reason ≢ Memory → DoesSo fixed judged now w i s text (Abandons reason)

-- what came of an instruction of a test or a description: the run goes on or ends so, or play broke off
abbrev pub CameTo : Fixed → List Judged → ActionNow → World → Instruction → Standing → List ℕ → Result Came Abandon → Standing → List ℕ → Type 0
CameTo fixed judged now w i s text result t said = MatchResult result (λ came. Leads fixed judged now w i s text came t said) (BreaksOff fixed judged now w i s text)

-- what came of an instruction behind which a run goes on, unless play broke off
abbrev pub Proceeds : {A : Type 0} → Fixed → List Judged → ActionNow → World → Instruction → Standing → List ℕ → Result A Abandon → Standing → List ℕ → Type 0
Proceeds fixed judged now w i s text result t said = MatchResult result (λ done. Leads fixed judged now w i s text On t said) (BreaksOff fixed judged now w i s text)

-- this is so of what is answered: a value, or why play is abandoned, unless memory lacked
abbrev pub Tells : {R A : Type 0} → (Attempt A → Type 0) → (R → A) → Result R Abandon → Type 0
Tells is value result = MatchResult result (λ r. is (Ok (value r))) (λ reason. reason ≢ Memory → is (Err reason))

-- ---- tests

-- what a test answers, run deep enough for it and those that it names
abbrev pub TestIs : Fixed → List Judged → ActionNow → World → ℕ → List (Option ℕ) → Attempt Bool → Type 0
TestIs fixed judged now w n loops answer =
    (depth : ℕ) (describes : Describes) → length judged ≤ n + depth → test_within depth (codes_of fixed judged) (telling_in fixed describes) now n loops w ≡ answer

-- whether an object passes a test that a code names, inside these loops
abbrev pub passes_in : Fixed → List Judged → ActionNow → World → ℕ → Describes → ℕ → List (Option ℕ) → ℕ → Attempt Bool
passes_in fixed judged now w depth describes test outer o = test_within depth (codes_of fixed judged) (telling_in fixed describes) now test (outer ++ Some o ∷ []) w

-- how many of so many objects from this number on pass
abbrev pub counted_if : Bool → ℕ → ℕ
counted_if true n = suc n
counted_if false n = n

abbrev pub count_passing : (ℕ → Attempt Bool) → ℕ → ℕ → Attempt ℕ
count_passing test zero o = Ok 0
count_passing test (suc left) o = next (test o) (λ is. next (count_passing test left (o + 1)) (λ n. Ok (counted_if is n)))

abbrev pub kept_if : Bool → List ℕ → ℕ → List ℕ
kept_if true kept o = kept ++ o ∷ []
kept_if false kept o = kept

-- a test inside one loop more than these, named by a code before it
pub record IsNamedTest (judged : List Judged) (code : ℕ) (outer : ℕ) (test : ℕ) : Type 0 where
  pub few : outer < 9
  pub later : code < test
  pub there : IsTestAt judged test (outer + 1)

-- how many objects pass a test that a code names, inside these loops
abbrev pub CountIs : Fixed → List Judged → ActionNow → World → List (Option ℕ) → ℕ → Attempt ℕ → Type 0
CountIs fixed judged now w loops test answer =
    (depth : ℕ) (describes : Describes) → length judged ≤ test + depth → count_passing (passes_in fixed judged now w depth describes test loops) fixed.setting.count 0 ≡ answer

-- which objects pass it, by rising number
abbrev pub PassingAre : Fixed → List Judged → ActionNow → World → List (Option ℕ) → ℕ → Attempt (List ℕ) → Type 0
PassingAre fixed judged now w loops test answer =
    (depth : ℕ) (describes : Describes) → length judged ≤ test + depth → passing (passes_in fixed judged now w depth describes test loops) (range_with_len 0 fixed.setting.count) ≡ answer

-- which object a loop turns to next: the first one behind that of its last turn that passes its test
abbrev pub NextIs : Fixed → List Judged → ActionNow → World → List (Option ℕ) → ℕ → ℕ → Attempt (Option ℕ) → Type 0
NextIs fixed judged now w loops k test answer =
    (depth : ℕ) (describes : Describes) → length judged ≤ test + depth
    → first_passing (passes_in fixed judged now w depth describes test (take k loops))
    (fixed.setting.count - number_behind (slice_index_or loops k None)) (number_behind (slice_index_or loops k None)) ≡ answer

-- what an instruction says of the open loops: its test is one inside them, and there is room for the one that it opens
abbrev pub LoopsSuit : List Judged → Standing → Instruction → Type 0
LoopsSuit judged s (Count k test) = (k ≡ length s.loops) × IsNamedTest judged s.code (length s.loops) test
LoopsSuit judged s (Names naming k test) = (k ≡ length s.loops) × IsNamedTest judged s.code (length s.loops) test
LoopsSuit judged s (Next k test exit) = (k + 1 ≡ length s.loops) × IsNamedTest judged s.code k test
LoopsSuit judged s (Begin k) = length s.loops < 9
LoopsSuit judged s i = Unit {0}

-- ---- runs that stand

-- a run that stands as its code's labels say, whatever it did so far
pub record IsStanding (judged : List Judged) (s : Standing) : Type 0 where
  pub code : Judged
  pub there : slice_get judged s.code ≡ Some code
  pub few : code.sizes.counts.objects < 65536
  pub sound : IsSound code.sizes.counts code.sizes.role (code_told code)
  pub stands : (p : Progress) → StandsBy sound (record { place = s.place; operands = s.operands; loops = s.loops; progress = p })

-- one of a test or a description
pub record MayRead (judged : List Judged) (s : Standing) : Type 0 where
  pub run : IsStanding judged s
  pub reads : is_body run.code.sizes.role ≡ false

-- one of a body
pub record MayDo (judged : List Judged) (s : Standing) : Type 0 where
  pub run : IsStanding judged s
  pub does : run.code.sizes.role ≡ Body

abbrev pub code_at : List Judged → ℕ → List Instruction
code_at judged n = slice_index_or (map code_told judged) n []

-- the instruction at which a run stands: what it takes is there, and the loops suit it
pub record IsFetched (judged : List Judged) (s : Standing) (i : Instruction) : Type 0 where
  pub at : at_place (code_at judged s.code) s.place ≡ Some i
  pub served : IsServed i s
  pub loops : LoopsSuit judged s i

-- behind an instruction that leads on the run stands again, further on in the same code
pub record LeadsOn (judged : List Judged) (s t : Standing) : Type 0 where
  pub stands : MayRead judged t
  pub same : t.code ≡ s.code
  pub further : s.place < t.place
