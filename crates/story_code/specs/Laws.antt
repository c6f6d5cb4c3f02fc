-- What is promised of codes and their bytes.
use Rattle.std.specs.Prelude.{◌≡◌, ℕ, false, List, [], ◌∷◌, Some, slice_get}
use Rattle.play_meaning.specs.Codes.{Codes, description_said}
use Rattle.play_meaning.specs.Saying.{Telling, said_in}
use Rattle.play_meaning.specs.Scripts.{scope_of}
use Rattle.play_meaning.specs.SoundCodes.{loops_around}
use Rattle.play_meaning.specs.Stands.{is_body}
use Rattle.play_meaning.specs.Translation.{Emitted}
use Rattle.play_meaning.specs.TranslatedScripts.{description_part, test_part}
use Rattle.play_meaning.specs.Trees as tree
use Rattle.play_meaning.specs.Worlds.{World}
use Rattle.play_meaning.specs.declared.action.ActionNow.{ActionNow}
use Rattle.play_meaning.specs.declared.instruction.Instruction.{Instruction}
use Rattle.play_meaning.specs.declared.operand.Counts.{Counts}
use Rattle.play_meaning.specs.declared.operand.Use.{Use}
use Rattle.play_meaning.specs.declared.operand.Use.TheVariants.{Body, Describing, Test}
use Rattle.story_code.specs.AmongCodes.{IsDescriptionAmong}
use Rattle.story_code.specs.Emits.{AreEmitted, whole_body}
use Rattle.story_code.specs.Fitting.{BodyFits, ConditionFits, TextFits}
use Rattle.story_code.specs.Runs.{AreSoundTogether, IsBody, MayDo, MayRead, Standing}
use Rattle.story_code.specs.SoundlyEmitted.{AreNumbered, ArePlaced, AreSoundCodes, IsSoundlyEmitted, NameInTurn, StandsRightly}
use Rattle.story_code.specs.Soundness.{Judged}
use Rattle.story_code.specs.Spelling.{Spells}

-- no bytes spell two codes
abbrev pub OneCode : Type 0
OneCode = (bytes : List ℕ) (one another : List Instruction) → Spells bytes one → Spells bytes another → one ≡ another

-- a run of a code that is no body, and around which no loop is open, may be read from its beginning
abbrev pub RunsBeginStanding : Type 0
RunsBeginStanding = (judged : List Judged) (number work : ℕ) (j : Judged) → AreSoundTogether judged → slice_get judged number ≡ Some j → is_body j.sizes.role ≡ false → loops_around j.sizes.role ≡ 0
    → MayRead judged (record { code = number; place = 0; operands = []; loops = []; work = work })

-- a run of a body stands at its beginning
abbrev pub BodiesBeginStanding : Type 0
BodiesBeginStanding = (judged : List Judged) (number work : ℕ) → AreSoundTogether judged → IsBody judged number
    → MayDo judged (record { code = number; place = 0; operands = []; loops = []; work = work })

-- it stands whatever work was done
abbrev pub RunsStandBehindAnyWork : Type 0
RunsStandBehindAnyWork = (judged : List Judged) (s : Standing) (work : ℕ) → MayDo judged s → MayDo judged (record s { work = work })

-- ---- what is emitted of trees that fit

-- whatever number the first test has, as long as there are codes of these numbers, each behind the code's own
abbrev pub BodiesAreSound : Type 0
BodiesAreSound = (z : Counts) (string : List ℕ → ℕ) (first : ℕ) (body : tree.Body) → BodyFits z string 0 body
    → AreNumbered z first (whole_body string body first 0).tests
    → IsSoundlyEmitted z Body first (whole_body string body first 0)

abbrev pub ConditionsAreSound : Type 0
ConditionsAreSound = (z : Counts) (first : ℕ) (condition : tree.Condition) → ConditionFits z 0 0 condition
    → AreNumbered z first (test_part condition first 0).tests
    → IsSoundlyEmitted z (Test 0) first (test_part condition first 0)

abbrev pub DescriptionsAreSound : Type 0
DescriptionsAreSound = (z : Counts) (string : List ℕ → ℕ) (first : ℕ) (text : tree.Text) → TextFits z Describing string 0 text
    → AreNumbered z first (description_part string text first 0).tests
    → IsSoundlyEmitted z Describing first (description_part string text first 0)

-- among the codes of a story the code of a description that fits says in every world what its text says, whatever numbers
-- the strings and the tests have
abbrev pub DescriptionsSayTheirTexts : Type 0
DescriptionsSayTheirTexts = (z : Counts) (c : Codes) (string : List ℕ → ℕ) (n first : ℕ) (text : tree.Text) (t : Telling) (now : ActionNow) (w : World)
    → TextFits z Describing string 0 text → AreNumbered z first (description_part string text first 0).tests → IsDescriptionAmong c string n first text
    → description_said c t n now w ≡ said_in t (scope_of now) w text

-- ---- their bytes, alone and in a story

abbrev pub EmittedBytesAreSound : Type 0
EmittedBytesAreSound = (z : Counts) (role : Use) (first : ℕ) (e : Emitted) (bytes : List (List ℕ)) → IsSoundlyEmitted z role first e → AreEmitted e bytes → AreSoundCodes z role first bytes

-- a story holds a code and the tests that it names, each by its number and for its use
abbrev pub SoundCodesStandRightly : Type 0
SoundCodesStandRightly = (judged : List Judged) (z : Counts) (role : Use) (first : ℕ) (bytes : List ℕ) (tests : List (List ℕ))
    (sound : AreSoundCodes z role first (bytes ∷ tests))
    → ArePlaced judged z role first sound.0.code bytes tests
    → StandsRightly judged z role z.own bytes × NameInTurn (λ n loops test. StandsRightly judged z (Test loops) n test) sound.0.code first tests
