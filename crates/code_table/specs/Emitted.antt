-- The codes of texts, rules and scenes: those of all origins in turn, and behind them all tests that they name, in turn.
use Rattle.std.specs.Prelude.{◌≡◌, ℕ, ◌+◌, ◌<◌, Bool, true, false, List, length, map}
use Rattle.std.specs.List.{AllByRecursion, flat_map}
use Rattle.play_meaning.specs.TranslatedScripts.{codes_emitted, emitted_in_turn}
use Rattle.play_meaning.specs.Translation.{Emitted}
use Rattle.play_meaning.specs.declared.instruction.Instruction.{Instruction}
use Rattle.play_meaning.specs.declared.operand.Counts.{Counts}
use Rattle.story_code.specs.Emitting.{can_say_all}
use Rattle.story_code.specs.Soundness.{Judged}
use Rattle.story_code.specs.SoundlyEmitted.{among}
use Rattle.code_table.specs.Origins.{Fits, Origin, part_of, use_for}
use Rattle.code_table.specs.Tables.{IsTableOf}
use Rattle.code_table.specs.declared.fault.TableFault.{TableFault}
use Rattle.code_table.specs.declared.fault.TableFault.TheVariants.{TooLong, TooMany, Memory}

-- of each origin its code and the tests that this names, the first test of this number, each string by its own
abbrev pub origins_from : (List ℕ → ℕ) → ℕ → List Origin → List Emitted
origins_from string first origins = emitted_in_turn first (map (part_of string) origins)

-- the number behind those of their tests
abbrev pub number_from : (List ℕ → ℕ) → ℕ → List Origin → ℕ
number_from string first origins = first + length (flat_map (λ e. e.tests) (origins_from string first origins))

-- the first test stands behind all origins' codes
abbrev pub origins_emitted : (List ℕ → ℕ) → List Origin → List Emitted
origins_emitted string origins = origins_from string (length origins) origins

abbrev pub codes_of_origins : (List ℕ → ℕ) → List Origin → List (List Instruction)
codes_of_origins string origins = codes_emitted (origins_emitted string origins)

-- each origin fits, whatever number its code has, and however many codes there are
abbrev pub AllFit : Counts → (List ℕ → ℕ) → List Origin → Type 0
AllFit z string origins = AllByRecursion (λ origin. (own codes : ℕ) → Fits (among z own codes) string origin) origins

-- bytes can say their codes and tests, and the numbers of all of these
pub record CanBeSaid (string : List ℕ → ℕ) (origins : List Origin) : Type 0 where
  pub each : AllByRecursion (λ e. can_say_all e ≡ true) (origins_emitted string origins)
  pub few : length (codes_of_origins string origins) < 65536

-- these bytes are a table of codes, the first for what these origins are
abbrev pub AreTableFor : Counts → List Origin → List (List ℕ) → Type 0
AreTableFor z origins codes = (judged : List Judged) × IsTableOf (record z { codes = length codes }) (map use_for origins) codes judged

-- why origins have no table of codes: not all fit, or bytes can't say the codes of one and its tests; there are too many codes; or memory
abbrev pub HaveNoTable : Counts → (List ℕ → ℕ) → List Origin → TableFault → Type 0
HaveNoTable z string origins TooLong = AllFit z string origins → AllByRecursion (λ e. can_say_all e ≡ true) (origins_emitted string origins) → ⊥
HaveNoTable z string origins TooMany = 65535 < length (codes_of_origins string origins)
HaveNoTable z string origins Memory = Unit {0}

-- ---- one by itself

-- an origin fits, whatever number its code has, and bytes can say its code and the tests that it names, had the first of these the number 0
pub record IsShort (z : Counts) (string : List ℕ → ℕ) (origin : Origin) : Type 0 where
  pub fits : (own codes : ℕ) → Fits (among z own codes) string origin
  pub said : can_say_all (part_of string origin 0 0) ≡ true

abbrev pub AllShort : Counts → (List ℕ → ℕ) → List Origin → Type 0
AllShort z string origins = AllByRecursion (IsShort z string) origins

-- whether one of these is too long
abbrev pub IsToldLong : Counts → (List ℕ → ℕ) → List Origin → Bool → Type 0
IsToldLong z string origins true = AllShort z string origins → ⊥
IsToldLong z string origins false = AllShort z string origins
