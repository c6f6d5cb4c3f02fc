-- What is promised of tables of codes.
use Rattle.std.specs.Prelude.{◌≡◌, ◌⊎◌, ℕ, ◌<◌, List, [], length, map, Some, slice_get, slice_index, slice_index_or}
use Rattle.std.specs.List.{AllByRecursion, flat_map}
use Rattle.play_meaning.specs.Codes.{Codes, RunsTo, description_said, test_of}
use Rattle.play_meaning.specs.Doing.{Inner, do_body}
use Rattle.play_meaning.specs.Progress.{Progress}
use Rattle.play_meaning.specs.Saying.{Telling, said_in}
use Rattle.play_meaning.specs.Scripts.{scope_of}
use Rattle.play_meaning.specs.Translation.{strings_of_body, strings_of_text}
use Rattle.play_meaning.specs.Trees.{Body, Condition, Text}
use Rattle.play_meaning.specs.Truth.{truth_in}
use Rattle.play_meaning.specs.Worlds.{World}
use Rattle.play_meaning.specs.declared.action.ActionNow.{ActionNow}
use Rattle.play_meaning.specs.declared.instruction.Instruction.{Instruction}
use Rattle.play_meaning.specs.declared.operand.Counts.{Counts}
use Rattle.play_meaning.specs.declared.operand.Use.{Use}
use Rattle.story_code.specs.Emits.{AreSpelled}
use Rattle.story_code.specs.Runs.{AreSoundTogether, code_told}
use Rattle.story_code.specs.Soundness.{Judged}
use Rattle.story_code.specs.Spelling.{spelling}
use Rattle.code_table.specs.Emitted.{AllFit, CanBeSaid, HaveNoTable, codes_of_origins}
use Rattle.code_table.specs.Origins.{Asks, Describes, Does, Origin, strings_of_origin, use_for}
use Rattle.code_table.specs.Strings.{strings_of}
use Rattle.code_table.specs.Tables.{IsTableOf}
use Rattle.code_table.specs.declared.fault.TableFault.{TableFault}
use Rattle.code_table.specs.declared.fault.TableFault.TheVariants.{Memory}

-- where objects have numbers of two bytes
abbrev pub TablesAreSoundTogether : Type 0
TablesAreSoundTogether = (z : Counts) (heads : List Use) (codes : List (List ℕ)) (judged : List Judged) → z.objects < 65536 → IsTableOf z heads codes judged → AreSoundTogether judged

-- codes are judged in one way
abbrev pub OneTable : Type 0
OneTable = (z : Counts) (heads : List Use) (codes : List (List ℕ)) (one another : List Judged) → IsTableOf z heads codes one → IsTableOf z heads codes another → one ≡ another

-- codes of bytes are a table or none
abbrev pub TableOrNone : Type 0
TableOrNone = (z : Counts) (heads : List Use) (codes : List (List ℕ)) → AllByRecursion (λ bytes. (i : ℕ) → slice_index bytes i < 256) codes
    → ((judged : List Judged) × IsTableOf z heads codes judged) ⊎ ((judged : List Judged) → IsTableOf z heads codes judged → ⊥)

-- what other tables name is there, for the use for which they name it: as a description (`IsDescription`), a body (`IsBody`) or a
-- test (`IsTestAt`)
abbrev pub HeadsAreForTheirUses : Type 0
HeadsAreForTheirUses = (z : Counts) (heads : List Use) (codes : List (List ℕ)) (judged : List Judged) (n : ℕ) (role : Use) → IsTableOf z heads codes judged → slice_get heads n ≡ Some role
    → (j : Judged) × ((slice_get judged n ≡ Some j) × (j.sizes.role ≡ role))

-- they are the codes that the bytes spell
abbrev pub TablesAreTold : Type 0
TablesAreTold = (z : Counts) (heads : List Use) (bytes : List (List ℕ)) (judged : List Judged) (codes : List (List Instruction)) → IsTableOf z heads bytes judged → AreSpelled bytes codes
    → map code_told judged ≡ codes

-- ---- the codes of texts, rules and scenes

-- origins that fit, and that bytes can say, are a table, whose first codes are for what they are
abbrev pub OriginsAreTables : Type 0
OriginsAreTables = (z : Counts) (string : List ℕ → ℕ) (origins : List Origin) → AllFit z string origins → CanBeSaid string origins
    → (judged : List Judged) × IsTableOf (record z { codes = length (map spelling (codes_of_origins string origins)) }) (map use_for origins) (map spelling (codes_of_origins string origins)) judged

-- nothing but memory is told of why they have no table
abbrev pub NeverTableAndNone : Type 0
NeverTableAndNone = (z : Counts) (string : List ℕ → ℕ) (origins : List Origin) (fault : TableFault)
    → AllFit z string origins → CanBeSaid string origins → HaveNoTable z string origins fault → fault ≡ Memory

-- among the codes of a story, where each string stands by its number, the code of a text's number says it
abbrev pub DescriptionsAreSaid : Type 0
DescriptionsAreSaid = (z : Counts) (c : Codes) (string : List ℕ → ℕ) (origins : List Origin) (n : ℕ) (text : Text) (t : Telling) (now : ActionNow) (w : World)
    → AllFit z string origins → c.codes ≡ codes_of_origins string origins → slice_get origins n ≡ Some (Describes text)
    → AllByRecursion (λ bytes. slice_index_or c.strings (string bytes) [] ≡ bytes) (strings_of_text text)
    → description_said c t n now w ≡ said_in t (scope_of now) w text

-- the code of a condition's number answers what it is
abbrev pub ConditionsAreAnswered : Type 0
ConditionsAreAnswered = (z : Counts) (c : Codes) (string : List ℕ → ℕ) (origins : List Origin) (n : ℕ) (condition : Condition) (t : Telling) (now : ActionNow) (w : World)
    → AllFit z string origins → c.codes ≡ codes_of_origins string origins → slice_get origins n ≡ Some (Asks condition)
    → test_of c t now n [] w ≡ truth_in t.setting (scope_of now) w condition

-- a run of the code of a body's number does what it means, whatever trying an action and following a rulebook do
abbrev pub BodiesAreDone : Type 0
BodiesAreDone = (z : Counts) (c : Codes) (string : List ℕ → ℕ) (origins : List Origin) (n : ℕ) (body : Body) (t : Telling) (inner : Inner) (now : ActionNow) (p : Progress)
    → AllFit z string origins → c.codes ≡ codes_of_origins string origins → slice_get origins n ≡ Some (Does body)
    → AllByRecursion (λ bytes. slice_index_or c.strings (string bytes) [] ≡ bytes) (strings_of_body body)
    → RunsTo c t inner n now p (do_body t inner body (scope_of now) p)

-- the strings that the codes name are those that the origins say, in order
abbrev pub StringsAreInOrder : Type 0
StringsAreInOrder = (string : List ℕ → ℕ) (origins : List Origin) → strings_of (codes_of_origins string origins) ≡ map string (flat_map strings_of_origin origins)
