-- How the codes of texts, rules and scenes are put together one by one, as relations on lists: what the code is proved equal to.
use Rattle.std.specs.Prelude.{◌≡◌, ℕ, ◌+◌, ◌≤◌, nat_lt, false, List, [], ◌∷◌, ◌++◌, length, Option, None, Some, if◌then◌else◌}
use Rattle.play_meaning.specs.declared.operand.Counts.{Counts}
use Rattle.story_code.specs.Emits.{AreEmitted}
use Rattle.story_code.specs.Emitting.{can_say_all}
use Rattle.story_code.specs.SoundlyEmitted.{AreSoundAnywhere, among}
use Rattle.story_code.specs.declared.emit.EmitFault.{EmitFault}
use Rattle.story_code.specs.declared.emit.EmitFault.TheVariants as emit
use Rattle.code_table.specs.Emitted.{HaveNoTable}
use Rattle.code_table.specs.Origins.{Fits, Origin, part_of, use_for}
use Rattle.code_table.specs.declared.adding.Coded.{Coded}
use Rattle.code_table.specs.declared.fault.TableFault.{TableFault}
use Rattle.code_table.specs.declared.fault.TableFault.TheVariants.{TooLong, TooMany, Memory}

-- the number behind so many origins and tests, if two bytes say it
abbrev pub number_behind : ℕ → ℕ → Option ℕ
number_behind origins tests = if nat_lt (origins + tests) 65536 then Some (origins + tests) else None

-- these are the bytes of an origin's code and of the tests that it names, the first of this number
pub record IsCoded (z : Counts) (string : List ℕ → ℕ) (first : ℕ) (origin : Origin) (code : List ℕ) (tests : List (List ℕ)) : Type 0 where
  pub fits : (own codes : ℕ) → Fits (among z own codes) string origin
  pub emitted : AreEmitted (part_of string origin first 0) (code ∷ tests)
  pub sound : AreSoundAnywhere z (use_for origin) first (part_of string origin first 0) (code ∷ tests)

-- they are added behind those of the origins before, where so many codes stand in front of the first test
abbrev pub Adds : Counts → (List ℕ → ℕ) → ℕ → Origin → List (List ℕ) → List (List ℕ) → List (List ℕ) → List (List ℕ) → Type 0
Adds z string heads origin codes tests more_codes more_tests =
    (code : List ℕ) × ((own : List (List ℕ)) × ((more_codes ≡ codes ++ code ∷ []) × ((more_tests ≡ tests ++ own) × IsCoded z string (heads + length tests) origin code own)))

-- the bytes of origins' codes, and of the tests that they name in turn
abbrev pub AreCoded : Counts → (List ℕ → ℕ) → ℕ → List Origin → List (List ℕ) → List (List ℕ) → Type 0
AreCoded z string first [] codes tests = (codes ≡ []) × (tests ≡ [])
AreCoded z string first (origin ∷ origins) codes tests =
    (code : List ℕ) × ((own : List (List ℕ)) × (IsCoded z string first origin code own
    × ((others : List (List ℕ)) × ((later : List (List ℕ)) × ((codes ≡ code ∷ others) × ((tests ≡ own ++ later) × AreCoded z string (first + length own) origins others later))))))

-- these origins' codes are put behind whatever codes there are
abbrev pub AddAll : Counts → (List ℕ → ℕ) → ℕ → List Origin → List (List ℕ) → List (List ℕ) → List (List ℕ) → List (List ℕ) → Type 0
AddAll z string heads origins codes tests more_codes more_tests =
    (before : List Origin) → AreCoded z string heads before codes tests → AreCoded z string heads (before ++ origins) more_codes more_tests

-- what was put together becomes what is, by an origin and by several
abbrev pub AddsTo : Counts → (List ℕ → ℕ) → ℕ → Origin → Coded → Coded → Type 0
AddsTo z string heads origin old new = Adds z string heads origin old.codes.items old.tests.items new.codes.items new.tests.items

abbrev pub AddAllTo : Counts → (List ℕ → ℕ) → ℕ → List Origin → Coded → Coded → Type 0
AddAllTo z string heads origins old new = AddAll z string heads origins old.codes.items old.tests.items new.codes.items new.tests.items

-- ---- what isn't added

-- why an origin has no code, whose first test would have this number
abbrev pub HasNoCode : Counts → (List ℕ → ℕ) → ℕ → Origin → TableFault → Type 0
HasNoCode z string first origin TooLong = ((own codes : ℕ) → Fits (among z own codes) string origin) → can_say_all (part_of string origin first 0) ≡ false
HasNoCode z string first origin TooMany = 65536 ≤ first
HasNoCode z string first origin Memory = Unit {0}

-- why nothing that begins with these origins has a table, where so many codes stand in front of the first test
abbrev pub NoneWith : Counts → (List ℕ → ℕ) → ℕ → List Origin → TableFault → Type 0
NoneWith z string heads front fault = (behind : List Origin) → heads ≡ length (front ++ behind) → HaveNoTable z string (front ++ behind) fault

-- the same of these origins behind whatever others have these codes and tests
abbrev pub StopIn : Counts → (List ℕ → ℕ) → ℕ → List Origin → List (List ℕ) → List (List ℕ) → TableFault → Type 0
StopIn z string heads origins codes tests fault = (before : List Origin) → AreCoded z string heads before codes tests → NoneWith z string heads (before ++ origins) fault

-- of all that there is
abbrev pub HaveNone : Counts → (List ℕ → ℕ) → ℕ → List Origin → TableFault → Type 0
HaveNone z string heads origins fault = heads ≡ length origins → HaveNoTable z string origins fault

abbrev pub not_emitted : EmitFault → TableFault
not_emitted emit.TooLong = TooLong
not_emitted emit.Memory = Memory
