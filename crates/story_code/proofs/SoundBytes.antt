-- The bytes of what was emitted soundly are sound codes, and stand rightly in a story that holds them.
use Rattle.std.proofs.Common.{◌≡◌, ◌∙◌, ap, sym, refl, inl, inr, ℕ, ◌+◌, ◌-◌, ◌<◌, ◌⊎◌, ◌&&◌, nat_lt, true, List, [], ◌∷◌, length, Option, None, Some, slice_get, subst, arith}
use Rattle.std.proofs.lemmas.Bool.{and_parts, ltb-true}
use Rattle.std.specs.List.{list_all}
use Rattle.play_meaning.specs.Instructions.{at_place, size_of, sizes}
use Rattle.play_meaning.specs.SoundCodes.{IsSound}
use Rattle.play_meaning.specs.Translation.{Emitted}
use Rattle.play_meaning.specs.declared.instruction.Instruction.{Instruction}
use Rattle.play_meaning.specs.declared.operand.Counts.{Counts}
use Rattle.play_meaning.specs.declared.operand.Use.{Use}
use Rattle.play_meaning.specs.declared.operand.Use.TheVariants.{Test}
use Rattle.story_code.specs.Emits.{AreEmitted, AreSpelled}
use Rattle.story_code.specs.Emitting.{can_say_all, can_say_code, opens_few}
use Rattle.story_code.specs.Runs.{IsTestOf, NamesItsTest, code_or_none, code_told, test_named}
use Rattle.story_code.specs.SoundlyEmitted.{ArePlaced, AreSoundCodes, IsPlaced, IsSoundTest, IsSoundTestCode, IsSoundlyEmitted, NameInTurn, NamesNext, NamesNone, StandsRightly, sizes_as}
use Rattle.story_code.specs.Soundness.{IsSoundCode, Judged}
use Rattle.story_code.specs.Spelling.{Spells, can_spell}
use Rattle.story_code.specs.declared.sizes.Sizes.{Sizes}
use Rattle.story_code.proofs.Exact.{spelling_size, spells_in}
use Rattle.story_code.proofs.Places.{at_cases}

-- ---- bytes

bytes_sound : (z : Sizes) (code : List Instruction) (bytes : List ℕ) → IsSound z.counts z.role code → Spells bytes code → can_say_code code ≡ true → IsSoundCode z bytes
bytes_sound z code bytes sound spells said =
    let few = ltb-true (sizes code) 65536 (and_parts (nat_lt (sizes code) 65536) (list_all can_spell code && list_all opens_few code) said).0 in
    let short : length bytes < 65536 = omega (arith, few, ap length spells.whole, spelling_size code) in
    record { short = short; code = code; spells = spells; sound = sound }

-- tests that were named in turn, and their bytes
tests_sound : (z : Counts) (is : List Instruction) (n : ℕ) (tests : List (List Instruction)) (bytes : List (List ℕ)) → NameInTurn (IsSoundTest z) is n tests → AreSpelled bytes tests
    → list_all can_say_code tests ≡ true → NameInTurn (IsSoundTestCode z) is n bytes
unfolding bytes_sound
tests_sound z [] n [] [] names spelled said = refl
tests_sound z [] n [] (b ∷ bytes) names spelled said = absurd spelled
tests_sound z [] n (test ∷ tests) bytes names spelled said = let no : ⊥ = cc in absurd no
tests_sound z (i ∷ is) n tests bytes names spelled said = by_name (λ m more others. tests_sound z is m more others) (test_named i) tests bytes names spelled said
  where
    by_name : ((m : ℕ) (tests : List (List Instruction)) (bytes : List (List ℕ)) → NameInTurn (IsSoundTest z) is m tests → AreSpelled bytes tests → list_all can_say_code tests ≡ true
        → NameInTurn (IsSoundTestCode z) is m bytes)
        → (named : Option (ℕ × ℕ)) (tests : List (List Instruction)) (bytes : List (List ℕ)) → NamesNext (IsSoundTest z) (λ m more. NameInTurn (IsSoundTest z) is m more) n named tests
        → AreSpelled bytes tests
        → list_all can_say_code tests ≡ true → NamesNext (IsSoundTestCode z) (λ m more. NameInTurn (IsSoundTestCode z) is m more) n named bytes
    by_name later None tests bytes names spelled said = later n tests bytes names spelled said
    by_name later (Some named) [] bytes names spelled said = absurd names
    by_name later (Some named) (test ∷ tests) [] names spelled said = absurd spelled
    by_name later (Some named) (test ∷ tests) (b ∷ bytes) names spelled said =
        let both = and_parts (can_say_code test) (list_all can_say_code tests) said in
        let sound = bytes_sound (sizes_as z (Test (named.0 + 1)) n) test b names.1.0.0 spelled.0 both.0 in
        (names.0, ((sound, names.1.0.1), later (n + 1) tests bytes names.1.1 spelled.1 both.1))

pub codes_sound : (z : Counts) (role : Use) (first : ℕ) (e : Emitted) (bytes : List (List ℕ)) → IsSoundlyEmitted z role first e → AreEmitted e bytes → AreSoundCodes z role first bytes
unfolding bytes_sound can_say_all
codes_sound z role first e [] sound emitted = absurd emitted.spelled
codes_sound z role first e (b ∷ bytes) sound emitted =
    let both = and_parts (can_say_code e.code) (list_all can_say_code e.tests) emitted.said in
    (bytes_sound (sizes_as z role z.own) e.code b sound.code emitted.spelled.0 both.0, tests_sound z e.code first e.tests bytes sound.tests emitted.spelled.1 both.1)

-- ---- among the codes of a story

names_nothing : (judged : List Judged) (named : Option (ℕ × ℕ)) → named ≡ None → IsTestOf judged named
names_nothing judged None none = tt
names_nothing judged (Some named) none = let no : ⊥ = cc in absurd no

none_there : (judged : List Judged) (is : List Instruction) (q : ℕ) (i : Instruction) → NamesNone is → at_place is q ≡ Some i → NamesItsTest judged i
none_there judged [] q i none at = let no : ⊥ = cc in absurd no
none_there judged (j ∷ is) q i none at = elim (at_cases j is q i at) [
  | inl f ↦ subst (NamesItsTest judged) f.1 (names_nothing judged (test_named j) none.0)
  | inr f ↦ none_there judged is (q - size_of j) i none.1 f.1
]

-- the code told by the bytes of a sound code
told : (z : Sizes) (bytes : List ℕ) (sound : IsSoundCode z bytes) → code_told (record { sizes = z; bytes = bytes }) ≡ sound.code
told z bytes sound = ap code_or_none (spells_in bytes sound.code sound.spells)

module _ (judged : List Judged) (z : Counts) where
  abbrev Placed : ℕ → ℕ → List ℕ → Type 0
  Placed n loops test = IsPlaced judged z (Test loops) n test

  abbrev Stands : ℕ → ℕ → List ℕ → Type 0
  Stands n loops test = StandsRightly judged z (Test loops) n test

  placed_there : (is : List Instruction) (n : ℕ) (tests : List (List ℕ)) (q : ℕ) (i : Instruction) → NameInTurn Placed is n tests → at_place is q ≡ Some i → NamesItsTest judged i
  placed_there [] n tests q i names at = let no : ⊥ = cc in absurd no
  placed_there (j ∷ is) n tests q i names at =
      elim (by_name (test_named j) tests names (λ m more names. placed_there is m more (q - size_of j) i names)) [
        | inl never ↦ absurd never
        | inr both ↦ elim (at_cases j is q i at) [
          | inl f ↦ subst (NamesItsTest judged) f.1 both.0
          | inr f ↦ both.1 f.1
        ]
      ]
    where
      by_name : (named : Option (ℕ × ℕ)) (tests : List (List ℕ)) → NamesNext Placed (λ m more. NameInTurn Placed is m more) n named tests
          → ((m : ℕ) (more : List (List ℕ)) → NameInTurn Placed is m more → at_place is (q - size_of j) ≡ Some i → NamesItsTest judged i)
          → ⊥ ⊎ (IsTestOf judged named × (at_place is (q - size_of j) ≡ Some i → NamesItsTest judged i))
      by_name None tests names later = inr (tt, later n tests names)
      by_name (Some named) [] names later = inl names
      by_name (Some named) (test ∷ tests) names later =
          inr ((record { sizes = sizes_as z (Test (named.0 + 1)) n; bytes = test }, (ap (slice_get judged) names.0 ∙ names.1.0, refl)), later (n + 1) tests names.1.1)

  -- each test stands rightly, since it names none
  tests_stand : z.objects < 65536 → z.codes ≡ length judged → (is : List Instruction) (n : ℕ) (tests : List (List ℕ)) → NameInTurn (IsSoundTestCode z) is n tests
      → NameInTurn Stands is n tests
  tests_stand few all [] n tests names = names
  tests_stand few all (i ∷ is) n tests names = by_name (λ m more. tests_stand few all is m more) (test_named i) tests names
    where
      by_name : ((m : ℕ) (tests : List (List ℕ)) → NameInTurn (IsSoundTestCode z) is m tests → NameInTurn Stands is m tests)
          → (named : Option (ℕ × ℕ)) (tests : List (List ℕ)) → NamesNext (IsSoundTestCode z) (λ m more. NameInTurn (IsSoundTestCode z) is m more) n named tests
          → NamesNext Stands
          (λ m more. NameInTurn Stands is m more) n named tests
      by_name later None tests names = later n tests names
      by_name later (Some named) [] names = names
      by_name later (Some named) (test ∷ tests) names =
          let sizes = sizes_as z (Test (named.0 + 1)) n in
          let sound = names.1.0.0 in (
            names.0,
            (
              record {
                sound = sound;
                few = few;
                own = refl;
                all = all;
                tests = λ q i at. none_there judged sound.code q i names.1.0.1 (ap (λ is. at_place is q) (sym (told sizes test sound)) ∙ at);
              },
              later (n + 1) tests names.1.1,
            ),
          )

  pub codes_stand : (role : Use) (first : ℕ) (bytes : List ℕ) (tests : List (List ℕ)) (sound : AreSoundCodes z role first (bytes ∷ tests))
      → ArePlaced judged z role first sound.0.code bytes tests
      → StandsRightly judged z role z.own bytes
      × NameInTurn Stands sound.0.code first tests
  codes_stand role first bytes tests sound placed = (
    record {
      sound = sound.0;
      few = placed.few;
      own = refl;
      all = placed.all;
      tests = λ q i at. placed_there sound.0.code first tests q i placed.named (ap (λ is. at_place is q) (sym (told (sizes_as z role z.own) bytes sound.0)) ∙ at);
    },
    tests_stand placed.few placed.all sound.0.code first tests sound.1,
  )
