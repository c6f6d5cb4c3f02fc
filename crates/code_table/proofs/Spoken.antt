-- Origins that fit, and whose codes bytes can say, are a table.
use Rattle.std.proofs.Common.{◌≡◌, ap, sym, subst, refl, ℕ, ◌+◌, true, ◌&&◌, nat_lt, List, [], ◌∷◌, length}
use Rattle.std.specs.List.{AllByRecursion, flat_map, list_all}
use Rattle.std.specs.Prelude.{map}
use Rattle.std.proofs.lemmas.Bool.{and_parts}
use Rattle.std.proofs.lemmas.List.{length-map, map-append}
use Rattle.play_meaning.specs.Instructions.{sizes}
use Rattle.play_meaning.specs.declared.instruction.Instruction.{Instruction}
use Rattle.play_meaning.specs.declared.operand.Counts.{Counts}
use Rattle.story_code.specs.Emits.{AreEmitted, AreSpelled}
use Rattle.story_code.specs.Emitting.{can_say_all, can_say_code, opens_few}
use Rattle.story_code.specs.Soundness.{Judged}
use Rattle.story_code.specs.SoundlyEmitted.{AreNumbered, IsSoundlyEmitted, among}
use Rattle.story_code.specs.Spelling.{Spells, can_spell, spelling}
use Rattle.story_code.proofs.SoundBytes.{codes_sound}
use Rattle.story_code.proofs.SoundTrees.{body_sound, condition_sound, description_sound}
use Rattle.code_table.specs.Coding.{AreCoded, IsCoded}
use Rattle.code_table.specs.Emitted.{AllFit, CanBeSaid, codes_of_origins, origins_emitted, origins_from}
use Rattle.code_table.specs.Origins.{Asks, Describes, Does, Fits, Origin, part_of, use_for}
use Rattle.code_table.specs.Tables.{IsTableOf}
use Rattle.code_table.proofs.Tabled.{table_of_origins}

pub code_spelled : (code : List Instruction) → can_say_code code ≡ true → Spells (spelling code) code
code_spelled code can = record { whole = refl; each = (and_parts (list_all can_spell code) (list_all opens_few code) (and_parts (nat_lt (sizes code) 65536) (list_all can_spell code && list_all opens_few code) can).1).0 }

pub codes_spelled : (codes : List (List Instruction)) → list_all can_say_code codes ≡ true → AreSpelled (map spelling codes) codes
codes_spelled [] can = tt
codes_spelled (code ∷ codes) can =
    let both = and_parts (can_say_code code) (list_all can_say_code codes) can in
    (code_spelled code both.0, codes_spelled codes both.1)

origin_sound : (z : Counts) (string : List ℕ → ℕ) (first : ℕ) (origin : Origin) → Fits z string origin → AreNumbered z first (part_of string origin first 0).tests
    → IsSoundlyEmitted z (use_for origin) first (part_of string origin first 0)
origin_sound z string first (Describes text) fits numbers = description_sound z first string text fits numbers
origin_sound z string first (Asks condition) fits numbers = condition_sound z first condition fits numbers
origin_sound z string first (Does body) fits numbers = body_sound z first string body fits numbers

module _ (z : Counts) (string : List ℕ → ℕ) where
  coded : (first : ℕ) (origins : List Origin) → AllFit z string origins → AllByRecursion (λ e. can_say_all e ≡ true) (origins_from string first origins)
      → AreCoded z string first origins (map spelling (map (λ e. e.code) (origins_from string first origins))) (map spelling (flat_map (λ e. e.tests) (origins_from string first origins)))
  unfolding can_say_all
  coded first [] fit said = (refl, refl)
  coded first (origin ∷ origins) fit said =
      let e = part_of string origin first 0 in
      let both = and_parts (can_say_code e.code) (list_all can_say_code e.tests) said.0 in
      let emitted : AreEmitted e (spelling e.code ∷ map spelling e.tests) = record { said = said.0; spelled = (code_spelled e.code both.0, codes_spelled e.tests both.1) } in
      let es = origins_from string (first + length e.tests) origins in
      let number : first + length (map spelling e.tests) ≡ first + length e.tests = ap (λ n. first + n) (length-map e.tests spelling) in
      let later = coded (first + length e.tests) origins fit.1 said.1 in
      let own : IsCoded z string first origin (spelling e.code) (map spelling e.tests) = record {
        fits = fit.0;
        emitted = emitted;
        sound = λ own codes numbers. codes_sound (among z own codes) (use_for origin) first e (spelling e.code ∷ map spelling e.tests) (origin_sound (among z own codes) string first origin (fit.0 own codes) numbers) emitted;
      } in (
        spelling e.code,
        (
          map spelling e.tests,
          (
            own,
            (
              map spelling (map (λ e. e.code) es),
              (
                map spelling (flat_map (λ e. e.tests) es),
                (
                  refl,
                  (
                    map-append spelling e.tests (flat_map (λ e. e.tests) es),
                    subst (λ n. AreCoded z string n origins (map spelling (map (λ e. e.code) es)) (map spelling (flat_map (λ e. e.tests) es))) (sym number) later,
                  ),
                ),
              ),
            ),
          ),
        ),
      )

pub origins_table : (z : Counts) (string : List ℕ → ℕ) (origins : List Origin) → AllFit z string origins → CanBeSaid string origins
    → (judged : List Judged) × IsTableOf (record z { codes = length (map spelling (codes_of_origins string origins)) }) (map use_for origins) (map spelling (codes_of_origins string origins)) judged
origins_table z string origins fit said =
    let es = origins_emitted string origins in
    table_of_origins z string origins (map spelling (map (λ e. e.code) es)) (map spelling (flat_map (λ e. e.tests) es)) (map spelling (codes_of_origins string origins))
    (coded z string (length origins) origins fit said.each) (map-append spelling (map (λ e. e.code) es) (flat_map (λ e. e.tests) es))
