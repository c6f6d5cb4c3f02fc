-- What is emitted of trees that fit is sound anywhere.
use Rattle.std.proofs.Common.{◌≡◌, ℕ, Bool, true, List}
use Rattle.std.specs.Prelude.{Decides}
use Rattle.play_meaning.specs.TranslatedScripts.{description_part, test_part}
use Rattle.play_meaning.specs.Trees.{Body, Condition, Text}
use Rattle.play_meaning.specs.declared.operand.Counts.{Counts}
use Rattle.play_meaning.specs.declared.operand.Use.TheVariants as role
use Rattle.story_code.specs.Emits.{AreEmitted, whole_body}
use Rattle.story_code.specs.Fitting.{BodyFits, ConditionFits, TextFits}
use Rattle.story_code.specs.SoundlyEmitted.{AreSoundAnywhere, among}
use Rattle.story_code.proofs.SoundBytes.{codes_sound}
use Rattle.story_code.proofs.SoundTrees.{body_sound, condition_sound, description_sound}

module _ (z : Counts) (first : ℕ) (fits : Bool) (so : fits ≡ true) (bytes : List (List ℕ)) where
  pub body_anywhere : (string : List ℕ → ℕ) (body : Body) → ((own codes : ℕ) → Decides fits (BodyFits (among z own codes) string 0 body)) → AreEmitted (whole_body string body first 0) bytes
      → AreSoundAnywhere z role.Body first (whole_body string body first 0) bytes
  body_anywhere string body told emitted = λ own codes numbers.
      codes_sound (among z own codes) role.Body first (whole_body string body first 0) bytes
      (body_sound (among z own codes) first string body ((told own codes).0 so) numbers) emitted

  pub condition_anywhere : (condition : Condition) → ((own codes : ℕ) → Decides fits (ConditionFits (among z own codes) 0 0 condition)) → AreEmitted (test_part condition first 0) bytes
      → AreSoundAnywhere z (role.Test 0) first (test_part condition first 0) bytes
  condition_anywhere condition told emitted = λ own codes numbers.
      codes_sound (among z own codes) (role.Test 0) first (test_part condition first 0) bytes
      (condition_sound (among z own codes) first condition ((told own codes).0 so) numbers) emitted

  pub description_anywhere : (string : List ℕ → ℕ) (text : Text) → ((own codes : ℕ) → Decides fits (TextFits (among z own codes) role.Describing string 0 text))
      → AreEmitted (description_part string text first 0) bytes → AreSoundAnywhere z role.Describing first (description_part string text first 0) bytes
  description_anywhere string text told emitted = λ own codes numbers.
      codes_sound (among z own codes) role.Describing first (description_part string text first 0) bytes
      (description_sound (among z own codes) first string text ((told own codes).0 so) numbers) emitted
