-- What is emitted of trees that fit is sound, with the tests that it names.
use Rattle.std.proofs.Common.{ap, refl, ℕ, List, [], ◌∷◌, None}
use Rattle.play_meaning.specs.Operands.{may_hold, names_what_is_there, operands_behind, with_given}
use Rattle.play_meaning.specs.Translation.{body_part, condition_part, seq, text_part}
use Rattle.play_meaning.specs.TranslatedScripts.{description_part, test_part}
use Rattle.play_meaning.specs.Trees.{Condition, Text}
use Rattle.play_meaning.specs.Trees as tree
use Rattle.play_meaning.specs.declared.instruction.Instruction.TheVariants.{Answer, Done}
use Rattle.play_meaning.specs.declared.operand.Counts.{Counts}
use Rattle.play_meaning.specs.declared.operand.Sort.TheVariants.{Truth}
use Rattle.play_meaning.specs.declared.operand.Use.TheVariants.{Body, Describing, Test}
use Rattle.story_code.specs.Emits.{whole_body}
use Rattle.story_code.specs.Fitting.{BodyFits, ConditionFits, TextFits}
use Rattle.story_code.specs.SoundlyEmitted.{AreNumbered, IsSoundlyEmitted}
use Rattle.story_code.proofs.SoundDescriptions.{one_below}
use Rattle.story_code.proofs.SoundConditions.{condition_gives}
use Rattle.story_code.proofs.InTurn.{names-append, numbered_first}
use Rattle.story_code.proofs.SoundPhrases.{body_does}
use Rattle.story_code.proofs.SoundTexts.{descriptions_say, text_does}
use Rattle.story_code.proofs.SoundWholes.{sound_whole}

module _ (z : Counts) (first : ℕ) where
  pub body_sound : (string : List ℕ → ℕ) (body : tree.Body) → BodyFits z string 0 body → AreNumbered z first (whole_body string body first 0).tests
      → IsSoundlyEmitted z Body first (whole_body string body first 0)
  unfolding may_hold seq names_what_is_there operands_behind
  body_sound string body fits numbers =
      let e = body_part string 0 body first 0 in
      let r = body_does z z.own string body [] 0 refl fits first 0 (numbered_first z first e.tests [] numbers) in
      record { code = sound_whole z Body e.code Done [] [] r.0 refl refl refl refl refl; tests = names-append z e.code (Done ∷ []) first e.tests [] r.1 refl }

  pub condition_sound : (condition : Condition) → ConditionFits z 0 0 condition → AreNumbered z first (test_part condition first 0).tests
      → IsSoundlyEmitted z (Test 0) first (test_part condition first 0)
  unfolding may_hold seq names_what_is_there operands_behind
  condition_sound condition fits numbers =
      let e = condition_part 0 condition first 0 in
      let g = condition_gives z z.own (Test 0) [] 0 refl condition 0 fits in
      let r = g.gives [] refl first 0 (numbered_first z first e.tests [] numbers) in
      record {
        code = sound_whole z (Test 0) e.code Answer (r.0 ∷ []) [] r.1.1.0 refl refl refl (ap (with_given None) (one_below r.0 Truth [] r.1.0)) refl;
        tests = names-append z e.code (Answer ∷ []) first e.tests [] r.1.1.1 refl;
      }

  pub description_sound : (string : List ℕ → ℕ) (text : Text) → TextFits z Describing string 0 text → AreNumbered z first (description_part string text first 0).tests
      → IsSoundlyEmitted z Describing first (description_part string text first 0)
  unfolding may_hold seq names_what_is_there operands_behind
  description_sound string text fits numbers =
      let e = text_part string 0 text first 0 in
      let r = text_does z z.own Describing [] 0 refl descriptions_say string text fits first 0 (numbered_first z first e.tests [] numbers) in
      record { code = sound_whole z Describing e.code Done [] [] r.0 refl refl refl refl refl; tests = names-append z e.code (Done ∷ []) first e.tests [] r.1 refl }
