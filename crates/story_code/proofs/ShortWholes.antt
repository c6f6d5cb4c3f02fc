-- What few words say fits, and bytes can say all that is emitted of it.
use Rattle.std.proofs.Common.{◌≡◌, refl, ◌+◌, ◌*◌, Bool, true, false, length, arith}
use Rattle.play_meaning.specs.Translation.{body_part, condition_part, strings_of_body, strings_of_text, text_part}
use Rattle.play_meaning.specs.declared.instruction.Instruction.TheVariants.{Answer, Done}
use Rattle.play_meaning.specs.declared.operand.Use.TheVariants.{Describing}
use Rattle.story_code.specs.declared.emit.EmitFault.{EmitFault}
use Rattle.story_code.specs.declared.emit.EmitFault.TheVariants.{Memory, TooLong}
use Rattle.story_code.specs.ShortLaws.{ShortBodiesFit, ShortConditionsFit, ShortDescriptionsFit}
use Rattle.story_code.specs.Shortness.{words_of_body, words_of_condition, words_of_text}
use Rattle.story_code.proofs.ShortParts.{IsSaid, whole_said, within}
use Rattle.story_code.proofs.ShortPhrases.{body_said, text_said}
use Rattle.story_code.proofs.ShortConditions.{condition_said}
use Rattle.story_code.proofs.ShortFits.{body_fits, condition_fits, text_fits}

pub bodies_fit : ShortBodiesFit
bodies_fit z string first body counted short = (
  λ own codes. body_fits z own codes string 0 body (omega arith) short.0,
  whole_said (body_part string 0 body) Done (words_of_body body) (length (strings_of_body body)) first (body_said z counted string 0 body (omega arith) short.0 short.1.0) (omega arith) (refl, refl)
      short.1.0 short.1.1,
)

pub conditions_fit : ShortConditionsFit
conditions_fit z first condition counted short =
    let said : IsSaid (condition_part 0 condition) (105 * words_of_condition condition + 3 * 0) (words_of_condition condition) = within (condition_part 0 condition) _ _ _ _ (condition_said z counted 0 condition short.0 short.1) (omega arith) (omega arith) in
    (λ own codes. condition_fits z own codes 0 condition (omega arith) short.0, whole_said (condition_part 0 condition) Answer (words_of_condition condition) 0 first said (omega arith) (refl, refl) short.1 (omega arith))

pub descriptions_fit : ShortDescriptionsFit
descriptions_fit z string first text counted short = (
  λ own codes. text_fits z own codes Describing string 0 text (omega arith) short.0,
  whole_said (text_part string 0 text) Done (words_of_text text) (length (strings_of_text text)) first (text_said z counted Describing string 0 text short.0 short.1.0) (omega arith) (refl, refl)
      short.1.0 short.1.1,
)

-- nothing but memory is wanting where bytes can say it
pub only_memory : (fault : EmitFault) (can : Bool) → (fault ≡ TooLong → can ≡ false) → can ≡ true → fault ≡ Memory
only_memory TooLong can told is = let no : ⊥ = cc (told refl) in absurd no
only_memory Memory can told is = refl
