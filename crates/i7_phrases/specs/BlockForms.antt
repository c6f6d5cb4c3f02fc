-- What phrases say that others belong to, by their words.
use Rattle.std.specs.Prelude.{Option, None, Some}
use Rattle.i7_sentences.specs.declared.spoken.Spoken.{Spoken}
use Rattle.i7_sentences.specs.declared.spoken.Spoken.TheVariants as spoken
use Rattle.play_meaning.specs.Meant.{condition_meant, description_meant}
use Rattle.i7_conditions.specs.Conjoining.{condition_said}
use Rattle.i7_conditions.specs.Descriptions.{description_said}
use Rattle.i7_conditions.specs.Readings.{one}
use Rattle.i7_conditions.specs.Scopes.{Scope}
use Rattle.i7_conditions.specs.declared.found.Found.{Found}
use Rattle.i7_conditions.specs.declared.found.Found.TheVariants.{Read}
use Rattle.i7_conditions.specs.declared.line.Step.{Step}
use Rattle.i7_conditions.specs.declared.line.Step.TheVariants as step
use Rattle.i7_phrases.specs.Blocks.{Block, If, NoBlock, Otherwise, OtherwiseIf, Repeat}

abbrev pub block_said : Scope → Spoken → Option (Found Block)
block_said s (spoken.If words) = Some (one If (condition_said s words))
block_said s (spoken.OtherwiseIf words) = Some (one OtherwiseIf (condition_said s words))
block_said s spoken.Otherwise = Some (Read Otherwise)
block_said s (spoken.Repeat name through) = Some (one Repeat (description_said s through))
block_said s _ = None

-- ---- as it is kept: a line of a body

abbrev pub block_in : Step → Block
block_in (step.If c) = If (condition_meant c)
block_in (step.OtherwiseIf c) = OtherwiseIf (condition_meant c)
block_in step.Otherwise = Otherwise
block_in (step.Repeat d) = Repeat (description_meant d)
block_in (step.Does simple) = NoBlock
block_in (step.Instead simple) = NoBlock

abbrev pub found_block : Found Step → Found Block
found_block = one block_in
