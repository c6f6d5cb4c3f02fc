use Rattle.std.proofs.Common.{◌∙◌}
use Rattle.object_words.specs.Mentions.{number_in}
use Rattle.code_table.specs.Emitted.{codes_of_origins}
use Rattle.code_table.specs.Origins.{origins_meant}
use Rattle.story_format.specs.Making.{code_bytes}
use Rattle.story_format.proofs.CodedTables.{spelled_is}
use Rattle.story_format.proofs.coding.with_codes.Goals as goal

pub returns-in-Ok-clause-coded : goal.returns-in-Ok-clause-coded
returns-in-Ok-clause-coded c =
    let strings = c.args.strings.now in
    let said = origins_meant c.as_slice-texts.result.now c.as_slice-rules.result.now c.as_slice-scenes.result.now in
    λ i. record c.args.tables {
      codes = (c.new.ensures ∙ spelled_is c.in-Ok.codes.items (codes_of_origins (number_in strings) said) c.in-Ok.ensures.codes
          ∙ (λ j. code_bytes strings (origins_meant (c.as_slice-texts.ensures.value j) (c.as_slice-rules.ensures.value j) (c.as_slice-scenes.ensures.value j)))) i;
    }
