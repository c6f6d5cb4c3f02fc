use Rattle.std.proofs.Common.{ap, arith, length}
use Rattle.std.proofs.lemmas.List.{length-map}
use Rattle.story_format.specs.Facts.{text_at}
use Rattle.story_format.proofs.ValueLemmas.{few_values}
use Rattle.story_format.proofs.story.Story.value_count.Goals as goal

pub returns-clause-few : goal.returns-clause-few
returns-clause-few c = omega (arith, few_values c.args.self.now c.args.kind c.tables.ensures.story, ap length c.value_names.ensures, length-map c.value_names.result.now (text_at c.args.self.now.strings))
