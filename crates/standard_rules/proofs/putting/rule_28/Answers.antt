use Rattle.std.proofs.Common.{◌∙◌, ◌++◌, ap, codes}
use Rattle.play_meaning.specs.Saying.{name_in}
use Rattle.play_meaning.specs.declared.naming.Naming.TheVariants.{CapitalDefinite}
use Rattle.world_meaning.specs.Texts.{said}
use Rattle.world_store.specs.StorySettings.{setting_of}
use Rattle.standard_rules.specs.Answers.{refused_if}
use Rattle.standard_rules.proofs.PuttingRules.{rule_28}
use Rattle.standard_rules.proofs.putting.rule_28.Goals as goal

pub returns : goal.returns
returns c =
    rule_28 c.args.world.now c.args.now.now c.in_ok-refused_from_name.field-0
    (c.in_ok-refused_from_name.ensures ∙ ap (λ is. refused_if is (name_in (setting_of c.args.world.now.tables) CapitalDefinite c.args.now.now.second ++ said (codes " is closed."))) c.is_otherwise-is.ensures)
