use Rattle.std.proofs.Common.{◌∙◌, ◌++◌, ap, sym, codes}
use Rattle.play_meaning.specs.Saying.{listed}
use Rattle.play_meaning.specs.declared.naming.Naming.TheVariants.{Indefinite}
use Rattle.world_meaning.specs.Texts.{said}
use Rattle.world_store.specs.StorySettings.{setting_of}
use Rattle.standard_rules.specs.Answers.{are_any, said_if}
use Rattle.standard_rules.proofs.LookingRules.{rule_3_in_light}
use Rattle.standard_rules.proofs.looking.rule_3.Goals as goal

pub returns-in_ok-listed_if_any : goal.returns-in_ok-listed_if_any
returns-in_ok-listed_if_any c =
    rule_3_in_light c.args.world.now c.args.now.now c.in_ok-listed_if_any.field-0 (sym c.lit_here.ensures ∙ c.if-lit_here.true)
    (c.in_ok-listed_if_any.ensures
    ∙ ap (λ things. said_if (are_any things) (codes "You can see " ++ (listed (setting_of c.args.world.now.tables) Indefinite things ++ said (codes " here.")))) (c.as_slice.ensures.value ∙ c.in_ok-things.ensures))
