use Rattle.std.proofs.Common.{◌∙◌, ◌++◌, ap, codes}
use Rattle.play_meaning.specs.Saying.{name_in}
use Rattle.play_meaning.specs.Settings.{open_flag}
use Rattle.play_meaning.specs.Trees.{Second}
use Rattle.play_meaning.specs.Truth.{of_some}
use Rattle.play_meaning.specs.Values.{has_quality}
use Rattle.play_meaning.specs.declared.naming.Naming.TheVariants.{CapitalDefinite}
use Rattle.world_meaning.specs.Texts.{said}
use Rattle.world_store.specs.StorySettings.{setting_of}
use Rattle.standard_rules.specs.Answers.{refused_if}
use Rattle.standard_rules.proofs.GoingRules.{rule_39}
use Rattle.standard_rules.proofs.going.rule_39.Goals as goal

pub returns : goal.returns
returns c =
    let s = setting_of c.args.world.now.tables in
    rule_39 c.args.world.now c.args.now.now c.in_ok-refused_from_name.field-0
    (c.in_ok-refused_from_name.ensures ∙ ap (λ is. refused_if is (name_in s CapitalDefinite c.door_there-door.result ++ said (codes " is closed."))) c.is_otherwise-is.ensures
    ∙ ap (λ door. refused_if (of_some door (has_quality s c.args.world.now.world open_flag Second)) (name_in s CapitalDefinite door ++ said (codes " is closed."))) c.door_there-door.ensures)
