use Rattle.std.proofs.Common.{◌∙◌}
use Rattle.action_stages.specs.Stages.{story_of}
use Rattle.scenes.proofs.Scenes.{scene_so}
use Rattle.scenes.proofs.passing.entry_of.Goals as goal

pub returns-in-Some-clause-entry : goal.returns-in-Some-clause-entry
returns-in-Some-clause-entry g c =
    scene_so c.story.result.now (story_of c.args.stage.now) c.from.result c.args.scene c.in-Some.entry.now (c.story.ensures ∙ c.world.ensures.tables ∙ c.requires.told) c.from.ensures
    c.in-Some.ensures.entry c.in-Some.ensures.begins c.in-Some.ensures.ends
