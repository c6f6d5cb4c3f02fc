use Rattle.std.proofs.Common.{◌∙◌, ap}
use Rattle.story_format.specs.Facts.{name_of}
use Rattle.story_format.specs.declared.tables.Tables.{Tables}
use Rattle.action_stages.specs.Stages.{progress_of, story_of}
use Rattle.story_player.proofs.EachThing.{named_first}
use Rattle.story_player.proofs.several.say_name_first.Goals as goal

pub returns-clause-said : goal.returns-clause-said
returns-clause-said g c =
    named_first (story_of c.args.stage.now) c.args.object c.name.result.now (progress_of c.args.stage.now) (progress_of c.say.new.stage) (progress_of c.say-2.new.stage)
    (c.name.ensures ∙ ap (λ (t : Tables). name_of t c.args.object) c.story.ensures) c.in_ok-say.ensures.said c.in_ok-say-2.ensures.said
