use Rattle.std.proofs.Common.{◌∙◌}
use Rattle.story_player.proofs.Keepings.{told_behind}
use Rattle.story_player.proofs.trial.tried.Goals as goal

pub returns-in-Ok-clause-behind : goal.returns-in-Ok-clause-behind
returns-in-Ok-clause-behind g c =
    told_behind c.tell_of.result.1 c.args.world c.tell_of.result.0 c.mark-mark.result c.tell_of.ensures.back (c.in-Ok.ensures.back ∙ c.new-stage.ensures.back)
