use Rattle.std.proofs.Common.{refl}
use Rattle.std.specs.Prelude.{false}
use Rattle.world_store.specs.StorySettings.{setting_of}
use Rattle.action_stages.proofs.Saying.{unseen}
use Rattle.action_stages.proofs.failing.access.Goals as goal

pub returns-else-is_seen-clause-answer : goal.returns-else-is_seen-clause-answer
returns-else-is_seen-clause-answer g c =
    unseen (setting_of (g.P.Playing.tables c.args.play.now)) c.args.slot c.args.noun.now (g.P.Playing.progress c.args.play.now) (g.P.Playing.progress c.fails.new.play) c.fails.result
    false c.if-is_seen.ensures refl c.fails.ensures.answer
