use Rattle.std.proofs.Common.{ap, sym, ◌∙◌}
use Rattle.world_store.specs.StorySettings.{setting_of}
use Rattle.action_stages.proofs.Making.{held_so, made_more}
use Rattle.action_stages.proofs.Returning.{behind_both}
use Rattle.action_stages.proofs.effects.make_all.Goals as goal

pub loop-change-preserved-then-is_ok : goal.loop-change-preserved-then-is_ok
loop-change-preserved-then-is_ok c =
    let so_far = c.loop-change.invariant in
    let one = c.make_one-answer.ensures in
    record {
      made =
          made_more c.make_one-answer.result (setting_of c.args.world.now.tables) (setting_of c.loop-change.world.tables) c.loop-change.yielded c.in-Some.change c.args.world.now.world
          c.loop-change.world.world c.make_one-answer.new.world.world (ap setting_of (sym so_far.tables))
          (held_so c.loop-change.answer (sym c.is_ok.ensures.value ∙ c.if-is_ok.true) so_far.made) one.made;
      refused = one.refused;
      tables = one.tables ∙ so_far.tables;
      behind = behind_both c.args.world.now c.loop-change.world c.make_one-answer.new.world so_far.behind one.behind;
    }
