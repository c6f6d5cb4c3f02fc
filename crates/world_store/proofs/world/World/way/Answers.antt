use Rattle.std.proofs.Common.{◌∙◌, ap, sym}
use Rattle.play_meaning.specs.Worlds.{location_of}
use Rattle.story_format.specs.Facts.{way_in}
use Rattle.world_store.specs.StorySettings.{setting_of}
use Rattle.world_store.proofs.Views.{beyond_here}
use Rattle.world_store.proofs.world.World.way.Goals as goal

pub returns-then-is_of-2 : goal.returns-then-is_of-2
unfolding setting_of
returns-then-is_of-2 c =
    let s = setting_of c.args.self.now.tables in
    c.way_in.ensures ∙ ap (λ e. way_in e c.args.direction) c.exits.ensures
    ∙ beyond_here s s.room_beyond c.args.direction c.location-here.result (location_of c.args.self.now.world) c.location-here.ensures
    (sym c.if-is_of.ensures) (sym c.if-is_of-2.ensures)
